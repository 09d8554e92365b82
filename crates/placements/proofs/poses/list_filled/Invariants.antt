use Rattle.shape.specs.Coords.{as_cell}
use Rattle.shape.specs.Grids.{as_grid}
use Rattle.placements.proofs.PoseLaws.{ListedTo}
use Rattle.placements.proofs.poses.list_filled.Given as goal

-- the codes of the filled cells passed stand there
abbrev pub invariant-loop-cell : goal.invariant-loop-cell
invariant-loop-cell l = ListedTo (as_grid l.s l.cells) l.initial.codes l.v l.codes (as_cell l.u) l.n l.cell-index
