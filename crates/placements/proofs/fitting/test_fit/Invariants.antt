use Rattle.std.specs.Prelude.{◌≤◌}
use Rattle.shape.specs.Coords.{as_cell}
use Rattle.shape.specs.CubicGrids.{grid_of}
use Rattle.placements.proofs.FitLaws.{OnFrom}
use Rattle.placements.proofs.fitting.test_fit.Given as goal

-- the cells from k on lie on filled cells
abbrev pub invariant-loop-k : goal.invariant-loop-k
invariant-loop-k l = (l.k ≤ l.pose.size) × OnFrom (grid_of l.board) (as_cell l.at) l.pose l.k
