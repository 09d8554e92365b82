use mathlib.Core.Path.{◌≡◌}
use lib.Seq.{paste}
use Rattle.shape.specs.Coords.{as_sides, as_cell}
use Rattle.shape.specs.CubicGrids.{grid_of}
use Rattle.shape.specs.Stripping.{part_of}
use Rattle.shape.proofs.stripping.copy_part.Given as goal

abbrev pub invariant-loop-j : goal.invariant-loop-j
invariant-loop-j l = l.out ≡ paste l.initial.out l.start (part_of (grid_of l.grid) (as_cell l.part.at) (as_sides l.part.sides)) l.j
