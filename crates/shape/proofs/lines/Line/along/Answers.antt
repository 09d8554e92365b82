-- `along` meets its contract: a side of the box is at most 8. Assumes nothing.
use native.Mathlib.Omega.{arith}
use Rattle.shape.specs.Coords.{as_sides, axis_number}
use Rattle.shape.proofs.PlaceLaws.{side_short}
use Rattle.shape.proofs.lines.Line.along.Goals as goal

pub invariant_of-result : goal.invariant_of-result
invariant_of-result c = record {
  few = omega (arith, c.pick.ensures.of_sides, side_short (as_sides c.args.s) c.requires (axis_number c.args.axis));
  near = c.stride.ensures.1;
}
