use Rattle.shape.specs.CubicGrids.{grid_of}
use Rattle.shape.proofs.StrippingLaws.{AllMet, low_of, high_of}
use Rattle.shape.proofs.stripping.window_of.Given as goal

abbrev pub invariant-loop-i : goal.invariant-loop-i
invariant-loop-i l = AllMet (grid_of l.grid).sides (grid_of l.grid).cells l.i (low_of l.span) (high_of l.span)
