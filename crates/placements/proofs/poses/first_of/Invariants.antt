use Prim.Native.Nat.{◌<◌}
use mathlib.Core.Path.{◌≡◌}
use lib.ListN.{length}
use Rattle.shape.specs.Orders.{axis_list}
use Rattle.placements.specs.Poses.{cell_of}
use Rattle.placements.proofs.PoseLaws.{first_from}
use Rattle.placements.proofs.poses.first_of.Given as goal

-- the first of the cells from k on
abbrev pub invariant-loop-k : goal.invariant-loop-k
invariant-loop-k l = (l.k < length l.codes) × (cell_of l.ahead ≡ first_from (axis_list l.first l.second l.third) l.codes l.k)
