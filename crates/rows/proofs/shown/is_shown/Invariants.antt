use Prim.Native.Nat.{◌-◌}
use Rattle.rows.proofs.ShownLaws.{ShownTo}
use Rattle.rows.proofs.shown.is_shown.Given as goal

abbrev pub invariant-loop-c : goal.invariant-loop-c
invariant-loop-c l = ShownTo l.mask l.shown l.piece l.copy l.c

abbrev pub decreases-loop-c : goal.decreases-loop-c
decreases-loop-c l = 128 - l.c
