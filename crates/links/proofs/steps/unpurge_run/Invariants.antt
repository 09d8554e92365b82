use Prim.Native.Nat.{ℕ, ◌-◌}
use mathlib.Core.Path.{◌≡◌}
use mathlib.Core.List.{List}
use Rattle.links.specs.Cover.{Reduced, Holds, Run, run_to}
use Rattle.links.proofs.Select.{Running}
use Rattle.links.proofs.steps.unpurge_run.Given as goal

abbrev pub invariant-loop-y : goal.invariant-loop-y
invariant-loop-y l = (w : Reduced) (m : List ℕ) → Holds w m → Run w l.a l.b → l.initial.links ≡ run_to w l.a m (l.b - l.a)
    → Running w l.a l.b m l.links l.y
