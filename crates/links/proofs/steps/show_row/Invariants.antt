use Prim.Native.Nat.{ℕ}
use mathlib.Core.Path.{◌≡◌}
use mathlib.Core.List.{List}
use mathlib.Core.Bool.{true}
use Rattle.links.specs.Cover.{Reduced, Holds, hide}
use Rattle.links.proofs.Rows.{Rowed}
use Rattle.links.proofs.steps.show_row.Given as goal

abbrev pub invariant-loop-y : goal.invariant-loop-y
invariant-loop-y l = (w : Reduced) (m : List ℕ) → Holds w m → w.alive l.x ≡ true → l.initial.links ≡ hide w.t l.x m
    → Rowed w m l.x l.links l.y × (l.first ≡ w.t.lo l.x)
