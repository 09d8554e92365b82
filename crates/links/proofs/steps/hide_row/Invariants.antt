use mathlib.Core.Path.{◌≡◌}
use mathlib.Core.Bool.{true}
use Rattle.links.specs.Cover.{Reduced, Holds}
use Rattle.links.proofs.Rows.{Rowed}
use Rattle.links.proofs.steps.hide_row.Given as goal

abbrev pub invariant-loop-y : goal.invariant-loop-y
invariant-loop-y l = (w : Reduced) → Holds w l.initial.links → w.alive l.x ≡ true → Rowed w l.initial.links l.x l.links l.y × (l.end ≡ w.t.hi l.x)
