use Prim.Native.Nat.{◌-◌, ◌≤◌, ◌<◌}
use mathlib.Core.Bool.{true}
use mathlib.Core.Path.{◌≡◌}
use lib.ListN.{length}
use Rattle.masks.specs.Masks.{has}
use Rattle.rows.specs.Answering.{as_copy}
use Rattle.rows.proofs.TellingLaws.{laid_to}
use Rattle.rows.proofs.answers.lay_copy.Given as goal

abbrev pub invariant-loop-i : goal.invariant-loop-i
invariant-loop-i l =
    (length l.told ≡ length l.initial.told) × (l.i ≤ 128) × (l.i < 128 → has l.mask l.i ≡ true)
    × (l.told ≡ laid_to l.mask (as_copy l.c) l.initial.told l.i)

abbrev pub decreases-loop-i : goal.decreases-loop-i
decreases-loop-i l = 128 - l.i
