-- `moved_word` meets its contract. The loop's invariant: `rest` is what is left of the word from number i on, shifted down, and the images taken up so far and
-- those of the numbers from i on are all (`TakenUp`). The measure is what is left of 64 numbers. Assumes nothing.
use Prim.Native.Nat.{◌+◌, ◌-◌, ◌/◌, ◌^◌, ◌≤◌}
use mathlib.Core.Path.{◌≡◌}
use lib.ListN.{get_or}
use Rattle.masks.specs.Masks.{has, hit}
use Rattle.rows.proofs.MovedLaws.{TakenUp}
use Rattle.rows.proofs.images.moved_word.Given as goal

abbrev pub invariant-loop-rest : goal.invariant-loop-rest
invariant-loop-rest l =
    (l.i ≤ 64) × (l.rest ≡ l.word / 2 ^ l.i) × TakenUp (hit l.word) (λ j. get_or l.chart.images (l.start + j) 0) l.size l.i (has l.moved)

abbrev pub decreases-loop-rest : goal.decreases-loop-rest
decreases-loop-rest l = 64 - l.i
