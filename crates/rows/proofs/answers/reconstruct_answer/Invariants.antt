-- `reconstruct_answer` meets its contract. The loop's invariant: the first 2 i bytes that are told stand from `at` on, and the rest is as it was.
-- Assumes nothing.
use Prim.Native.Nat.{◌*◌}
use mathlib.Core.Path.{◌≡◌}
use lib.ListN.{length, take}
use lib.Seq.{paste}
use Rattle.rows.specs.Answering.{told_of}
use Rattle.rows.proofs.AnsweringLaws.{bytes_over}
use Rattle.rows.proofs.answers.reconstruct_answer.Given as goal

abbrev pub invariant-loop-i : goal.invariant-loop-i
invariant-loop-i l =
    (length l.answers ≡ length l.initial.answers)
    × (l.answers ≡ paste l.initial.answers l.at (bytes_over (told_of l.told) (take l.i-end l.chart.scans)) (2 * l.i))
