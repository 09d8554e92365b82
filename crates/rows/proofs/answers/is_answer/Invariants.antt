-- `is_answer` meets its contract. The loop's invariant: the first 2 i bytes are those that are told. Assumes nothing.
use lib.ListN.{take}
use Rattle.rows.specs.Answering.{told_of}
use Rattle.rows.proofs.AnsweringLaws.{Agreed, bytes_over}
use Rattle.rows.proofs.answers.is_answer.Given as goal

abbrev pub invariant-loop-i : goal.invariant-loop-i
invariant-loop-i l = Agreed (bytes_over (told_of l.told) (take l.i-end l.chart.scans)) l.last l.i-end l.i
