-- The pieces of the lines passed are read, and `rest` is left.
use Rattle.std.proofs.Common.{length}
use Rattle.files.proofs.ReadingLaws.{ReadTo}
use Rattle.files.proofs.reading.read_pieces.Given as goal

abbrev pub invariant-loop-line : goal.invariant-loop-line
invariant-loop-line l = ReadTo l.text l.initial.cells l.rest l.pieces l.used l.cells

abbrev pub decreases-loop-line : goal.decreases-loop-line
decreases-loop-line l = length l.rest
