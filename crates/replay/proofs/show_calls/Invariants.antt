-- `show_calls` ends: each call that is read leaves less of the text. Assumes nothing.
use Rattle.std.proofs.Common.{length}
use Rattle.replay.proofs.show_calls.Given as goal

abbrev pub decreases-loop-reader : goal.decreases-loop-reader
decreases-loop-reader g l = length l.reader.text.now
