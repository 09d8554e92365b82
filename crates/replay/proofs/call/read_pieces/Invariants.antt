-- `read_pieces` meets its contract: the text does not grow. Assumes nothing.
use Rattle.std.proofs.Common.{◌≤◌, length}
use Rattle.replay.proofs.call.read_pieces.Given as goal

abbrev pub invariant-loop-i : goal.invariant-loop-i
invariant-loop-i l = length l.reader.text.now ≤ length l.initial.reader.text.now
