-- `digits` meets its contract: the text does not grow. Assumes nothing.
use Rattle.std.proofs.Common.{◌≤◌, length}
use Rattle.replay.proofs.reader.Reader.digits.Given as goal

abbrev pub invariant-loop-i : goal.invariant-loop-i
invariant-loop-i l = length l.self.text.now ≤ length l.initial.self.text.now
