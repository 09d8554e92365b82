-- `number` meets its contract: the text does not grow, and each digit leaves less of it. Assumes nothing.
use Rattle.std.proofs.Common.{◌≤◌, length}
use Rattle.replay.proofs.reader.Reader.number.Given as goal

abbrev pub invariant-loop-d : goal.invariant-loop-d
invariant-loop-d l = length l.self.text.now ≤ length l.initial.self.text.now

abbrev pub decreases-loop-d : goal.decreases-loop-d
decreases-loop-d l = length l.self.text.now
