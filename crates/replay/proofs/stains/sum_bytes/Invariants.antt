-- `sum_bytes` meets its contract: the sum stays below the modulus, so that 257 times it and a byte fit. Assumes nothing.
use Rattle.std.proofs.Common.{◌<◌}
use Rattle.replay.proofs.stains.sum_bytes.Given as goal

abbrev pub invariant-loop-byte : goal.invariant-loop-byte
invariant-loop-byte l = l.sum < 4294967291
