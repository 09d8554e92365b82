use Rattle.std.proofs.Common.{◌-◌, ◌≡◌}
use Rattle.lists.specs.Lists.{all, from}
use Rattle.fast.proofs.PrunedLaws.{mirrors}
use Rattle.fast.proofs.pruning.always_mirrorable.Given as goal

-- the kinds from k on decide
abbrev pub invariant-loop-k : goal.invariant-loop-k
invariant-loop-k l =
    let n = l.system.d.kinds in all (mirrors l.system.chart.now n) (from l.k (n - l.k)) ≡ all (mirrors l.system.chart.now n) (from 0 (n - 0))
