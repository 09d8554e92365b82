use Rattle.std.proofs.Common.{◌-◌, ◌≡◌}
use Rattle.lists.specs.Lists.{any, from}
use Rattle.fast.proofs.PrunedLaws.{moves}
use Rattle.fast.proofs.pruning.moves_before.Given as goal

-- the maps from m on decide
abbrev pub invariant-loop-m : goal.invariant-loop-m
invariant-loop-m l =
    let before = moves l.system.d l.system.work.now l.system.chart.now l.r in
    any before (from l.m (l.end - l.m)) ≡ any before (from l.start (l.end - l.start))
