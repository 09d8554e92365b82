use Rattle.std.proofs.Common.{◌-◌, get_or, set}
use Rattle.fast.proofs.AheadLaws.{Unplaced}
use Rattle.fast.proofs.search.goes_on.Given as goal

-- no row of a kind before k can be placed
abbrev pub invariant-loop-k : goal.invariant-loop-k
invariant-loop-k l = Unplaced l.system.d l.system.work.now l.system.chart.now (set l.state.left l.kind (get_or l.state.left l.kind 0 - 1)) l.covered l.k
