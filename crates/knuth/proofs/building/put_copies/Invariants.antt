use Rattle.knuth.proofs.LaidLaws.{StockTo}
use Rattle.knuth.proofs.building.put_copies.Given as goal

abbrev pub invariant-loop-j : goal.invariant-loop-j
invariant-loop-j l = StockTo l.initial.links l.links l.system.d.size l.j l.system.chart.now
