use Rattle.knuth.specs.Matrix.{Laid, head_nodes}
use Rattle.knuth.proofs.building.put_heads.Given as goal

abbrev pub invariant-loop-j : goal.invariant-loop-j
invariant-loop-j l = Laid l.initial.links 0 l.links (head_nodes l.j)
