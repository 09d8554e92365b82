use Rattle.links.specs.Cover.{Reduced, Holds, Run}
use Rattle.links.proofs.Select.{Running}
use Rattle.links.proofs.steps.purge_run.Given as goal

abbrev pub invariant-loop-y : goal.invariant-loop-y
invariant-loop-y l = (w : Reduced) → Holds w l.initial.links → Run w l.a l.b → Running w l.a l.b l.initial.links l.links l.y
