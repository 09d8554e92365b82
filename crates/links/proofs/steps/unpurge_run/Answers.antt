-- `unpurge_run` meets its contract: after each turn the columns of the nodes before y are still covered, and no others. Assumes nothing.
use Rattle.links.proofs.Select.{ran_covered, ran_next, ran_end}
use Rattle.links.proofs.steps.unpurge_run.Goals as goal

pub unpurge_column-requires : goal.unpurge_column-requires
unpurge_column-requires c =
    let p = c.requires in
    let v = c.loop-y.invariant p.w p.old p.holds p.run p.so in
    ran_covered p.w p.holds p.run v c.loop-y-test.true _ c.get-c.ensures.value

pub loop-y-preserved : goal.loop-y-preserved
loop-y-preserved c =
    λ w m s r q. ran_next w s r (c.loop-y.invariant w m s r q) c.loop-y-test.true _ c.get-c.ensures.value _ c.unpurge_column.ensures

pub returns : goal.returns
returns c = λ w m s r q. ran_end w s r (c.loop-y.invariant w m s r q) c.loop-y-test.false
