-- `purge_run` meets its contract: after each turn the columns of the nodes before y are covered. Assumes nothing.
use Rattle.links.proofs.Select.{running_start, running_coverable, running_next}
use Rattle.links.proofs.steps.purge_run.Goals as goal

pub loop-y-init : goal.loop-y-init
loop-y-init c = λ w s r. running_start w s r

pub purge_column-requires : goal.purge_column-requires
purge_column-requires c =
    let p = c.requires in
    let v = c.loop-y.invariant p.w p.holds p.run in
    running_coverable p.w p.holds p.run v c.loop-y-test.true _ c.get-c.ensures.value

pub loop-y-preserved : goal.loop-y-preserved
loop-y-preserved c =
    λ w s r. running_next w s r (c.loop-y.invariant w s r) c.loop-y-test.true _ c.get-c.ensures.value _ c.purge_column.ensures
