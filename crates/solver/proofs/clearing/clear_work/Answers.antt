-- `clear_work` meets its contract: the words that `fill` was lent are 0 afterwards, and those behind are as they were. Assumes nothing.
use Rattle.solver.proofs.ClearingLaws.{cleared_by}
use Rattle.solver.proofs.clearing.clear_work.Goals as goal

pub returns : goal.returns
returns c = cleared_by 8192 c.args.work.now c.requires (c.fill.ensures.after (λ y e. e))
