-- `any_clear` meets its contract: what the rows from r on say is what those from the start on do. Assumes nothing.
use Rattle.std.proofs.Common.{sym, ◌∙◌}
use Rattle.lists.proofs.RangeLaws.{any_next}
use Rattle.fast.proofs.search.any_clear.Invariants.{clear}
use Rattle.fast.proofs.search.any_clear.Goals as goal

pub loop-r-preserved : goal.loop-r-preserved
loop-r-preserved c =
    let a = c.args in
    sym (any_next (clear a.work.now a.covered) c.loop-r.r a.end c.loop-r-test.true (sym c.is_clear.ensures ∙ c.if-is_clear.false)) ∙ c.loop-r.invariant
