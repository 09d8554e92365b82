-- `unselect_row` meets its contract: it uncovers the columns and gives the copy back, in the reverse order of `select_row`. Assumes nothing.
use Rattle.links.proofs.Search.{unsel_ran, unsel_gives, unsel_back}
use Rattle.links.proofs.unselect_row.Goals as goal

pub unpurge_run-requires : goal.unpurge_run-requires
unpurge_run-requires c =
    let p = c.requires in
    unsel_ran p.seek p.live p.so _ p.first _ _ c.get-first.ensures.value c.get-end.ensures.value

pub give_copy-requires : goal.give_copy-requires
give_copy-requires c =
    let p = c.requires in
    unsel_gives p.seek p.live p.so _ p.first _ _ c.get-first.ensures.value c.get-end.ensures.value _
    c.unpurge_run.ensures

pub returns : goal.returns
returns c =
    (λ w uncovered copies primary left m s l f e. unsel_back s l e _ f _ _ c.get-first.ensures.value c.get-end.ensures.value _
    c.unpurge_run.ensures _ c.give_copy.ensures)
