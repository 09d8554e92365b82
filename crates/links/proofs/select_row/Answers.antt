-- `select_row` meets its contract: it takes a copy of the row's kind and covers the columns that are used up. Assumes nothing.
use Rattle.links.proofs.Search.{sel_takes, sel_runnable, sel_done, sel_first}
use Rattle.links.proofs.select_row.Goals as goal

pub take_copy-a-requires : goal.take_copy-a-requires
take_copy-a-requires c =
    let p = c.requires in
    sel_takes p.seek p.live _ _ c.get-first.ensures.value c.get-end.ensures.value

pub purge_run-requires : goal.purge_run-requires
purge_run-requires c =
    let p = c.requires in
    sel_runnable p.seek p.live _ _ c.get-first.ensures.value c.get-end.ensures.value _ _ c.take_copy-a.ensures.less c.take_copy-a.ensures.first

pub returns : goal.returns
returns c = (record {
  done = λ w uncovered copies primary left s l. sel_done s l _ _ c.get-first.ensures.value c.get-end.ensures.value _ _ c.take_copy-a.ensures.less
      c.take_copy-a.ensures.first _ c.purge_run.ensures;
  first = λ w uncovered copies primary left s l. sel_first s l _ _ c.get-first.ensures.value c.get-end.ensures.value _ _
      c.take_copy-a.ensures.less c.take_copy-a.ensures.first;
})
