-- `purge_column` meets its contract: after each turn the column's live rows before k are hidden. Assumes nothing.
use Rattle.links.proofs.Cover.{walk_start, walk_hidable, walk_small, walk_less, walk_next}
use Rattle.links.proofs.steps.purge_column.Goals as goal

pub loop-k-init : goal.loop-k-init
loop-k-init c = λ w s l o. walk_start w s l o _ c.get-k.ensures.value

pub hide_row-requires : goal.hide_row-requires
hide_row-requires c =
    let p = c.requires in
    let v = c.loop-k.invariant p.w p.holds p.column p.is_open in
    walk_hidable p.w p.holds p.column p.is_open v c.loop-k-test.true

pub get-k-requires-in-loop-k : goal.get-k-requires-in-loop-k
get-k-requires-in-loop-k c =
    let p = c.requires in
    let v = c.loop-k.invariant p.w p.holds p.column p.is_open in
    walk_small p.w p.holds p.column p.is_open v c.loop-k-test.true _ c.hide_row.ensures

pub loop-k-smaller : goal.loop-k-smaller
loop-k-smaller c =
    let p = c.requires in
    let v = c.loop-k.invariant p.w p.holds p.column p.is_open in
    walk_less p.w p.holds p.column p.is_open v c.loop-k-test.true _ c.hide_row.ensures _ c.get-k-in-loop-k.ensures.value

pub loop-k-preserved : goal.loop-k-preserved
loop-k-preserved c =
    λ w s l o. walk_next w s l o (c.loop-k.invariant w s l o) c.loop-k-test.true _ c.hide_row.ensures _ c.get-k-in-loop-k.ensures.value
