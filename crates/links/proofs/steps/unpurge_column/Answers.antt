-- `unpurge_column` meets its contract: after each turn the column's live rows up to k are still hidden, and no others. Assumes nothing.
use Rattle.links.proofs.Cover.{unwalk_start, unwalk_hidden, unwalk_small, unwalk_less, unwalk_next, unwalk_end}
use Rattle.links.proofs.steps.unpurge_column.Goals as goal

pub loop-k-init : goal.loop-k-init
loop-k-init c = λ w m s l o q. unwalk_start w s l o _ q _ c.get-k.ensures.value

pub show_row-requires : goal.show_row-requires
show_row-requires c =
    let p = c.requires in
    let v = c.loop-k.invariant p.w p.old p.holds p.column p.is_open p.so in
    unwalk_hidden p.w p.holds p.column p.is_open v c.loop-k-test.true

pub get-k-requires-in-loop-k : goal.get-k-requires-in-loop-k
get-k-requires-in-loop-k c =
    let p = c.requires in
    let v = c.loop-k.invariant p.w p.old p.holds p.column p.is_open p.so in
    unwalk_small p.w p.holds p.column p.is_open v c.loop-k-test.true _ c.show_row.ensures

pub loop-k-smaller : goal.loop-k-smaller
loop-k-smaller c =
    let p = c.requires in
    let v = c.loop-k.invariant p.w p.old p.holds p.column p.is_open p.so in
    unwalk_less p.w p.holds p.column p.is_open v c.loop-k-test.true _ c.show_row.ensures _ c.get-k-in-loop-k.ensures.value

pub loop-k-preserved : goal.loop-k-preserved
loop-k-preserved c =
    λ w m s l o q. unwalk_next w s l o (c.loop-k.invariant w m s l o q) c.loop-k-test.true _ c.show_row.ensures _ c.get-k-in-loop-k.ensures.value

pub returns : goal.returns
returns c = λ w m s l o q. unwalk_end w s l o (c.loop-k.invariant w m s l o q) c.loop-k-test.false
