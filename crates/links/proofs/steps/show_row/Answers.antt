-- `show_row` meets its contract: after each turn the row's nodes below y are still hidden, and no others. Assumes nothing.
use native.Mathlib.Omega.{arith}
use Rattle.links.proofs.Rows.{row_first, showing_start, showing_one, showing_next, showing_end}
use Rattle.links.proofs.steps.show_row.Goals as goal

pub loop-y-init : goal.loop-y-init
loop-y-init c = λ w m s l q. (showing_start w s l q _ c.get-end.ensures.value, row_first w s l q _ c.get-first.ensures.value)

pub show_one-requires : goal.show_one-requires
show_one-requires c =
    let p = c.requires in
    let r = c.loop-y.invariant p.w p.old p.holds p.live p.so in
    showing_one p.w p.holds p.live r.0 (omega (arith, c.loop-y-test.true, r.1))

pub loop-y-preserved : goal.loop-y-preserved
loop-y-preserved c = λ w m s l q.
    let r = c.loop-y.invariant w m s l q in
    (showing_next w s l r.0 (omega (arith, c.loop-y-test.true, r.1)) _ c.show_one.ensures, r.1)

pub returns : goal.returns
returns c = λ w m s l q.
    let r = c.loop-y.invariant w m s l q in
    showing_end w s l r.0 (omega (arith, c.loop-y-test.false, r.1))
