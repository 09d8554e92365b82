-- `hide_row` meets its contract: after each turn the row's nodes below y are hidden. Assumes nothing.
use native.Mathlib.Omega.{arith}
use Rattle.links.proofs.Rows.{hiding_start, hiding_one, hiding_next, hiding_end, row_end}
use Rattle.links.proofs.steps.hide_row.Goals as goal

pub loop-y-init : goal.loop-y-init
loop-y-init c = λ w s l. (hiding_start w s l _ c.get-first.ensures.value, row_end w s l _ c.get-end.ensures.value)

pub hide_one-requires : goal.hide_one-requires
hide_one-requires c =
    let p = c.requires in
    let r = c.loop-y.invariant p.w p.holds p.live in
    hiding_one p.w p.holds p.live r.0 (omega (arith, c.loop-y-test.true, r.1))

pub loop-y-preserved : goal.loop-y-preserved
loop-y-preserved c = λ w s l.
    let r = c.loop-y.invariant w s l in
    (hiding_next w s l r.0 (omega (arith, c.loop-y-test.true, r.1)) _ c.hide_one.ensures, r.1)

pub returns : goal.returns
returns c = λ w s l.
    let r = c.loop-y.invariant w s l in
    hiding_end w s l r.0 (omega (arith, c.loop-y-test.false, r.1))
