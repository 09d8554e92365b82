use native.Mathlib.Omega.{arith}
use Rattle.rows.proofs.RowRangeLaws.{range_small, start_first, start_next, start_most}
use Rattle.rows.proofs.building.start_from.Goals as goal

-- a row's range is one of 2,048
pub overflow_mul-kind_at : goal.overflow_mul-kind_at
overflow_mul-kind_at c =
    let a = c.args in
    omega (arith, c.kind_at.ensures, range_small a.work.now a.rows c.requires.2 c.loop-s.s c.loop-s-test.true)

pub overflow_add-kind_at : goal.overflow_add-kind_at
overflow_add-kind_at c =
    let a = c.args in
    omega (arith, c.kind_at.ensures, c.first_at.ensures, range_small a.work.now a.rows c.requires.2 c.loop-s.s c.loop-s-test.true)

pub returns-then-i-kind_at : goal.returns-then-i-kind_at
returns-then-i-kind_at c =
    let a = c.args in
    let h = start_first a.work.now a.rows a.i c.loop-s.s c.loop-s-test.true
    (omega (arith, c.if-i-kind_at.true, c.kind_at.ensures, c.first_at.ensures)) in
    omega (arith, h)

pub loop-s-preserved : goal.loop-s-preserved
loop-s-preserved c =
    let a = c.args in
    start_next a.work.now a.rows a.i c.loop-s.s c.loop-s-test.true
    (omega (arith, c.if-i-kind_at.false, c.kind_at.ensures, c.first_at.ensures)) c.loop-s.invariant

pub returns : goal.returns
returns c = omega (arith, start_most c.args.work.now c.args.rows c.args.i)
