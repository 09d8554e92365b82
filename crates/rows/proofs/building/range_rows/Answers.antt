use Prim.Native.Nat.{◌+◌}
use mathlib.Core.Path.{◌≡◌, subst}
use native.Mathlib.Omega.{arith}
use lib.ListN.{length-set}
use Rattle.rows.proofs.RowRangeLaws.{Begun, begun_next, begun_all, start_most, starts_up}
use Rattle.rows.proofs.building.range_rows.Goals as goal

pub overflow_cast-start : goal.overflow_cast-start
overflow_cast-start c = omega (arith, start_most c.args.work.now c.args.rows c.loop-i.i)

pub loop-i-preserved : goal.loop-i-preserved
loop-i-preserved c =
    let a = c.args in
    let l = c.loop-i in
    let up = starts_up a.work.now a.rows l.i (l.i + 1) (omega arith) in (
      simp length-set l.invariant.0,
      omega (arith, up),
      begun_next a.work.now a.rows l.starts l.i c.start_from-r.result (omega arith) c.start_from-r.ensures l.invariant.2,
    )

pub returns : goal.returns
returns c =
    let a = c.args in
    let l = c.loop-i in
    let e : l.i ≡ 2049 = omega arith in
    begun_all a.work.now a.rows l.starts c.requires.2 (subst (Begun a.work.now a.rows l.starts) e l.invariant.2)
