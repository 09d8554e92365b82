-- `lay_copy` meets its contract. The loop's invariant: i is a cell of the mask or past the last, and the copy is laid on the cells before i. Assumes nothing.
use Prim.Native.Nat.{◌+◌}
use mathlib.Core.Path.{◌≡◌, ap, ◌∙◌}
use native.Mathlib.Omega.{arith}
use borrow.Author.Rules.{rules}
use lib.ListN.{length-set}
use Rattle.rows.specs.Answering.{as_copy}
use Rattle.rows.proofs.TellingLaws.{laid_to, laid_none, laid_on, laid_hit, laid_all}
use Rattle.rows.proofs.answers.lay_copy.Goals as goal

pub loop-i-init : goal.loop-i-init
loop-i-init c =
    let a = c.args in
    let n = c.next_cell-i.ensures in (
      search rules,
      n.up_to,
      n.stops,
      laid_none a.mask (as_copy a.c) a.told.now (omega arith) ∙ laid_on a.mask (as_copy a.c) a.told.now (omega arith) 0 _ (omega arith) n,
    )

pub loop-i-preserved : goal.loop-i-preserved
unfolding as_copy
loop-i-preserved c =
    let a = c.args in
    let l = c.loop-i in
    let n = c.next_cell-i-in-loop-i.ensures in (
      simp length-set l.invariant.0,
      n.up_to,
      n.stops,
      laid_hit a.mask (as_copy a.c) a.told.now (omega arith) l.i (omega arith) (l.invariant.2 (omega arith)) l.told l.invariant.3
          ∙ laid_on a.mask (as_copy a.c) a.told.now (omega arith) (l.i + 1) _ (omega arith) n,
    )

pub returns : goal.returns
returns c =
    let a = c.args in
    let e : c.loop-i.i ≡ 128 = omega arith in
    c.loop-i.invariant.3 ∙ ap (laid_to a.mask (as_copy a.c) a.told.now) e ∙ laid_all a.mask (as_copy a.c) a.told.now (omega arith)
