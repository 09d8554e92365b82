-- `copy_of` meets its contract. The loop's invariant: copy `left` of those from piece p on is copy i of all. Assumes nothing.
use Prim.Native.Nat.{ℕ, ◌+◌, ◌-◌, ◌<◌}
use mathlib.Core.List.{List}
use mathlib.Core.Path.{sym, ap, ◌∙◌}
use native.Mathlib.Omega.{arith}
use borrow.Author.Tests.{eq-eqb, ne_eqb}
use lib.ListN.{get_or}
use Rattle.definitions.specs.Kinds.{Copy}
use Rattle.rows.specs.Answering.{as_copy, no_copy}
use Rattle.rows.proofs.AnsweringLaws.{copies_from, copies_start, copy_found, copy_later, copy_other, copy_none}
use Rattle.rows.proofs.answers.copy_of.Goals as goal
use Rattle.rows.proofs.answers.copy_of.Goals.{else-kind_of-kind, then-kind_of-kind+else-left-count}

pub loop-p-init : goal.loop-p-init
loop-p-init c =
    let a = c.args in
    (omega arith, ap (λ (l : List Copy). get_or l a.i no_copy) (copies_start a.chart.now.pieces a.kind a.n))

pub returns-then-left-count : goal.returns-then-left-count
unfolding as_copy
returns-then-left-count c =
    let l = c.loop-p in
    let a = c.args in
    sym (copy_found a.chart.now.pieces a.kind a.n l.p l.left (omega arith)
    (eq-eqb _ _ (sym c.kind_of.ensures ∙ c.if-kind_of-kind.true)) (omega (arith, c.count_of-count.ensures.0))) ∙ l.invariant.1

pub loop-p-preserved : goal.loop-p-preserved
loop-p-preserved c =
    let l = c.loop-p in
    let a = c.args in
    let ps = a.chart.now.pieces in
    let rest : ℕ → Copy = λ m. get_or (copies_from ps a.kind (l.p + 1) (a.n - (l.p + 1))) m no_copy in
    let kind = c.kind_of.ensures in
    let h : l.p < a.n = omega arith in
    elim c.if-kind_of-kind.branch [
      | then-kind_of-kind+else-left-count v ↦ (
        omega arith,
        ap rest (v.left-is ∙ ap (λ (m : ℕ). l.left - m) v.count_of-count.ensures.0)
            ∙ sym (copy_later ps a.kind a.n l.p l.left h (eq-eqb _ _ (sym kind ∙ v.if-kind_of-kind.true))
            (omega (arith, v.count_of-count.ensures.0, v.if-left-count.false)))
            ∙ l.invariant.1,
      )
      | else-kind_of-kind v ↦ (
        omega arith,
        ap rest v.left-is ∙ sym (copy_other ps a.kind a.n l.p l.left h (ne_eqb _ _ (λ e. v.if-kind_of-kind.false (kind ∙ e)))) ∙ l.invariant.1,
      )
    ]

pub returns : goal.returns
unfolding as_copy
returns c =
    let l = c.loop-p in
    let a = c.args in
    sym (copy_none a.chart.now.pieces a.kind a.n l.p l.left (omega arith)) ∙ l.invariant.1
