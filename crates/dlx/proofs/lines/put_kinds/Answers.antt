-- Each turn of the loop puts the item of a kind that has copies, and the bar before the first. Assumes nothing.
use Rattle.std.proofs.Common.{◌≡◌, ◌≤◌, ◌+◌, ◌*◌, List, ℕ, ltb, subst, refl, sym, ap, ◌∙◌, map, arith}
use borrow.Author.Tests.{lt-ltb, le-ltb}
use Rattle.lists.specs.Lists.{below, keep}
use Rattle.definitions.specs.Dlx1.{barred, kind_item}
use Rattle.rows.specs.Charts.{kind_copies}
use Rattle.texts.specs.Put.{Put}
use Rattle.definitions.specs.Dlx1.{parted}
use Rattle.dlx.proofs.LineLaws.{kinds_to, kinds_skip, put_first_kind, put_next_kind, stocked_is}
use Rattle.texts.proofs.PutLaws.{put_by, put_from}
use Rattle.dlx.proofs.lines.put_kinds.Goals as goal
use Rattle.dlx.proofs.lines.put_kinds.Goals.{then-copies_of-gt0, then-end-at, else-end-at, else-copies_of-gt0}

pub loop-k-preserved : goal.loop-k-preserved
loop-k-preserved c =
    let a = c.args in
    let l = c.loop-k in
    let copies = kind_copies a.chart.now.kinds in
    let j = c.if-copies_of-gt0 in
    let most : j.end ≤ a.at + 5 * (l.k + 1) + 2 =
    elim j.branch [
      | then-copies_of-gt0 w ↦ elim w.if-end-at.branch [ then-end-at v ↦ omega arith | else-end-at v ↦ omega arith ]
      | else-copies_of-gt0 w ↦ omega arith
    ] in
    let put : Put a.line.now a.at (kinds_to (λ k. ltb 0 (copies k)) (l.k + 1)) j.line j.end =
    elim j.branch [
      | then-copies_of-gt0 w ↦
          let z = w.put_next-end in
          let has = lt-ltb 0 (copies l.k) (omega arith) in
          put_by w.line-is w.end-is refl (
          elim w.if-end-at.branch [
            | then-end-at v ↦ put_first_kind (λ k. ltb 0 (copies k)) l.k has l.invariant.2 (omega arith) (omega arith) (put_from v.line-is v.end-is z.ensures.0)
            | else-end-at v ↦ put_next_kind (λ k. ltb 0 (copies k)) l.k has l.invariant.2 (omega arith) v.if-end-at.false (put_from v.line-is v.end-is z.ensures.0)
          ])
      | else-copies_of-gt0 w ↦ put_by w.line-is w.end-is (kinds_skip (λ k. ltb 0 (copies k)) l.k (le-ltb 0 (copies l.k) (omega arith))) l.invariant.2
    ] in
    (j.auto.line ∙ l.invariant.0, most, put)

pub returns : goal.returns
returns c =
    let a = c.args in
    let l = c.loop-k in
    let copies = kind_copies a.chart.now.kinds in
    let all : l.k ≡ a.kinds = omega arith in (
      subst (λ (ks : List ℕ). Put a.line.now a.at (parted (barred (map kind_item ks))) l.line l.end)
          (ap (λ (n : ℕ). keep (λ k. ltb 0 (copies k)) (below n)) all ∙ sym (stocked_is copies a.kinds)) l.invariant.2,
      omega arith,
    )
