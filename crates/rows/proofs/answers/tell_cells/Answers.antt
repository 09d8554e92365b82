use Prim.Native.Nat.{ℕ, ◌+◌, ◌-◌, ◌≤◌, ◌<◌}
use mathlib.Core.Bool.{Bool, cond}
use mathlib.Core.List.{List}
use mathlib.Core.Path.{◌≡◌, sym, ap, ap₂, ◌∙◌}
use native.Mathlib.Omega.{arith}
use borrow.Author.Rules.{rules}
use borrow.Author.Tests.{eq-eqb}
use lib.ListN.{length, get_or, length-replicate}
use Rattle.definitions.specs.Kinds.{Copy}
use Rattle.definitions.specs.Packing.{used}
use Rattle.rows.specs.Rows.{row_at, cells_of}
use Rattle.rows.specs.Systems.{owned_in}
use Rattle.rows.specs.declared.Dims.{Dims}
use Rattle.rows.specs.Answering.{Held, copies_by, laid, no_copy}
use Rattle.rows.proofs.AnsweringLaws.{rows_to, rows_fewer}
use Rattle.rows.proofs.TellingLaws.{told_from, told_long, told_none, told_row, told_all, used_here, used_none}
use Rattle.rows.proofs.answers.tell_cells.Goals as goal
use Rattle.rows.proofs.answers.tell_cells.Goals.{else-k-kind, then-k-kind}
use Rattle.rows.specs.declared.chart.Chart.{Chart}

-- how many of the first i rows of a path are of the kind k, by how many of those before the last are
one_more : (d : Dims) (work : List ℕ) (chart : Chart) (path : List ℕ) (i k : ℕ) → Held d work chart path → 0 < i → i ≤ length path
    → (row_at work (get_or path (i - 1) 0)).kind ≡ k → used (rows_to work path i) k ≡ used (rows_to work path (i - 1)) k + 1
one_more d work chart path i k held some few is =
    let e : i - 1 + 1 ≡ i = omega arith in
    ap (λ (j : ℕ). used (rows_to work path j) k) (sym e) ∙ used_here d work chart path held (i - 1) (omega arith) k
    ∙ ap (λ (b : Bool). used (rows_to work path (i - 1)) k + cond b 1 0) (eq-eqb _ _ is)

pub loop-i-init : goal.loop-i-init
loop-i-init c =
    let a = c.args in
    let held = c.requires in (
      search rules,
      sym (used_none a.d a.work.now a.chart.now a.path.now held),
      told_none a.d a.work.now a.chart.now a.path.now held,
    )

pub overflow_sub-used : goal.overflow_sub-used
overflow_sub-used c =
    let a = c.args in
    let l = c.loop-i in
    let more = one_more a.d a.work.now a.chart.now a.path.now l.i l.kind c.requires (omega arith) (omega arith)
    (sym c.kind_at-k.ensures ∙ c.if-k-kind.true) in
    omega (arith, l.invariant.1, more)

pub used_before-used-requires : goal.used_before-used-requires
used_before-used-requires c =
    let held = c.requires in
    rows_fewer c.args.work.now c.args.path.now held.are_rows (c.loop-i.i - 1)

pub loop-i-preserved : goal.loop-i-preserved
unfolding row_at used
loop-i-preserved c =
    let a = c.args in
    let l = c.loop-i in
    let held = c.requires in
    let before = used (rows_to a.work.now a.path.now (l.i - 1)) in
    let counted : (c.if-k-kind.kind ≡ c.kind_at-k.result) × (c.if-k-kind.used ≡ before c.if-k-kind.kind)
    = elim c.if-k-kind.branch [
      | then-k-kind w ↦
          let more = one_more a.d a.work.now a.chart.now a.path.now l.i l.kind held (omega arith) (omega arith)
          (sym c.kind_at-k.ensures ∙ w.if-k-kind.true) in
          let less : c.if-k-kind.used ≡ before l.kind = omega (arith, w.used-is, l.invariant.1, more) in
          (w.kind-is ∙ sym w.if-k-kind.true, less ∙ ap before (sym w.kind-is))
      | else-k-kind w ↦ (w.kind-is, w.used-is ∙ w.used_before-used.ensures.0 ∙ ap before (sym w.kind-is))
    ] in
    let own = owned_in a.chart.now.pieces a.d.pieces in
    let row = row_at a.work.now (get_or a.path.now (l.i - 1) 0) in
    let e : l.i - 1 + 1 ≡ l.i = omega arith in
    let is = counted.0 ∙ c.kind_at-k.ensures in
    let many = counted.1 ∙ ap before is in
    let told = c.lay_copy.ensures
    ∙ ap₂ (λ (x : List ℕ) (y : Copy). laid x y l.told) (ap cells_of c.mask_at.ensures)
    (c.copy_of.ensures ∙ ap₂ (λ (k u : ℕ). get_or (copies_by own k) u no_copy) is many)
    ∙ ap (laid row.cells (get_or (copies_by own row.kind) (before row.kind) no_copy))
    (l.invariant.2 ∙ sym (ap (told_from a.d a.work.now a.chart.now a.path.now) e))
    ∙ told_row a.d a.work.now a.chart.now a.path.now held (l.i - 1) (omega arith) in (
      ap length told ∙ told_long _ ∙ sym (length-replicate {A = ℕ} 256 255),
      counted.1,
      told,
    )

pub returns : goal.returns
returns c =
    let a = c.args in
    let e : c.loop-i.i ≡ 0 = omega arith in
    c.loop-i.invariant.2 ∙ ap (told_from a.d a.work.now a.chart.now a.path.now) e
    ∙ told_all a.d a.work.now a.chart.now a.path.now c.requires
