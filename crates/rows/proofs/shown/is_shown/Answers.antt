-- `is_shown` meets its contract. The loop's invariant: the row's cells before cell c show the copy that its first cell shows. Assumes nothing.
use mathlib.Core.Path.{sym, ◌∙◌}
use native.Mathlib.Omega.{arith}
use Rattle.rows.proofs.ShownLaws.{no_piece, no_kind, other_piece, other_copy, all_shown}
use Rattle.rows.proofs.shown.is_shown.Goals as goal
use Rattle.rows.proofs.shown.is_shown.Goals.{then-shown-c-via-then-shown-c, then-shown-c-via-else-shown-c+then-shown-c-2}

pub returns-then-d-at : goal.returns-then-d-at
returns-then-d-at c =
    let a = c.args in
    let f = c.first_at-p in
    no_piece a.work.now a.chart.now.pieces a.shown.now a.d.pieces a.r f.result f.ensures c.if-d-at.true

pub returns-then-kind_of-kind_at : goal.returns-then-kind_of-kind_at
returns-then-kind_of-kind_at c =
    let a = c.args in
    let f = c.first_at-p in
    no_kind a.work.now a.chart.now.pieces a.shown.now a.d.pieces a.r f.result f.ensures c.if-d-at.false
    (λ e. c.if-kind_of-kind_at.true (c.kind_of.ensures ∙ e ∙ sym c.kind_at.ensures))

pub returns-then-shown-c : goal.returns-then-shown-c
returns-then-shown-c c =
    let a = c.args in
    let f = c.first_at-p in
    let l = c.loop-c in
    elim c.then-shown-c.branch [
      | then-shown-c-via-then-shown-c w ↦
          other_piece a.work.now a.chart.now.pieces a.shown.now a.d.pieces a.r f.result f.ensures c.mask_at-mask.result
          c.mask_at-mask.ensures l.c (omega arith) (l.invariant.is_cell (omega arith)) w.if-shown-c.true
      | then-shown-c-via-else-shown-c+then-shown-c-2 w ↦
          other_copy a.work.now a.chart.now.pieces a.shown.now a.d.pieces a.r f.result f.ensures c.mask_at-mask.result
          c.mask_at-mask.ensures l.c (omega arith) (l.invariant.is_cell (omega arith)) w.if-shown-c-2.true
    ]

pub returns : goal.returns
returns c =
    let a = c.args in
    let f = c.first_at-p in
    all_shown a.work.now a.chart.now.pieces a.shown.now a.d.pieces a.r f.result f.ensures c.mask_at-mask.result
    c.mask_at-mask.ensures c.if-d-at.false (sym c.kind_of.ensures ∙ c.if-kind_of-kind_at.false ∙ c.kind_at.ensures)
    c.loop-c.c c.loop-c.invariant c.loop-c-test.false
