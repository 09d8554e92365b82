-- `window_of` meets its contract. The loop's invariant: along each axis, the span's bounds are those of the filled cells at the places below i.
-- Assumes nothing.
use Rattle.std.proofs.Common.{◌+◌, ◌≡◌, ◌∙◌, sym, ap, subst, min, max, Option, None, Some, arith}
use Rattle.shape.specs.Coords.{as_cell, as_sides}
use Rattle.shape.specs.Stripping.{both}
use Rattle.shape.specs.declared.stripping.Span.{Span}
use Rattle.shape.specs.CubicGrids.{grid_of}
use Rattle.shape.proofs.StrippingLaws.{AllMet, all_none, all_same, all_more, low_of, high_of, first_low, first_high, found_none, found_some}
use Rattle.shape.proofs.stripping.window_of.Goals as goal
use Rattle.shape.proofs.stripping.window_of.Goals.{then-cell-eq1+in-Some, then-cell-eq1+in-None, else-cell-eq1}

pub loop-i-init : goal.loop-i-init
loop-i-init c = let g = grid_of c.args.grid.now in all_none g.sides g.cells

pub loop-i-preserved : goal.loop-i-preserved
loop-i-preserved c =
    let inv = c.loop-i.invariant in
    let whole = c.args.grid.now.whole in
    let h = c.loop-i-test.true in
    elim c.if-cell-eq1.branch [
      | then-cell-eq1+in-Some w ↦
          let u = w.cell_at-u in
          let here : c.loop-i.span ≡ Some w.in-Some.span = w.in-Some.is in
          all_more inv h w.if-cell-eq1.true whole.short whole.size (as_cell u.result) u.ensures.0
          (ap low_of w.span-is ∙ w.with.ensures.0 ∙ ap (λ (s : Option Span). both min (low_of s) (as_cell u.result)) (sym here))
          (ap high_of w.span-is ∙ w.with.ensures.1 ∙ ap (λ (s : Option Span). both (λ m n. max m (n + 1)) (high_of s) (as_cell u.result)) (sym here))
      | then-cell-eq1+in-None w ↦
          let u = w.cell_at-u in
          let here : c.loop-i.span ≡ None = w.in-None.is in
          all_more inv h w.if-cell-eq1.true whole.short whole.size (as_cell u.result) u.ensures.0
          (ap low_of w.span-is ∙ ap as_cell w.of.ensures.0 ∙ first_low (as_cell u.result) whole.short u.ensures.1
          ∙ ap (λ (s : Option Span). both min (low_of s) (as_cell u.result)) (sym here))
          (ap high_of w.span-is ∙ w.of.ensures.1 ∙ first_high (as_cell u.result)
          ∙ ap (λ (s : Option Span). both (λ m n. max m (n + 1)) (high_of s) (as_cell u.result)) (sym here))
      | else-cell-eq1 w ↦ subst (λ (s : Option Span). AllMet (as_sides c.args.grid.now.sides) c.args.grid.now.cells.now (c.loop-i.i + 1) (low_of s) (high_of s))
          (sym w.span-is) (all_same inv h w.if-cell-eq1.false)
    ]

pub returns-in-None-span : goal.returns-in-None-span
returns-in-None-span c =
    found_none c.loop-i.invariant c.args.grid.now.whole.size c.loop-i-test.false (ap (λ (s : Option Span). (high_of s).x) c.in-None-span.is)

pub returns-in-Some-span : goal.returns-in-Some-span
returns-in-Some-span c =
    let grid = c.args.grid.now in
    let span = c.in-Some-span.span in
    let some = span.some in
    let met : AllMet (as_sides grid.sides) grid.cells.now c.loop-i.i (as_cell span.low) (as_cell span.high) =
    subst (λ (s : Option Span). AllMet (as_sides grid.sides) grid.cells.now c.loop-i.i (low_of s) (high_of s)) c.in-Some-span.is c.loop-i.invariant in
    let found = found_some met grid.whole.size c.loop-i-test.false (λ e. omega arith) c.window.ensures.1 in
    (ap as_cell c.window.ensures.0 ∙ found.0, found.1)
