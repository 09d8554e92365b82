-- `is_near` meets its contract: the places from 0 on are those of the box. Assumes nothing.
use mathlib.Core.Bool.{Bool, false, ◌&&◌}
use mathlib.Core.Path.{◌≡◌, sym, ap, ap₂, ◌∙◌}
use Prim.Native.Nat.{ℕ}
use Rattle.lists.specs.Lists.{any, below}
use Rattle.lists.proofs.TestLaws.{and_no}
use Rattle.lists.proofs.RangeLaws.{any_found, any_next, any_none}
use Rattle.definitions.specs.Catalogue.{touches}
use Rattle.masks.specs.Masks.{has}
use Rattle.shape.specs.Coords.{as_sides}
use Rattle.shape.specs.Places.{cell_at}
use Rattle.shape.proofs.GridTestLaws.{short_cells}
use Rattle.polycubes.specs.Hanging.{touched_at, near_at}
use Rattle.polycubes.proofs.hanging.is_near.Goals as goal
use Rattle.polycubes.proofs.hanging.is_near.Goals.{else-has_cell-via-then-has_cell+else-touches, else-has_cell-via-else-has_cell}

pub returns-then-touches : goal.returns-then-touches
unfolding near_at
returns-then-touches c =
    let a = c.args in
    let test = touched_at (as_sides a.s) (has a.got) a.j in
    let touched = ap₂ touches (sym c.cell_at-u.ensures.0) (sym c.cell_at.ensures.0) ∙ sym c.touches.ensures ∙ c.if-touches.true in
    sym (any_found test c.loop-i.i c.volume_of-v.result c.loop-i-test.true (ap₂ ◌&&◌ (sym c.has_cell.ensures ∙ c.if-has_cell.true) touched))
    ∙ c.loop-i.invariant ∙ ap (λ (n : ℕ). any test (below n)) (c.volume_of-v.ensures.0 ∙ short_cells (as_sides a.s) c.requires.0)

pub loop-i-preserved : goal.loop-i-preserved
loop-i-preserved c =
    let a = c.args in
    let s = as_sides a.s in
    let i = c.loop-i.i in
    let test = touched_at s (has a.got) a.j in
    let fails : test i ≡ false =
    elim c.else-has_cell.branch [
      | else-has_cell-via-then-has_cell+else-touches w ↦
          ap (λ (b : Bool). has a.got i && b) (ap₂ touches (sym c.cell_at-u.ensures.0) (sym w.cell_at.ensures.0) ∙ sym w.touches.ensures ∙ w.if-touches.false)
          ∙ and_no (has a.got i)
      | else-has_cell-via-else-has_cell w ↦ ap (λ (b : Bool). b && touches (cell_at s a.j) (cell_at s i)) (sym c.has_cell.ensures ∙ w.if-has_cell.false)
    ] in
    sym (any_next test i c.volume_of-v.result c.loop-i-test.true fails) ∙ c.loop-i.invariant

pub returns : goal.returns
unfolding near_at
returns c =
    let a = c.args in
    let test = touched_at (as_sides a.s) (has a.got) a.j in
    sym (any_none test c.loop-i.i c.volume_of-v.result c.loop-i-test.false)
    ∙ c.loop-i.invariant ∙ ap (λ (n : ℕ). any test (below n)) (c.volume_of-v.ensures.0 ∙ short_cells (as_sides a.s) c.requires.0)
