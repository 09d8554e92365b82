-- `is_layer_filled` meets its contract: the places from 0 on are those of the box. Assumes nothing.
use Prim.Native.Nat.{ℕ}
use mathlib.Core.Bool.{Bool, false, ◌&&◌}
use mathlib.Core.Path.{◌≡◌, sym, ap, ap₂, ◌∙◌}
use borrow.Author.Tests.{eq-eqb, ne_eqb}
use lib.Dec.{eqb}
use lib.ListN.{length}
use Rattle.lists.specs.Lists.{any, below}
use Rattle.lists.proofs.TestLaws.{and_no}
use Rattle.lists.proofs.RangeLaws.{any_found, any_next, any_none}
use Rattle.definitions.specs.Grid.{Cell}
use Rattle.definitions.specs.Maps.{coordinate}
use Rattle.shape.specs.Coords.{axis_number}
use Rattle.shape.specs.CubicGrids.{grid_of}
use Rattle.shape.specs.Places.{cell_at}
use Rattle.polycubes.specs.Hanging.{is_filled_at}
use Rattle.polycubes.proofs.LayerLaws.{in_layer, layer_filled}
use Rattle.polycubes.proofs.pieces.is_layer_filled.Goals as goal
use Rattle.polycubes.proofs.pieces.is_layer_filled.Goals.{else-grid-j-eq1-via-then-grid-j-eq1+else-pick-at, else-grid-j-eq1-via-else-grid-j-eq1}

pub returns-then-pick-at : goal.returns-then-pick-at
unfolding is_filled_at
returns-then-pick-at c =
    let a = c.args in
    let g = grid_of a.grid.now in
    let axis = axis_number a.axis in
    let lies = ap (λ (u : Cell). coordinate u axis) (sym c.cell_at.ensures.0) ∙ sym c.pick.ensures.of_cell ∙ c.if-pick-at.true in
    sym (any_found (in_layer g axis a.at) c.loop-j.j (length g.cells) c.loop-j-test.true (ap₂ ◌&&◌ (eq-eqb _ 1 c.if-grid-j-eq1.true) (eq-eqb _ a.at lies)))
    ∙ c.loop-j.invariant ∙ ap (λ (n : ℕ). any (in_layer g axis a.at) (below n)) a.grid.now.whole.size ∙ layer_filled g axis a.at

pub loop-j-preserved : goal.loop-j-preserved
unfolding is_filled_at
loop-j-preserved c =
    let a = c.args in
    let g = grid_of a.grid.now in
    let axis = axis_number a.axis in
    let j = c.loop-j.j in
    let fails : in_layer g axis a.at j ≡ false =
    elim c.else-grid-j-eq1.branch [
      | else-grid-j-eq1-via-then-grid-j-eq1+else-pick-at w ↦
          ap (λ (b : Bool). is_filled_at g j && b)
          (ne_eqb _ a.at (λ e. w.if-pick-at.false (w.pick.ensures.of_cell ∙ ap (λ (u : Cell). coordinate u axis) w.cell_at.ensures.0 ∙ e)))
          ∙ and_no (is_filled_at g j)
      | else-grid-j-eq1-via-else-grid-j-eq1 w ↦ ap (λ (b : Bool). b && eqb (coordinate (cell_at g.sides j) axis) a.at) (ne_eqb _ 1 w.if-grid-j-eq1.false)
    ] in
    sym (any_next (in_layer g axis a.at) j (length g.cells) c.loop-j-test.true fails) ∙ c.loop-j.invariant

pub returns : goal.returns
returns c =
    let a = c.args in
    let g = grid_of a.grid.now in
    let axis = axis_number a.axis in
    sym (any_none (in_layer g axis a.at) c.loop-j.j (length g.cells) c.loop-j-test.false)
    ∙ c.loop-j.invariant ∙ ap (λ (n : ℕ). any (in_layer g axis a.at) (below n)) a.grid.now.whole.size ∙ layer_filled g axis a.at
