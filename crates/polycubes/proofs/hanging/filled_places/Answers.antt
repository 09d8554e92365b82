-- `filled_places` meets its contract: a place from the grid's end on is of no filled cell. Assumes nothing.
use mathlib.Core.Path.{ap, ◌∙◌}
use native.Mathlib.Omega.{arith}
use borrow.Author.Tests.{eq-eqb, ne_eqb}
use Rattle.masks.specs.Masks.{has}
use Rattle.shape.specs.CubicGrids.{grid_of}
use Rattle.polycubes.specs.Hanging.{is_filled_at}
use Rattle.polycubes.proofs.SetLaws.{up_to_none, up_to_with, up_to_without, up_to_all}
use Rattle.polycubes.proofs.HangingLaws.{filled_inside}
use Rattle.polycubes.proofs.hanging.filled_places.Goals as goal
use Rattle.polycubes.proofs.hanging.filled_places.Goals.{then-grid-j-eq1, else-grid-j-eq1}

pub loop-j-init : goal.loop-j-init
loop-j-init c = c.empty-filled.ensures ∙ up_to_none _

pub loop-j-preserved : goal.loop-j-preserved
unfolding is_filled_at
loop-j-preserved c =
    let g = grid_of c.args.grid.now in
    let l = c.loop-j in
    elim c.if-grid-j-eq1.branch [
      | then-grid-j-eq1 w ↦
          ap has w.filled-is ∙ w.with_cell-filled.ensures
          ∙ up_to_with (is_filled_at g) l.j (has l.filled) l.invariant (omega (arith, c.args.grid.now.whole.size)) (eq-eqb _ 1 w.if-grid-j-eq1.true)
      | else-grid-j-eq1 w ↦ ap has w.filled-is ∙ l.invariant ∙ up_to_without (is_filled_at g) l.j (ne_eqb _ 1 w.if-grid-j-eq1.false)
    ]

pub returns : goal.returns
returns c =
    let g = grid_of c.args.grid.now in
    c.loop-j.invariant ∙ up_to_all (is_filled_at g) c.loop-j.j (λ k e. omega (arith, c.args.grid.now.whole.size, filled_inside g c.args.grid.now.whole.size k e))
