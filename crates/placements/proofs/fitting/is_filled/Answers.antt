-- `is_filled` meets its contract: a filled cell lies in the box, and there the byte decides. Assumes nothing.
use Rattle.std.proofs.Common.{ℕ, ◌∙◌, ap, rules}
use lib.Dec.{eqb}
use Rattle.definitions.specs.Grid.{InBox}
use Rattle.shape.specs.Coords.{as_sides, as_cell}
use Rattle.shape.specs.CubicGrids.{grid_of}
use Rattle.placements.proofs.FittingLaws.{filled_in, filled_out}
use Rattle.placements.proofs.fitting.is_filled.Goals as goal

pub returns-then-in_box : goal.returns-then-in_box
returns-then-in_box c =
    let a = c.args in
    let inside : InBox (as_sides a.grid.now.sides) (as_cell a.u) = search rules in
    ap (λ (n : ℕ). eqb n 1) c.get.ensures ∙ filled_in (grid_of a.grid.now) (as_cell a.u) inside

pub returns-else-in_box : goal.returns-else-in_box
returns-else-in_box c =
    let a = c.args in
    c.if-in_box.false ∙ filled_out (grid_of a.grid.now) (as_cell a.u) (λ (inside : InBox (as_sides a.grid.now.sides) (as_cell a.u)). search rules)
