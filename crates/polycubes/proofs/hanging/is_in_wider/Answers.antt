-- `is_in_wider` meets its contract: the place is one of the box, and the code's tests are those of a round. Assumes nothing.
use mathlib.Core.Bool.{true, false}
use mathlib.Core.Path.{refl, sym, ◌∙◌}
use Rattle.masks.specs.Masks.{has}
use Rattle.shape.specs.Coords.{as_sides}
use Rattle.polycubes.proofs.HangingLaws.{wider_told}
use Rattle.polycubes.proofs.hanging.is_in_wider.Goals as goal

pub returns-then-has_cell-2 : goal.returns-then-has_cell-2
returns-then-has_cell-2 c =
    let a = c.args in
    c.if-has_cell-2.true
    ∙ sym (wider_told (as_sides a.s) (has a.filled) (has a.got) a.j c.requires.2 true true (sym c.has_cell.ensures ∙ c.if-has_cell.true)
    (sym c.has_cell-then-has_cell.ensures ∙ c.if-has_cell-2.true))

pub returns-else-has_cell-2 : goal.returns-else-has_cell-2
returns-else-has_cell-2 c =
    let a = c.args in
    c.is_near.ensures
    ∙ sym (wider_told (as_sides a.s) (has a.filled) (has a.got) a.j c.requires.2 true false (sym c.has_cell.ensures ∙ c.if-has_cell.true)
    (sym c.has_cell-then-has_cell.ensures ∙ c.if-has_cell-2.false))

pub returns-else-has_cell : goal.returns-else-has_cell
returns-else-has_cell c =
    let a = c.args in
    c.if-has_cell.false
    ∙ sym (wider_told (as_sides a.s) (has a.filled) (has a.got) a.j c.requires.2 false (has a.got a.j) (sym c.has_cell.ensures ∙ c.if-has_cell.false) refl)
