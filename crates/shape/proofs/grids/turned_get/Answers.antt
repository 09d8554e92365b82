-- `turned_get` meets its contract: that of the grid that is lent, where it is whole. Assumes nothing.
use mathlib.Core.Path.{sym, ap, ◌∙◌}
use mathlib.Core.Bool.{cond}
use borrow.Author.Rules.{rules}
use Rattle.definitions.specs.Grid.{Grid, byte_at}
use Rattle.definitions.specs.Maps.{map_of, map_sides, map_grid}
use Rattle.shape.specs.Coords.{as_cell, lies_in}
use Rattle.shape.specs.Grids.{Whole}
use Rattle.shape.proofs.GridTestLaws.{lent_grid, whole_cell, broken_cell}
use Rattle.shape.proofs.grids.turned_get.Goals as goal

pub returns-in-Some : goal.returns-in-Some
returns-in-Some c =
    let a = c.args in
    let whole : Whole a.s a.cells.now = search rules in
    let lent = lent_grid c.in-Some.grid c.in-Some.ensures.fields in
    let u = as_cell a.u in
    c.turned_get.ensures ∙ ap (λ (h : Grid). cond (lies_in (map_sides (map_of a.m.0) h.sides) u) (byte_at (map_grid (map_of a.m.0) h) u) 0) lent
    ∙ sym (whole_cell a.s a.cells.now whole _ _)

pub returns-in-None : goal.returns-in-None
returns-in-None c =
    broken_cell c.args.s c.args.cells.now (search rules) _ _
