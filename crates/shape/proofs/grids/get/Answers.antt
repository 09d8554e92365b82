-- `get` meets its contract: it reads where the cells and sides make a grid whose box has the cell. Assumes nothing.
use mathlib.Core.Path.{sym, ap, ◌∙◌}
use borrow.Author.Rules.{rules}
use Rattle.definitions.specs.Grid.{Grid, byte_at, InBox}
use Rattle.shape.specs.Coords.{as_sides, as_cell}
use Rattle.shape.specs.Grids.{Whole, cell_seen}
use Rattle.shape.proofs.GridTestLaws.{lent_grid, cell_reads, broken_cell, no_cell}
use Rattle.shape.proofs.grids.get.Goals as goal

pub returns-in-Some : goal.returns-in-Some
unfolding cell_seen
returns-in-Some c =
    let a = c.args in
    let u = as_cell a.u in
    let whole : Whole a.s a.cells.now = search rules in
    let inside : InBox (as_sides a.s) u = search rules in
    let lent = lent_grid c.in-Some.grid c.in-Some.ensures.fields in
    c.get.ensures ∙ ap (λ (g : Grid). byte_at g u) lent ∙ sym (cell_reads a.s a.cells.now whole _ _ _ inside)

pub returns-in_default : goal.returns-in_default
unfolding cell_seen
returns-in_default c = no_cell c.args.s c.args.cells.now _ _ _ (search rules)

pub returns-in_default-2 : goal.returns-in_default-2
unfolding cell_seen
returns-in_default-2 c = broken_cell c.args.s c.args.cells.now (search rules) _ _
