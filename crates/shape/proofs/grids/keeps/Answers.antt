-- `keeps` meets its contract: the order of the turned grid and the grid itself is Equal exactly where they are the same. Assumes nothing.
use mathlib.Core.Path.{sym, ap, ap₂, ◌∙◌}
use borrow.Author.Rules.{rules}
use Rattle.std.specs.Ordering.{is_eq}
use Rattle.definitions.specs.Grid.{Grid, same_grid}
use Rattle.definitions.specs.Maps.{map_of, map_grid}
use Rattle.shape.specs.CubicGrids.{grid_of}
use Rattle.shape.specs.Grids.{as_grid, Whole}
use Rattle.shape.proofs.GridLaws.{is_same, map_zero}
use Rattle.shape.proofs.GridTestLaws.{lent_grid, whole_tells, broken_tells}
use Rattle.shape.proofs.grids.keeps.Goals as goal

pub returns-in-Some : goal.returns-in-Some
returns-in-Some c =
    let a = c.args in
    let g = as_grid a.s a.cells.now in
    let whole : Whole a.s a.cells.now = search rules in
    let lent = lent_grid c.in-Some.grid c.in-Some.ensures.fields in
    let same = ap₂ (λ (h k : Grid). same_grid (map_grid (map_of a.m.0) h) k) lent (map_zero (grid_of c.in-Some.grid) c.in-Some.grid.whole.size ∙ lent) in
    c.is_eq.ensures ∙ ap is_eq c.compare_turned.ensures ∙ is_same _ _ ∙ same ∙ sym (whole_tells a.s a.cells.now whole _)

pub returns-in-None : goal.returns-in-None
returns-in-None c =
    broken_tells c.args.s c.args.cells.now (search rules) _
