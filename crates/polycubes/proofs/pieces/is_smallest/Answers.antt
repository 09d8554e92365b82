-- `is_smallest` meets its contract: map 0 moves nothing, and the order is Equal exactly where the grids are the same. Assumes nothing.
use mathlib.Core.Path.{ap, ap₂, ◌∙◌}
use Rattle.std.specs.Ordering.{is_eq}
use Rattle.definitions.specs.Grid.{same_grid}
use Rattle.definitions.specs.Kinds.{smallest}
use Rattle.shape.specs.CubicGrids.{grid_of}
use Rattle.shape.proofs.GridLaws.{is_same, map_zero}
use Rattle.polycubes.proofs.pieces.is_smallest.Goals as goal

pub returns : goal.returns
returns c =
    let grid = c.args.grid.now in
    let still = map_zero (grid_of grid) grid.whole.size in
    c.is_eq.ensures ∙ ap is_eq c.compare_turned.ensures ∙ is_same _ _ ∙ ap₂ same_grid (c.smallest_of-m.ensures.1 ∙ ap smallest still) still
