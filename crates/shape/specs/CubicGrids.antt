-- The grid that is lent.
use Rattle.definitions.specs.Grid.{Grid}
use Rattle.shape.specs.Grids.{as_grid}
use Rattle.shape.specs.declared.cubic_grid.CubicGrid.{CubicGrid}

abbrev pub grid_of : CubicGrid → Grid
grid_of g = as_grid g.sides g.cells.now
