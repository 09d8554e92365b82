-- What a numbered board stands for.
use Rattle.std.specs.Prelude.{ℕ, List}
use Rattle.definitions.specs.Grid.{Sides, Grid}
use Rattle.shape.specs.Coords.{as_sides}
use Rattle.shape.specs.CubicGrids.{grid_of}
use Rattle.shape.specs.Scans.{as_order}
use Rattle.rows.specs.declared.board.NumberedBoard.{NumberedBoard}

-- its grid, the sides of its box, the order of its axes
abbrev pub board_of : NumberedBoard → Grid
board_of b = grid_of b.planned.grid

abbrev pub sides_of : NumberedBoard → Sides
sides_of b = as_sides b.planned.grid.sides

abbrev pub order_of : NumberedBoard → List ℕ
order_of b = as_order b.planned.order
