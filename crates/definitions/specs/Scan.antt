-- Document 01, utils.rs: "Scan order: the longest side of the board's box is compared first; of equal sides, z before y before x."
use Rattle.std.specs.Prelude.{ℕ, Bool, ◌&&◌, ◌||◌, List, [], ◌∷◌, map, ltb, eqb}
use Rattle.lists.specs.Lists.{sort, less, before}
use Rattle.definitions.specs.Grid.{Grid, Sides, Cell, same_cell, filled_cells}
use Rattle.definitions.specs.Maps.{side, coordinate}

-- the axes (x is 0, y is 1, z is 2) in the order in which they are compared
unfoldable pub axis_ahead : Sides → ℕ → ℕ → Bool
axis_ahead s i j = ltb (side s j) (side s i) || (eqb (side s i) (side s j) && ltb j i)

unfoldable pub axes : Sides → List ℕ
axes s = sort (axis_ahead s) (0 ∷ 1 ∷ 2 ∷ [])

unfoldable pub cell_ahead : List ℕ → Cell → Cell → Bool
cell_ahead order u v = less (map (coordinate u) order) (map (coordinate v) order)

-- a grid's filled cells in scan order, and a cell's scan number among such cells: how many stand before it (all of them where it is not there)
unfoldable pub scan : List ℕ → Grid → List Cell
scan order g = sort (cell_ahead order) (filled_cells g)

unfoldable pub scan_number : List Cell → Cell → ℕ
scan_number cells u = before (same_cell u) cells
