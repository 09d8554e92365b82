-- Places: the number of a cell among those of its box, x slowest, z fastest.
use Rattle.std.specs.Prelude.{ℕ, ◌*◌, ◌/◌, ◌%◌}
use Rattle.definitions.specs.Grid.{Sides, Cell, place_of}
use Rattle.definitions.specs.Maps.{Map, map_sides, map_cell, inverse}

-- the cell at a place
unfoldable pub cell_at : Sides → ℕ → Cell
cell_at s i = record { x = i / (s.b * s.c); y = i / s.c % s.b; z = i % s.c }

-- the place in the mapped box of the cell at place i; and the place of the cell that the map takes to place j
unfoldable pub image_place : Map → Sides → ℕ → ℕ
image_place m s i = place_of (map_sides m s) (map_cell m s (cell_at s i))

unfoldable pub source_place : Map → Sides → ℕ → ℕ
source_place m s j = image_place (inverse m) (map_sides m s) j
