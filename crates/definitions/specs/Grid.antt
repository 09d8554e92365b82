-- Document 01, "The things themselves": "A grid has three sides a, b, c (x, y, z) and one byte a cell, 1 filled or 0, x slowest, z fastest."
use Rattle.std.specs.Prelude.{ℕ, ◌+◌, ◌*◌, ◌<◌, Bool, ◌&&◌, List, ◌∷◌, map, eqb, get_or}
use Rattle.lists.specs.Lists.{each, below, keep, same, less}

pub record Sides : Type 0 where
  pub a : ℕ
  pub b : ℕ
  pub c : ℕ

pub record Cell : Type 0 where
  pub x : ℕ
  pub y : ℕ
  pub z : ℕ

pub record Grid : Type 0 where
  pub sides : Sides
  pub cells : List ℕ

unfoldable pub same_cell : Cell → Cell → Bool
same_cell u v = eqb u.x v.x && eqb u.y v.y && eqb u.z v.z

-- the cell u of a grid that is set down with the corner of its box on a cell of another box
unfoldable pub set_down : Cell → Cell → Cell
set_down corner u = record { x = corner.x + u.x; y = corner.y + u.y; z = corner.z + u.z }

-- the cells of a box, x slowest, z fastest, and how many they are
unfoldable pub box : Sides → List Cell
box s = each (below s.a) (λ i. each (below s.b) (λ j. map (λ k. record { x = i; y = j; z = k }) (below s.c)))

unfoldable pub volume : Sides → ℕ
volume s = s.a * s.b * s.c

-- a cell lies in a box
abbrev pub InBox : Sides → Cell → Type 0
InBox s u = (u.x < s.a) × (u.y < s.b) × (u.z < s.c)

-- the place of a cell among those of its box, the byte of a cell, and the grid with the byte f u at each cell u
abbrev pub place_of : Sides → Cell → ℕ
place_of s u = (u.x * s.b + u.y) * s.c + u.z

unfoldable pub byte_at : Grid → Cell → ℕ
byte_at g u = get_or g.cells (place_of g.sides u) 0

unfoldable pub grid_with : Sides → (Cell → ℕ) → Grid
grid_with s f = record { sides = s; cells = map f (box s) }

unfoldable pub filled_cells : Grid → List Cell
filled_cells g = keep (λ u. eqb (byte_at g u) 1) (box g.sides)

-- "Grids are ordered by sides (x, y, z), then cells, 0 before 1." Grids with equal sides have as many cells, so one list decides.
unfoldable pub sides_then_cells : Grid → List ℕ
sides_then_cells g = g.sides.a ∷ g.sides.b ∷ g.sides.c ∷ g.cells

unfoldable pub same_grid : Grid → Grid → Bool
same_grid g h = same (sides_then_cells g) (sides_then_cells h)

unfoldable pub grid_ahead : Grid → Grid → Bool
grid_ahead g h = less (sides_then_cells g) (sides_then_cells h)
