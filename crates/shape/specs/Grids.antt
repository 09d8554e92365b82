-- Grids that are lent as cells and sides, and how grids compare.
use Rattle.std.specs.Prelude.{ℕ, Bool, true, false, cond, ◌&&◌, List, [], ◌∷◌, ◌≡◌, ltb, eqb, length}
use Rattle.lists.specs.Lists.{less, same}
use Rattle.definitions.specs.Grid.{Sides, Cell, Grid, volume, byte_at, same_grid, grid_ahead}
use Rattle.shape.specs.Coords.{as_sides, ShortSides, are_short, lies_in}
use Rattle.shape.specs.declared.Coord.{Coord}
use Rattle.std.specs.declared.cmp.Ordering.{Ordering}
use Rattle.std.specs.declared.cmp.Ordering.TheVariants.{Less, Equal, Greater}

abbrev pub as_grid : Coord → List ℕ → Grid
as_grid s cells = record { sides = as_sides s; cells = cells }

-- no side is above 8, and there is a byte for each cell
pub record Whole (s : Coord) (cells : List ℕ) : Type 0 where
  pub short : ShortSides (as_sides s)
  pub size : length cells ≡ volume (as_sides s)

-- whether that is so of a grid
unfoldable pub is_whole : Grid → Bool
is_whole g = are_short g.sides && eqb (length g.cells) (volume g.sides)

-- the byte of a cell of a grid, whatever its cells and sides are; 0 where it is not whole, or its box has no such cell
unfoldable pub cell_seen : Grid → Cell → ℕ
cell_seen g u = cond (is_whole g && lies_in g.sides u) (byte_at g u) 0

-- how two things compare, by a test that says whether one stands ahead, and one that says whether they are the same
abbrev pub order_by : Bool → Bool → Ordering
order_by true same = Less
order_by false true = Equal
order_by false false = Greater

unfoldable pub number_order : ℕ → ℕ → Ordering
number_order a b = order_by (ltb a b) (eqb a b)

-- lists of numbers: the first difference decides
abbrev pub list_order : List ℕ → List ℕ → Ordering
list_order xs ys = order_by (less xs ys) (same xs ys)

abbrev pub side_list : Sides → List ℕ
side_list s = s.a ∷ s.b ∷ s.c ∷ []

unfoldable pub sides_order : Sides → Sides → Ordering
sides_order s t = order_by (less (side_list s) (side_list t)) (same (side_list s) (side_list t))

-- "Grids are ordered by sides (x, y, z), then cells, 0 before 1."
unfoldable pub grid_order : Grid → Grid → Ordering
grid_order g h = order_by (grid_ahead g h) (same_grid g h)
