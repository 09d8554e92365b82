-- Parts of a grid's box, and a grid that is written without its empty outer layers.
use Rattle.std.specs.Prelude.{ℕ, ◌-◌, List, map, ◌≡◌, length}
use Rattle.std.proofs.Math.Seq.{paste}
use Rattle.definitions.specs.Grid.{Sides, Cell, Grid, box, byte_at, set_down}
use Rattle.definitions.specs.Stripping.{corner, strip}
use Rattle.shape.specs.Coords.{as_sides, as_cell}
use Rattle.shape.specs.declared.stripping.Window.{Window}

-- of two cells, axis by axis; and the sides of the box from one cell to another
abbrev pub both : (ℕ → ℕ → ℕ) → Cell → Cell → Cell
both f u v = record { x = f u.x v.x; y = f u.y v.y; z = f u.z v.z }

abbrev pub sides_between : Cell → Cell → Sides
sides_between low high = record { a = high.x - low.x; b = high.y - low.y; c = high.z - low.z }

-- the bytes of a part of a grid's box, with its corner at a cell and the sides t: x slowest, z fastest
unfoldable pub part_of : Grid → Cell → Sides → List ℕ
part_of g at t = map (λ u. byte_at g (set_down at u)) (box t)

-- the grid without its empty outer layers stands in a list from `start` on, and around it is what stood there; its box is that of the answer
pub record StripsInto (g : Grid) (r : Window) (old : List ℕ) (start : ℕ) (new : List ℕ) : Type 0 where
  pub at : as_cell r.at ≡ corner g
  pub sides : as_sides r.sides ≡ (strip g).sides
  pub cells : new ≡ paste old start (strip g).cells (length (strip g).cells)
