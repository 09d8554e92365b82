-- Document 01, "Maps": "The 48 signed axis permutations stand in a constant table, 24 turns and 24 mirrorings, as `enumerate_transforms` builds them."
use Rattle.std.specs.Prelude.{ℕ, ◌+◌, ◌-◌, ◌/◌, ◌%◌, Bool, cond, ◌&&◌, List, [], ◌∷◌, ◌++◌, map, eqb, leb, ltb, get_or}
use Rattle.lists.specs.Lists.{below, keep}
use Rattle.definitions.specs.Grid.{Sides, Cell, Grid, grid_with, byte_at}

-- An entry has three axis numbers (x is 0, y is 1, z is 2) and three flips, 0 or 1: the x of where a cell goes is its coordinate axis_x, counted from the
-- other end where flip_x is 1; y goes by axis_y and flip_y, z by axis_z and flip_z. (`Transform` of shape.rs writes a flip as `!`.)
pub record Map : Type 0 where
  pub axis_x : ℕ
  pub axis_y : ℕ
  pub axis_z : ℕ
  pub flip_x : ℕ
  pub flip_y : ℕ
  pub flip_z : ℕ

unfoldable pub side : Sides → ℕ → ℕ
side s i = cond (eqb i 0) s.a (cond (eqb i 1) s.b s.c)

unfoldable pub coordinate : Cell → ℕ → ℕ
coordinate u i = cond (eqb i 0) u.x (cond (eqb i 1) u.y u.z)

-- coordinate i along a side of length n, counted from the other end where the flip is not 0
unfoldable pub from_end : ℕ → ℕ → ℕ → ℕ
from_end flip n i = cond (eqb flip 0) i (n - 1 - i)

-- the sides of a box after a map, and where it takes a cell of a box with the sides s
unfoldable pub map_sides : Map → Sides → Sides
map_sides m s = record { a = side s m.axis_x; b = side s m.axis_y; c = side s m.axis_z }

unfoldable pub map_cell : Map → Sides → Cell → Cell
map_cell m s u =
    record {
      x = from_end m.flip_x (side s m.axis_x) (coordinate u m.axis_x);
      y = from_end m.flip_y (side s m.axis_y) (coordinate u m.axis_y);
      z = from_end m.flip_z (side s m.axis_z) (coordinate u m.axis_z);
    }

-- The map that moves nothing.
unfoldable pub identity : Map
identity = record { axis_x = 0; axis_y = 1; axis_z = 2; flip_x = 0; flip_y = 0; flip_z = 0 }

-- The inverse (`Not`): axis i stands where the map has it, with the flip that it has there.
unfoldable pub axis_of : Map → ℕ → ℕ
axis_of m i = cond (eqb m.axis_x i) 0 (cond (eqb m.axis_y i) 1 2)

unfoldable pub flip_of : Map → ℕ → ℕ
flip_of m i = cond (eqb m.axis_x i) m.flip_x (cond (eqb m.axis_y i) m.flip_y m.flip_z)

unfoldable pub inverse : Map → Map
inverse m = record { axis_x = axis_of m 0; axis_y = axis_of m 1; axis_z = axis_of m 2; flip_x = flip_of m 0; flip_y = flip_of m 1; flip_z = flip_of m 2 }

-- The product (`Mul`): first n, then m.
unfoldable pub axis_at : Map → ℕ → ℕ
axis_at m i = cond (eqb i 0) m.axis_x (cond (eqb i 1) m.axis_y m.axis_z)

unfoldable pub flip_at : Map → ℕ → ℕ
flip_at m i = cond (eqb i 0) m.flip_x (cond (eqb i 1) m.flip_y m.flip_z)

unfoldable pub product : Map → Map → Map
product m n =
    record {
      axis_x = axis_at n m.axis_x;
      axis_y = axis_at n m.axis_y;
      axis_z = axis_at n m.axis_z;
      flip_x = (m.flip_x + flip_at n m.axis_x) % 2;
      flip_y = (m.flip_y + flip_at n m.axis_y) % 2;
      flip_z = (m.flip_z + flip_at n m.axis_z) % 2;
    }

-- The turned (or mirrored) grid: each cell holds what stood where it came from (`apply_transform`).
unfoldable pub map_grid : Map → Grid → Grid
map_grid m g = let s = map_sides m g.sides in grid_with s (λ u. byte_at g (map_cell (inverse m) s u))

-- `enumerate_transforms`: each of six permutations, with its parity, under eight choices of flips. The even ones are turns, the odd ones mirrorings.
unfoldable pub permutations : List (List ℕ)
permutations =
    (0 ∷ 1 ∷ 2 ∷ 0 ∷ []) ∷ (0 ∷ 2 ∷ 1 ∷ 1 ∷ []) ∷ (1 ∷ 0 ∷ 2 ∷ 1 ∷ []) ∷ (1 ∷ 2 ∷ 0 ∷ 0 ∷ []) ∷ (2 ∷ 0 ∷ 1 ∷ 0 ∷ []) ∷ (2 ∷ 1 ∷ 0 ∷ 1 ∷ []) ∷ []

unfoldable pub transform : ℕ → Map
transform i =
    let t = get_or permutations (i / 8) [] in
    record { axis_x = get_or t 0 0; axis_y = get_or t 1 0; axis_z = get_or t 2 0; flip_x = i / 4 % 2; flip_y = i / 2 % 2; flip_z = i % 2 }

unfoldable pub parity : ℕ → ℕ
parity i = (get_or (get_or permutations (i / 8) []) 3 0 + i / 4 % 2 + i / 2 % 2 + i % 2) % 2

unfoldable pub turns : List Map
turns = map transform (keep (λ i. eqb (parity i) 0) (below 48))

unfoldable pub mirrorings : List Map
mirrorings = map transform (keep (λ i. eqb (parity i) 1) (below 48))

-- The table: 24 turns, numbers 0 to 23, then 24 mirrorings, numbers 24 to 47; and the map that a number stands for.
unfoldable pub maps : List Map
maps = turns ++ mirrorings

unfoldable pub map_of : ℕ → Map
map_of n = get_or maps n identity

unfoldable pub is_mirroring : ℕ → Bool
is_mirroring n = leb 24 n && ltb n 48

-- the mirroring that keeps the sides and takes cell (x, y, z) to (a-1-x, y, z) (`mirror` of shape.rs)
unfoldable pub mirror : Map
mirror = record { axis_x = 0; axis_y = 1; axis_z = 2; flip_x = 1; flip_y = 0; flip_z = 0 }
