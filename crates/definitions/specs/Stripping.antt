-- Document 02, A4: "Strip empty outer layers from pieces and board .. a board with no filled cell keeps its box." An empty layer between filled ones is part of
-- the shape and stays. specs/EmptyLayers says what a stripped grid is without this definition; StrippingLaws and StrippedLaws (theorems) prove it.
use Rattle.std.specs.Prelude.{ℕ, suc, ◌+◌, ◌-◌, ◌≤◌, min, max, cond, List, [], ◌∷◌, map}
use Rattle.lists.specs.Lists.{is_empty}
use Rattle.definitions.specs.Grid.{Sides, Cell, Grid, set_down, byte_at, grid_with, filled_cells}
use Rattle.definitions.specs.Maps.{coordinate}

-- the least and the largest of some numbers (0 where there is none)
abbrev pub least_of : List ℕ → ℕ
least_of [] = 0
least_of (x ∷ []) = x
least_of (x ∷ y ∷ xs) = let r = least_of (y ∷ xs) in min x r

abbrev pub largest_of : List ℕ → ℕ
largest_of [] = 0
largest_of (x ∷ xs) = let r = largest_of xs in max x r

-- the filled cells' coordinates along an axis
unfoldable pub along : Grid → ℕ → List ℕ
along g i = map (λ u. coordinate u i) (filled_cells g)

-- the corner of the box that the filled cells span, and the sides of that box
unfoldable pub corner : Grid → Cell
corner g = record { x = least_of (along g 0); y = least_of (along g 1); z = least_of (along g 2) }

unfoldable pub span : List ℕ → ℕ
span ns = suc (largest_of ns) - least_of ns

unfoldable pub spanned : Grid → Sides
spanned g = record { a = span (along g 0); b = span (along g 1); c = span (along g 2) }

-- a grid without its empty outer layers: "a board with no filled cell keeps its box"
unfoldable pub strip : Grid → Grid
strip g =
    let h = grid_with (spanned g) (λ u. byte_at g (set_down (corner g) u)) in
    cond (is_empty (filled_cells g)) g h

-- the box that was lent, and the cell of it on which the corner of the stripped board lies
pub record Frame : Type 0 where
  pub lent : Sides
  pub at : Cell

-- a box with the sides s lies in the frame
pub record FitsIn (f : Frame) (s : Sides) : Type 0 where
  pub along_x : f.at.x + s.a ≤ f.lent.a
  pub along_y : f.at.y + s.b ≤ f.lent.b
  pub along_z : f.at.z + s.c ≤ f.lent.c

unfoldable pub frame_of : Grid → Frame
frame_of g = record { lent = g.sides; at = corner g }

-- the frame of a board that is not stripped: its own box
unfoldable pub own_frame : Grid → Frame
own_frame g = record { lent = g.sides; at = record { x = 0; y = 0; z = 0 } }
