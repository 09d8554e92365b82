-- Document 02, A11: "list every piece of n cells that hangs together by faces, each once under turns, mirror pairs as two, as its smallest turned grid, the
-- entries ascending in document 01's order of grids." What such pieces are and what a list of them all is; and the list: every box that an entry can
-- need, in order, of each every filling with n cells, in order, and three tests.
use Rattle.std.specs.Prelude.{ℕ, zero, suc, ◌+◌, ◌-◌, ◌≤◌, Bool, true, ◌&&◌, ◌||◌, ◌≡◌, T, leb, eqb, length}
use mathlib.Core.List.{List, [], ◌∷◌, ◌++◌, map, Memᴰ}
use Rattle.lists.specs.Lists.{any, keep, each, ascending}
use Rattle.definitions.specs.Grid.{Sides, Cell, Grid, box, volume, same_cell, filled_cells, same_grid, grid_ahead}
use Rattle.definitions.specs.Stripping.{strip}
use Rattle.definitions.specs.Kinds.{smallest}
use Rattle.definitions.specs.Refusals.{are_bits, is_tight}
use Rattle.definitions.specs.PlacementsRight.{TurnsOnto}

-- ---- pieces
-- two cells share a face: they differ by one, in one coordinate
abbrev pub difference : ℕ → ℕ → ℕ
difference a b = (a - b) + (b - a)

unfoldable pub touches : Cell → Cell → Bool
touches u v = eqb (difference u.x v.x + difference u.y v.y + difference u.z v.z) 1

-- a path from u to v: cells of us, one after the other, each of which shares a face with the one before it
abbrev pub is_path : List Cell → Cell → List Cell → Cell → Bool
is_path us u [] v = same_cell u v
is_path us u (w ∷ ws) v = touches u w && (any (same_cell w) us && is_path us w ws v)

-- "hangs together by faces": from each cell there is a path to each other
abbrev pub HangsTogether : List Cell → Type 0
HangsTogether us = (u v : Cell) → Memᴰ u us → Memᴰ v us → (ws : List Cell) × T (is_path us u ws v)

-- a piece of n cells that hangs together, in whatever box it is drawn; and one that is drawn without empty outer layers
pub record IsDrawn (n : ℕ) (g : Grid) : Type 0 where
  pub whole : length g.cells ≡ volume g.sides
  pub bits : T (are_bits g)
  pub count : length (filled_cells g) ≡ n
  pub together : HangsTogether (filled_cells g)

pub record IsPiece (n : ℕ) (g : Grid) : Type 0 where
  pub drawn : IsDrawn n g
  pub tight : T (is_tight g)

-- the one entry of a list that a turn makes of g
pub record OneTurned (L : List Grid) (g : Grid) : Type 0 where
  pub entry : Grid
  pub is_listed : Memᴰ entry L
  pub is_turned : TurnsOnto g entry
  pub is_only : (h : Grid) → Memᴰ h L → TurnsOnto g h → h ≡ entry

-- "each once under turns, mirror pairs as two, as its smallest turned grid, the entries ascending"; "The list must miss none and repeat none". Pieces are
-- drawn in boxes of any size, and empty outer layers carry no meaning (A4).
pub record AllPieces (n : ℕ) (L : List Grid) : Type 0 where
  pub only_pieces : (g : Grid) → Memᴰ g L → IsPiece n g
  pub is_smallest : (g h : Grid) → Memᴰ g L → TurnsOnto g h → T (grid_ahead h g) → ⊥
  pub ascend : T (ascending grid_ahead L)
  pub exactly_one : (g : Grid) → IsPiece n g → OneTurned L g
  pub however_drawn : (g : Grid) → IsDrawn n g → OneTurned L (strip g)

-- ---- the list
-- the same to compute with: the cells reached from the first in as many rounds as there are further cells, each round with those that share a face with one
-- that is reached, are all
unfoldable pub wider : List Cell → List Cell → List Cell
wider us got = keep (λ u. any (same_cell u) got || any (touches u) got) us

abbrev pub reached : ℕ → List Cell → List Cell → List Cell
reached zero us got = got
reached (suc n) us got = reached n us (wider us got)

unfoldable pub hangs : List Cell → Bool
hangs [] = true
hangs (u ∷ us) = eqb (length (reached (length us) (u ∷ us) (u ∷ []))) (suc (length us))

-- a box with equal sides; and the box whose last cell is u
abbrev pub cube : ℕ → Sides
cube n = record { a = n; b = n; c = n }

abbrev pub box_to : Cell → Sides
box_to u = record { a = u.x + 1; b = u.y + 1; c = u.z + 1 }

-- The boxes with sides up to n, ascending, that a smallest turned grid of n cells can need: no side is shorter than the one before it, and each further cell
-- of a piece that hangs together makes the three sides together longer by one at most.

unfoldable pub is_needed : ℕ → Sides → Bool
is_needed n s = leb (s.a + s.b + s.c) (n + 2) && (leb s.a s.b && leb s.b s.c)

unfoldable pub boxes : ℕ → List Sides
boxes n = keep (is_needed n) (map box_to (box (cube n)))

-- the lists of v bits with k ones, ascending
abbrev pub bit_lists : ℕ → ℕ → List (List ℕ)
bit_lists zero zero = [] ∷ []
bit_lists zero (suc k) = []
bit_lists (suc v) zero = map (λ bits. 0 ∷ bits) (bit_lists v zero)
bit_lists (suc v) (suc k) = map (λ bits. 0 ∷ bits) (bit_lists v (suc k)) ++ map (λ bits. 1 ∷ bits) (bit_lists v k)

unfoldable pub is_smallest_piece : Grid → Bool
is_smallest_piece g = is_tight g && (hangs (filled_cells g) && same_grid (smallest g) g)

abbrev pub grid_in_box : Sides → List ℕ → Grid
grid_in_box s cells = record { sides = s; cells = cells }

-- the entries with n cells in a box
unfoldable pub in_box_of : ℕ → Sides → List Grid
in_box_of n s = keep is_smallest_piece (map (grid_in_box s) (bit_lists (volume s) n))

unfoldable pub catalogue : ℕ → List Grid
catalogue n = each (boxes n) (in_box_of n)

-- "for each n proved in a single argument over n"
unfoldable pub Catalogued : Type 0
Catalogued = (n : ℕ) → 1 ≤ n → AllPieces n (catalogue n)

-- so that 21 bytes hold an entry: three sides and at most 18 cells
unfoldable pub Roomy : Type 0
Roomy = (n : ℕ) → n ≤ 6 → (g : Grid) → Memᴰ g (catalogue n) → volume g.sides ≤ 18

-- ---- for the contract of the code's walk; nothing here is of document 02
-- of the entries in a box those whose cells begin with `front`, with k filled cells among the v behind it
abbrev pub beginning_with : Sides → List ℕ → ℕ → ℕ → List Grid
beginning_with s front v k = keep is_smallest_piece (map (λ bits. grid_in_box s (front ++ bits)) (bit_lists v k))
