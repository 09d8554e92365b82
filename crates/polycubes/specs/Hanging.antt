-- Sets of cells of a box, by their places.
use Rattle.std.specs.Prelude.{ℕ, Bool, true, ◌&&◌, ◌||◌, ◌≡◌, List, map, ltb, eqb, get_or}
use Rattle.lists.specs.Lists.{any, keep, below}
use Rattle.definitions.specs.Grid.{Sides, Cell, Grid, volume}
use Rattle.definitions.specs.Catalogue.{touches}
use Rattle.shape.specs.Places.{cell_at}

-- all of a set are of another
abbrev pub Within : (ℕ → Bool) → (ℕ → Bool) → Type 0
Within got all = (j : ℕ) → got j ≡ true → all j ≡ true

-- the cells of a set
unfoldable pub cells_of : Sides → (ℕ → Bool) → List Cell
cells_of s got = map (cell_at s) (keep got (below (volume s)))

-- the filled cells of a grid
unfoldable pub is_filled_at : Grid → ℕ → Bool
is_filled_at g j = eqb (get_or g.cells j 0) 1

-- the cell at place i is of the set, and shares a face with the one at place j; and one of the set does
abbrev pub touched_at : Sides → (ℕ → Bool) → ℕ → ℕ → Bool
touched_at s got j i = got i && touches (cell_at s j) (cell_at s i)

unfoldable pub near_at : Sides → (ℕ → Bool) → ℕ → Bool
near_at s got j = any (touched_at s got j) (below (volume s))

-- one round: the filled cells that are of the set, or share a face with one of it
unfoldable pub wider_at : Sides → (ℕ → Bool) → (ℕ → Bool) → ℕ → Bool
wider_at s filled got j = ltb j (volume s) && (filled j && (got j || near_at s got j))
