-- Entries of the catalogue as bytes, the grids that they stand for, and their lines.
use Rattle.std.specs.Prelude.{ℕ, ◌*◌, ◌<◌, ◌≤◌, true, List, ◌≡◌, leb, length, get_or, take, drop}
use Rattle.lists.specs.Lists.{all, below, each}
use Rattle.definitions.specs.Grid.{Sides, Grid, volume}
use Rattle.definitions.specs.CatalogueCalls.{piece_line}

abbrev pub sides_in : List ℕ → Sides
sides_in entry = record { a = get_or entry 0 0; b = get_or entry 1 0; c = get_or entry 2 0 }

unfoldable pub entry_grid : List ℕ → Grid
entry_grid entry = record { sides = sides_in entry; cells = take (volume (sides_in entry)) (drop 3 entry) }

-- an entry whose line has at most 33 bytes: sides of one digit, and at most 18 cells, each 0 or 1
pub record HasLine (entry : List ℕ) : Type 0 where
  pub long : length entry ≡ 21
  pub sides : (get_or entry 0 0 < 10) × (get_or entry 1 0 < 10) × (get_or entry 2 0 < 10)
  pub few : get_or entry 0 0 * get_or entry 1 0 * get_or entry 2 0 ≤ 18
  pub bits : all (λ n. leb n 1) (entry_grid entry).cells ≡ true

-- entry number i of entries that stand one after the other, its line, and the lines of the first n
unfoldable pub entry_number : List ℕ → ℕ → List ℕ
entry_number entries i = take 21 (drop (i * 21) entries)

abbrev pub line_number : List ℕ → ℕ → List ℕ
line_number entries i = piece_line (entry_grid (entry_number entries i))

abbrev pub first_lines : List ℕ → ℕ → List ℕ
first_lines entries n = each (below n) (line_number entries)

-- n entries that have lines
pub record HaveLines (n : ℕ) (entries : List ℕ) : Type 0 where
  pub long : length entries ≡ n * 21
  pub has_line : (i : ℕ) → i < n → HasLine (entry_number entries i)
