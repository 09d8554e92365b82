-- Rows: the placements of a tray as words of the work slice, 8 words for each row: its cells as a mask of two words, its kind, p and j. Three words are free.
use Rattle.std.specs.Prelude.{ℕ, ◌+◌, ◌*◌, List, ◌++◌, map, ◌≡◌, T, ltb, length, get_or, drop}
use Rattle.lists.specs.Lists.{all, keep, below, member}
use Rattle.definitions.specs.Placements.{Placement, Compiled}
use Rattle.masks.specs.Masks.{has}
use Rattle.masks.specs.declared.Mask.{Mask}

-- the cells of a mask, ascending
unfoldable pub cells_of : Mask → List ℕ
cells_of m = keep (has m) (below 128)

-- the mask of row r, the row as a placement, and the first n rows
unfoldable pub mask_at : List ℕ → ℕ → Mask
mask_at work r = record { low = get_or work (8 * r) 0; high = get_or work (8 * r + 1) 0 }

unfoldable pub row_at : List ℕ → ℕ → Placement
row_at work r =
    record {
      kind = get_or work (8 * r + 2) 0;
      p = get_or work (8 * r + 3) 0;
      j = get_or work (8 * r + 4) 0;
      cells = cells_of (mask_at work r);
    }

unfoldable pub rows_in : List ℕ → ℕ → List Placement
rows_in work n = map (row_at work) (below n)

-- a placement as a row gives it back: its cells ascending, each once. (A tray's placements have them so: SystemLaws.)
unfoldable pub spread : Placement → Placement
spread q = record { kind = q.kind; p = q.p; j = q.j; cells = keep (λ n. member n q.cells) (below 128) }

-- rows can hold a tray's placements: a row gives each back, and its kind and p are of one of 2,048 ranges
pub record RowsFit (c : Compiled) : Type 0 where
  pub spreads : map spread c.placements ≡ c.placements
  pub in_range : T (all (λ q. ltb (128 * q.kind + q.p) 2048) c.placements)

-- where n rows stood there are now m: the same, and behind them those of a list; the words behind are as they were
pub record Appended (old : List ℕ) (n : ℕ) (new : List ℕ) (m : ℕ) (qs : List Placement) : Type 0 where
  pub count : m ≡ n + length qs
  pub rows : rows_in new m ≡ rows_in old n ++ qs
  pub behind : drop (8 * m) new ≡ drop (8 * m) old
