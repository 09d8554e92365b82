-- Fast's search over the slices of a row system.
use Rattle.std.specs.Prelude.{ℕ, ◌+◌, ◌≤◌, ◌<◌, Bool, true, not, ◌||◌, ◌≡◌, length, get_or, take}
use mathlib.Core.List.{List, [], map, Memᴰ}
use Rattle.lists.specs.Lists.{keep, below, is_empty, Apart}
use Rattle.definitions.specs.Kept.{Identify}
use Rattle.definitions.specs.Emission.{Listed}
use Rattle.definitions.specs.Orders.{State, search, fast_choices}
use Rattle.masks.specs.Masks.{has}
use Rattle.masks.specs.declared.Mask.{Mask}
use Rattle.rows.specs.Systems.{System}
use Rattle.kept.specs.Normal.{row_of, of_kind}
use Rattle.kept.specs.Entries.{put_all, entries}

-- the uncovered cells, and the state of a search: copies left, covered cells, rows chosen
unfoldable pub uncovered : ℕ → Mask → List ℕ
uncovered size covered = keep (λ c. not (has covered c)) (below size)

unfoldable pub state_by : System → List ℕ → Mask → List ℕ → State
state_by s left covered rs =
    record { left = take (length s.copies) left; free = uncovered s.size covered; chosen = put_all [] (map (row_of s) rs) }

-- what Fast lists below a state
unfoldable pub fast_below : System → Identify → State → List Listed
fast_below s i t = entries s i (search (fast_choices s.rows) s.size t)

-- a search goes on below a state: no cell is uncovered, or the first that is can be covered. proofs/ChoiceLaws: where it does not, nothing is listed below.
unfoldable pub goes_on : System → State → Bool
goes_on s t = is_empty t.free || not (is_empty (fast_choices s.rows t))

-- what a search keeps true: the rows chosen differ and are covered, their copies are taken, and there is a place in the path for each uncovered cell
pub record Searching (s : System) (left : List ℕ) (covered : Mask) (rs : List ℕ) : Type 0 where
  pub enough : length s.copies ≤ length left
  pub apart : Apart rs
  pub taken : (k : ℕ) → k < length s.copies → get_or left k 0 + length (of_kind s k rs) ≡ get_or s.copies k 0
  pub covers : (r : ℕ) → Memᴰ r rs → (c : ℕ) → Memᴰ c (row_of s r).cells → has covered c ≡ true
  pub room : length rs + length (uncovered s.size covered) ≤ s.size
