-- Rows of a packing, by their numbers.
use Rattle.std.specs.Prelude.{ℕ, ◌≤◌, ◌<◌, List, T, ltb, length, get_or}
use Rattle.lists.specs.Lists.{all, Apart}
use Rattle.rows.specs.Systems.{System}
use Rattle.kept.specs.Normal.{of_kind}
use Rattle.rows.specs.declared.Dims.{Dims}

-- these are rows, and no more than a packing has. (In no type: the numbers are lent by one, and the system in which they are rows by another.)
pub record AreRows (d : Dims) (rows : List ℕ) : Type 0 where
  pub few : length rows ≤ 128
  pub are_rows : T (all (λ r. ltb r d.rows) rows)

-- different rows, of no kind more than it has copies
pub record Fillable (s : System) (rs : List ℕ) : Type 0 where
  pub apart : Apart rs
  pub enough : (k : ℕ) → k < length s.copies → length (of_kind s k rs) ≤ get_or s.copies k 0
