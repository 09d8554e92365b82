-- How far a box is filled.
use Rattle.std.specs.Prelude.{ℕ, ◌+◌, ◌-◌, ◌≤◌, List, [], ◌∷◌, ◌≡◌, take, drop, replicate}
use Rattle.definitions.specs.Grid.{Sides, volume}

-- the first i cells, as they stand behind the sides
unfoldable pub front_of : List ℕ → ℕ → List ℕ
front_of entry i = take i (drop 3 entry)

-- an entry's bytes, with the first i cells as they are to be and 0 behind them
pub record Filled (s : Sides) (entry : List ℕ) (i : ℕ) : Type 0 where
  pub sides : take 3 entry ≡ s.a ∷ s.b ∷ s.c ∷ []
  pub small : volume s ≤ 18
  pub inside : i ≤ volume s
  pub behind : drop (3 + i) entry ≡ replicate (18 - i) 0
