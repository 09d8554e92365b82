-- Document 01, "Knuth's order", as a comparison of two packings, beside the search that makes the list (`knuth_list` of Orders): at the first step where two packings part, the
-- one whose placement comes first by kind, then (p, j), stands first. Demand 2 says that Knuth's listed packings are in this order.
use Rattle.std.specs.Prelude.{ℕ, ◌<◌, ◌≤◌, Bool, ◌&&◌, ◌≡◌, T, ltb, eqb, length, get_or}
use mathlib.Core.List.{List, ◌∷◌, Memᴰ}
use Rattle.lists.specs.Lists.{all, how_many, member}
use Rattle.definitions.specs.Placements.{Placement, Compiled}
use Rattle.definitions.specs.Packing.{ahead, covering, used, limits}

-- with the placements C taken, a placement is still possible if its cells are uncovered and a copy of its kind is left
unfoldable pub still_possible : Compiled → List Placement → Placement → Bool
still_possible c C q = all (λ n. eqb (covering C n) 0) q.cells && ltb (used C q.kind) (get_or (limits c) q.kind 0)

-- how many placements still possible cover a cell
unfoldable pub possible_on : Compiled → List Placement → ℕ → ℕ
possible_on c C n = how_many (λ q. member n q.cells && still_possible c C q) c.placements

-- "Each step takes the uncovered cell with the fewest placements still possible, but at least one (of equals the first in scan order)"
pub record StepCell (c : Compiled) (C : List Placement) (n : ℕ) : Type 0 where
  pub on_board : n < length c.cells
  pub uncovered : covering C n ≡ 0
  pub some_left : 0 < possible_on c C n
  pub fewest : (m : ℕ) → m < length c.cells → covering C m ≡ 0 → 0 < possible_on c C m → possible_on c C n ≤ possible_on c C m
  pub first_of_equals : (m : ℕ) → m < n → covering C m ≡ 0 → possible_on c C m ≡ possible_on c C n → ⊥

-- "and tries these by kind, then (p, j)": with the placements C taken, which both have, P stands before Q
pub data KnuthAhead (c : Compiled) (P Q : List Placement) : List Placement → Type 0 where
  they_part : (C : List Placement) (n : ℕ) (q r : Placement) → StepCell c C n → Memᴰ q P → Memᴰ n q.cells → Memᴰ r Q → Memᴰ n r.cells
      → T (ahead q r) → KnuthAhead c P Q C
  both_take : (C : List Placement) (n : ℕ) (q : Placement) → StepCell c C n → Memᴰ q P → Memᴰ q Q → Memᴰ n q.cells
      → KnuthAhead c P Q (q ∷ C) → KnuthAhead c P Q C
