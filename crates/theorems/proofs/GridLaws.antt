-- Bytes that are 0 or 1, how many cells a box has, and cells set down where they are. Assumes nothing.
use Prim.Native.Nat.{ℕ, zero, suc, ◌+◌, ◌*◌, ◌≤◌}
use mathlib.Core.List.{List, [], ◌∷◌, map}
use mathlib.Core.Path.{◌≡◌, refl, sym, ap₂, ◌∙◌}
use native.Mathlib.Nat.{mul_assoc}
use native.Mathlib.Omega.{arith}
use lib.Dec.{T, leb, leb→le}
use lib.ListN.{length, get_or, length-map}
use Rattle.lists.specs.Lists.{all, each, below}
use Rattle.lists.proofs.TestLaws.{and_left, and_right}
use Rattle.lists.proofs.RangeLaws.{length_below, length_blocks}
use Rattle.definitions.specs.Grid.{Sides, Cell, Grid, set_down, box, volume, byte_at}
use Rattle.theorems.proofs.MapLaws.{cell_path}
use Rattle.definitions.specs.Refusals.{are_bits}

-- ---- bytes that are 0 or 1
pub byte_bit : (g : Grid) → T (are_bits g) → (u : Cell) → byte_at g u ≤ 1
unfolding are_bits byte_at
byte_bit g t u = go g.cells ((u.x * g.sides.b + u.y) * g.sides.c + u.z) t
  where
    go : (xs : List ℕ) (k : ℕ) → T (all (λ n. leb n 1) xs) → get_or xs k 0 ≤ 1
    go [] k s = omega arith
    go (x ∷ xs) zero s = leb→le x 1 (and_left (leb x 1) (all (λ n. leb n 1) xs) s)
    go (x ∷ xs) (suc k) s = go xs k (and_right (leb x 1) (all (λ n. leb n 1) xs) s)

pub length_box : (s : Sides) → length (box s) ≡ volume s
unfolding box volume
length_box s =
    length_blocks none (λ i. each (below s.b) (λ j. map (λ k. record { x = i; y = j; z = k }) (below s.c))) (s.b * s.c) (λ i. length_blocks none (λ j. map (λ k. record { x = i; y = j; z = k }) (below s.c)) s.c (λ j. length-map (below s.c) (λ k. record { x = i; y = j; z = k }) ∙ length_below s.c) 0 s.b) 0 s.a
    ∙ sym (mul_assoc s.a s.b s.c)
  where
    none : Cell
    none = record { x = 0; y = 0; z = 0 }

-- ---- cells set down at the corner of the box stay where they are
pub set_down_none : (u : Cell) → set_down (record { x = 0; y = 0; z = 0 }) u ≡ u
unfolding set_down
set_down_none u = cell_path (omega arith) (omega arith) (omega arith)

pub all_set_down_none : (us : List Cell) → map (set_down (record { x = 0; y = 0; z = 0 })) us ≡ us
all_set_down_none [] = refl
all_set_down_none (u ∷ us) = ap₂ (λ (v : Cell) (l : List Cell). v ∷ l) (set_down_none u) (all_set_down_none us)
