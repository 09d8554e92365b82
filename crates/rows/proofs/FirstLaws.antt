-- The first entry of a list that passes a test: its place by std's search is how many stand before it. Assumes nothing.
use Prim.Native.Nat.{ℕ, suc, ◌+◌}
use mathlib.Core.Bool.{Bool, true, false, cond}
use mathlib.Core.List.{List, [], ◌∷◌}
use mathlib.Core.Path.{◌≡◌, refl}
use native.Mathlib.Omega.{arith}
use lib.Dec.{eqb}
use lib.ListN.{length}
use Rattle.std.specs.List.{position_from}
use Rattle.std.specs.Prelude.{Some, unwrap_or}
use Rattle.lists.specs.Lists.{before}
use Rattle.lists.proofs.TestLaws.{eqb_flip}

-- from number i on; and n, behind the last, where there is none
pub first_place : (x : ℕ) (xs : List ℕ) (i n : ℕ) → n ≡ i + length xs → unwrap_or (position_from (λ y. eqb y x) i xs) n ≡ i + before (eqb x) xs
first_place x [] i n e = e
first_place x (y ∷ ys) i n e = go (eqb x y) refl (eqb_flip y x) (first_place x ys (i + 1) n (omega arith))
  where
    go : (b : Bool) → eqb x y ≡ b → eqb y x ≡ eqb x y → unwrap_or (position_from (λ z. eqb z x) (i + 1) ys) n ≡ i + 1 + before (eqb x) ys
        → unwrap_or (cond (eqb y x) (Some i) (position_from (λ z. eqb z x) (i + 1) ys)) n ≡ i + cond (eqb x y) 0 (suc (before (eqb x) ys))
    go true a s f = rw (s, a) (omega arith)
    go false a s f = rw (s, a) (omega (arith, f))
