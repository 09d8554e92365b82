-- Tests and lists: what all definitions are written with. Nothing here is of document 01.
-- A test is a Bool; `T test` is the type of its proofs, and `tt` proves a closed test that passes.
use Rattle.std.specs.Prelude.{ℕ, zero, suc, ◌+◌, Bool, true, false, cond, ◌&&◌, ◌||◌, ltb, eqb}
use mathlib.Core.List.{List, [], ◌∷◌, ◌++◌, Memᴰ}

module _ {A : Type 0} where
  abbrev pub cons_if : Bool → A → List A → List A
  cons_if true x xs = x ∷ xs
  cons_if false x xs = xs

  -- the entries that pass, in order
  abbrev pub keep : (A → Bool) → List A → List A
  keep p [] = []
  keep p (x ∷ xs) = cons_if (p x) x (keep p xs)

  abbrev pub all : (A → Bool) → List A → Bool
  all p [] = true
  all p (x ∷ xs) = p x && all p xs

  abbrev pub any : (A → Bool) → List A → Bool
  any p [] = false
  any p (x ∷ xs) = p x || any p xs

  -- how many entries pass
  abbrev pub how_many : (A → Bool) → List A → ℕ
  how_many p [] = 0
  how_many p (x ∷ xs) = cond (p x) 1 0 + how_many p xs

  -- how many entries stand before the first that passes: all of them where none passes
  abbrev pub before : (A → Bool) → List A → ℕ
  before p [] = 0
  before p (x ∷ xs) = let r = suc (before p xs) in cond (p x) 0 r

  abbrev pub is_empty : List A → Bool
  is_empty [] = true
  is_empty (x ∷ xs) = false

  -- the first entry, or d where there is none
  abbrev pub head_or : A → List A → A
  head_or d [] = d
  head_or d (x ∷ xs) = x

  abbrev pub joined : List (List A) → List A
  joined [] = []
  joined (x ∷ xs) = x ++ joined xs

  -- by a test that says whether one stands ahead of another: x put into an ascending list, a list in ascending order (of equals one is left), and
  -- whether each entry stands ahead of all later ones
  module _ (ahead : A → A → Bool) where
    abbrev pub put : A → List A → List A
    put x [] = x ∷ []
    put x (y ∷ ys) = let r = put x ys in cond (ahead x y) (x ∷ y ∷ ys) (cond (ahead y x) (y ∷ r) (y ∷ ys))

    abbrev pub sort : List A → List A
    sort [] = []
    sort (x ∷ xs) = put x (sort xs)

    abbrev pub ascending : List A → Bool
    ascending [] = true
    ascending (x ∷ xs) = all (ahead x) xs && ascending xs

-- no two entries of a list are the same
abbrev pub Apart : {A : Type 0} → List A → Type 0
Apart [] = Unit {0}
Apart (x ∷ xs) = (Memᴰ x xs → ⊥) × Apart xs

-- each entry of a list stands in a relation to every later one
abbrev pub Ordered : {A : Type 0} → (A → A → Type 0) → List A → Type 0
Ordered R [] = Unit {0}
Ordered R (x ∷ xs) = ((y : _) → Memᴰ y xs → R x y) × Ordered R xs

module _ {A B : Type 0} where
  -- f at each entry, the results one after the other
  abbrev pub each : List A → (A → List B) → List B
  each [] f = []
  each (x ∷ xs) f = f x ++ each xs f

  -- f at each entry and its number, counted from i, and from 0
  abbrev pub numbered_from : ℕ → List A → (ℕ → A → B) → List B
  numbered_from i [] f = []
  numbered_from i (x ∷ xs) f = f i x ∷ numbered_from (suc i) xs f

  abbrev pub numbered : List A → (ℕ → A → B) → List B
  numbered xs f = numbered_from 0 xs f

-- n numbers from i on, and the numbers below n
abbrev pub from : ℕ → ℕ → List ℕ
from i zero = []
from i (suc n) = i ∷ from (suc i) n

abbrev pub below : ℕ → List ℕ
below n = from 0 n

abbrev pub sum : List ℕ → ℕ
sum [] = 0
sum (x ∷ xs) = x + sum xs

abbrev pub member : ℕ → List ℕ → Bool
member n xs = any (eqb n) xs

-- lists of numbers: equal, and the order that decides at the first difference, a list ahead of its continuations
abbrev pub same : List ℕ → List ℕ → Bool
same [] [] = true
same [] (y ∷ ys) = false
same (x ∷ xs) [] = false
same (x ∷ xs) (y ∷ ys) = eqb x y && same xs ys

abbrev pub less : List ℕ → List ℕ → Bool
less [] [] = false
less [] (y ∷ ys) = true
less (x ∷ xs) [] = false
less (x ∷ xs) (y ∷ ys) = ltb x y || (eqb x y && less xs ys)
