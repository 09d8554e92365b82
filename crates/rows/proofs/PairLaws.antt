-- Numbers that are written two by two, two for each entry of a list, from a place of a slice on; and three by three. Assumes nothing.
use Prim.Native.Nat.{ℕ, zero, suc, ◌+◌, ◌-◌, ◌*◌, ◌≤◌, ◌<◌}
use mathlib.Core.List.{List, [], ◌∷◌}
use mathlib.Core.Path.{◌≡◌, refl, sym, ap, ap₂, ◌∙◌}
use native.Mathlib.Omega.{arith}
use lib.ListN.{length, get_or, drop, set}
use lib.Seq.{paste, paste-suc, drop-paste, get_or-drop, set-get_or}
use Rattle.lists.specs.Lists.{each}

-- ---- two numbers for each entry
module _ {A : Type 0} (f g : A → ℕ) where
  abbrev pub pairs : List A → List ℕ
  pairs xs = each xs (λ x. f x ∷ g x ∷ [])

  pub length_pairs : (xs : List A) → length (pairs xs) ≡ 2 * length xs
  length_pairs [] = refl
  length_pairs (x ∷ xs) = let e = length_pairs xs in omega arith

  pub pair_first : (xs : List A) (i : ℕ) (d : A) → i < length xs → get_or (pairs xs) (2 * i) 0 ≡ f (get_or xs i d)
  pair_first [] i d h = absurd (omega arith)
  pair_first (x ∷ xs) zero d h = refl
  pair_first (x ∷ xs) (suc i) d h = let e : 2 * suc i ≡ suc (suc (2 * i)) = omega arith in rw e (pair_first xs i d (omega arith))

  pub pair_second : (xs : List A) (i : ℕ) (d : A) → i < length xs → get_or (pairs xs) (2 * i + 1) 0 ≡ g (get_or xs i d)
  pair_second [] i d h = absurd (omega arith)
  pair_second (x ∷ xs) zero d h = refl
  pair_second (x ∷ xs) (suc i) d h = let e : 2 * suc i + 1 ≡ suc (suc (2 * i + 1)) = omega arith in rw e (pair_second xs i d (omega arith))

  -- two stores write one pair more
  module _ (old : List ℕ) (at : ℕ) (xs : List A) (d : A) (fits : at + 2 * length xs ≤ length old) (i : ℕ) (h : i < length xs) where
    pub pair_stored : set (set (paste old at (pairs xs) (2 * i)) (at + 2 * i) (f (get_or xs i d))) (at + 2 * i + 1) (g (get_or xs i d)) ≡ paste old at (pairs xs) (2 * (i + 1))
    pair_stored =
        let l = length_pairs xs in
        let s = pairs xs in
        let one : set (paste old at s (2 * i)) (at + 2 * i) (f (get_or xs i d)) ≡ paste old at s (2 * i + 1) =
        ap (λ (n : ℕ). set (paste old at s (2 * i)) (at + 2 * i) n) (sym (pair_first xs i d h)) ∙ paste-suc old at s (2 * i) 0 (omega arith) (omega arith)
        ∙ ap (λ (n : ℕ). paste old at s n) {x = suc (2 * i)} {y = 2 * i + 1} (omega arith) in
        let two : set (paste old at s (2 * i + 1)) (at + (2 * i + 1)) (g (get_or xs i d)) ≡ paste old at s (suc (2 * i + 1)) =
        ap (λ (n : ℕ). set (paste old at s (2 * i + 1)) (at + (2 * i + 1)) n) (sym (pair_second xs i d h)) ∙ paste-suc old at s (2 * i + 1) 0 (omega arith) (omega arith) in
        ap (λ (l : List ℕ). set l (at + 2 * i + 1) (g (get_or xs i d))) one
        ∙ ap (λ (n : ℕ). set (paste old at s (2 * i + 1)) n (g (get_or xs i d))) {x = at + 2 * i + 1} {y = at + (2 * i + 1)} (omega arith) ∙ two
        ∙ ap (λ (n : ℕ). paste old at s n) {x = suc (2 * i + 1)} {y = 2 * (i + 1)} (omega arith)

  -- the same two stores at the front of a slice, by what is stored
  pub front_next : (old : List ℕ) (xs : List A) (d : A) → 2 * length xs ≤ length old → (i : ℕ) → i < length xs → (new : List ℕ) → new ≡ paste old 0 (pairs xs) (2 * i)
      → (a b : ℕ) → a ≡ f (get_or xs i d) → b ≡ g (get_or xs i d) → set (set new (2 * i) a) (2 * i + 1) b ≡ paste old 0 (pairs xs) (2 * (i + 1))
  front_next old xs d fits i h new e a b p q =
      let z : 2 * i ≡ 0 + 2 * i = omega arith in
      ap (λ (l : List ℕ). set (set l (2 * i) a) (2 * i + 1) b) e
      ∙ ap₂ (λ (j k : ℕ). set (set (paste old 0 (pairs xs) (2 * i)) (2 * i) j) (2 * i + 1) k) p q
      ∙ ap (λ (j : ℕ). set (set (paste old 0 (pairs xs) (2 * i)) j (f (get_or xs i d))) (j + 1) (g (get_or xs i d))) z
      ∙ pair_stored old 0 xs d (omega arith) i h

  -- a pair that the slice has already stands there without a store
  pub front_kept : (old : List ℕ) (xs : List A) (d : A) → 2 * length xs ≤ length old → (i : ℕ) → i < length xs
      → get_or old (2 * i) 0 ≡ f (get_or xs i d) → get_or old (2 * i + 1) 0 ≡ g (get_or xs i d) → paste old 0 (pairs xs) (2 * i) ≡ paste old 0 (pairs xs) (2 * (i + 1))
  front_kept old xs d fits i h p q =
      sym (ap (λ (l : List ℕ). set l (2 * i + 1) (get_or old (2 * i + 1) 0)) (as_it_was (2 * i) (omega arith)) ∙ as_it_was (2 * i + 1) (omega arith))
      ∙ front_next old xs d fits i h so_far refl (get_or old (2 * i) 0) (get_or old (2 * i + 1) 0) p q
    where
      so_far : List ℕ
      so_far = paste old 0 (pairs xs) (2 * i)

      behind : (j : ℕ) → 2 * i ≤ j → get_or old j 0 ≡ get_or so_far j 0
      behind j l =
          let e : j ≡ (0 + 2 * i) + (j - 2 * i) = omega arith in
          let at : (xs : List ℕ) → get_or xs j 0 ≡ get_or (drop (0 + 2 * i) xs) (j - 2 * i) 0 = λ xs. ap (λ (k : ℕ). get_or xs k 0) e ∙ sym (get_or-drop (0 + 2 * i) xs (j - 2 * i) 0) in
          at old ∙ sym (ap (λ (l : List ℕ). get_or l (j - 2 * i) 0) (drop-paste old 0 (pairs xs) (2 * i) (omega arith) (let e = length_pairs xs in omega arith))) ∙ sym (at so_far)

      as_it_was : (j : ℕ) → 2 * i ≤ j → set so_far j (get_or old j 0) ≡ so_far
      as_it_was j l = ap (set so_far j) (behind j l) ∙ set-get_or so_far j 0
