-- Sets of numbers, as masks hold them: made number by number, the first of a set alone, and sets that have as many. Assumes nothing.
use Prim.Native.Nat.{ℕ, ◌+◌, ◌-◌, ◌≤◌, ◌<◌}
use mathlib.Core.Bool.{Bool, true, false, cond, not, ◌&&◌, ◌||◌, true≢false, false≢true}
use mathlib.Core.List.Memᴰ
use mathlib.Core.List.{List, [], ◌∷◌, ◌++◌, Memᴰ}
use mathlib.Core.Path.{◌≡◌, sym, ap, ap₂, ◌∙◌, subst, fun_ext}
use mathlib.Core.Logic.{⊎_elim}
use native.Mathlib.Omega.{arith}
use borrow.Author.Tests.{lt-ltb, le-ltb, ne_eqb, eqb-true}
use lib.Dec.{T, eqb, ltb}
use lib.ListN.{length, take}
use Rattle.lists.specs.Lists.{keep, cons_if, below, from, member}
use Rattle.lists.proofs.TestLaws.{true_together, and_true_right, or_right, holds, is_true, not_true, eqb_of, ltb_same, or_no, and_no, lt_or_ge, by_eq, by_bool}
use Rattle.lists.proofs.ListLaws.{keep_of, keep_same, keep_keep, keep_fails, keep_append, keep_shorter}
use Rattle.lists.proofs.RangeLaws.{below_at, below_of, below_split, from_next, members_below}
use Rattle.masks.specs.Masks.{nothing, only, either, FirstIn}
use Rattle.masks.proofs.MaskLaws.{cell_taken, cell_left}
use Rattle.polycubes.specs.Hanging.{Within}

-- ---- those of a set below n
abbrev pub up_to : (ℕ → Bool) → ℕ → ℕ → Bool
up_to p n k = ltb k n && p k

module _ (p : ℕ → Bool) where
  pub up_to_none : nothing ≡ up_to p 0
  unfolding nothing
  up_to_none = fun_ext λ k. sym (ap (λ (b : Bool). b && p k) (le-ltb k 0 (omega arith)))

  pub up_to_all : (n : ℕ) → ((k : ℕ) → p k ≡ true → k < n) → up_to p n ≡ p
  up_to_all n h = fun_ext λ k. true_together (up_to p n k) (p k) (and_true_right (ltb k n) (p k)) (λ e. ap₂ ◌&&◌ (lt-ltb k n (h k e)) e)

  module _ (n : ℕ) where
    next_other : (k : ℕ) → (k ≡ n → ⊥) → up_to p n k ≡ up_to p (n + 1) k
    next_other k d = ap (λ (b : Bool). b && p k) (ltb_same k n k (n + 1) (λ l. omega arith) (λ l. omega arith))

    -- one number more, where it is of the set, and where it is not
    pub up_to_with : (got : ℕ → Bool) → got ≡ up_to p n → n < 128 → p n ≡ true → cond (ltb n 128) (either got (only n)) got ≡ up_to p (n + 1)
    unfolding either only
    up_to_with got e h t = cell_taken n _ _ h ∙ (fun_ext λ k. by_eq k n (same k) (other k))
      where
        same : (k : ℕ) → k ≡ n → (got k || eqb k n) ≡ up_to p (n + 1) k
        same k i = is_true (got k || eqb k n) (or_right (got k) (eqb k n) (eqb_of i)) ∙ sym (ap₂ ◌&&◌ (lt-ltb k (n + 1) (omega arith)) (ap p i ∙ t))

        other : (k : ℕ) → (k ≡ n → ⊥) → (got k || eqb k n) ≡ up_to p (n + 1) k
        other k d = ap (λ (b : Bool). got k || b) (ne_eqb k n d) ∙ or_no (got k) ∙ ap (λ (f : ℕ → Bool). f k) e ∙ next_other k d

    pub up_to_without : p n ≡ false → up_to p n ≡ up_to p (n + 1)
    up_to_without f = fun_ext λ k. by_eq k n (same k) (next_other k)
      where
        same : (k : ℕ) → k ≡ n → up_to p n k ≡ up_to p (n + 1) k
        same k i = let e : p k ≡ false = ap p i ∙ f in rw (e, and_no (ltb k n), and_no (ltb k (n + 1)))

-- ---- the first of a set alone, as `with_cell` puts it into the empty set
module _ (p : ℕ → Bool) (r : ℕ) (first : FirstIn p 0 r) (none got : ℕ → Bool) (e : none ≡ nothing) (f : got ≡ cond (ltb r 128) (either none (only r)) none) where
  one : r < 128 → got ≡ only r
  unfolding either nothing
  one h = f ∙ cell_taken r _ _ h ∙ ap (λ (a : ℕ → Bool). either a (only r)) e

  no_one : 128 ≤ r → got ≡ nothing
  no_one h = f ∙ cell_left r _ _ h ∙ e

  pub first_within : Within got p
  unfolding nothing only
  first_within j t =
      ⊎_elim (λ h. ap p (eqb-true j r (sym (ap (λ (a : ℕ → Bool). a j) (one h)) ∙ t)) ∙ first.stops h)
      (λ h. absurd (false≢true (sym (ap (λ (a : ℕ → Bool). a j) (no_one h)) ∙ t))) (lt_or_ge r 128)

  pub first_kept : (n : ℕ) → n ≤ 128 → keep got (below n) ≡ take 1 (keep p (below n))
  unfolding only
  first_kept n small =
      ⊎_elim (λ h. alone h ∙ sym (first_of h))
      (λ h. keep_fails got (below n) (λ k m. fails k (passed h k m)) ∙ sym (ap (take 1) (keep_fails p (below n) (passed h)))) (lt_or_ge r n)
    where
      passed : n ≤ r → (k : ℕ) → Memᴰ k (below n) → p k ≡ false
      passed h k m = first.passed k (omega arith) (omega (arith, below_at n m))

      fails : (k : ℕ) → p k ≡ false → got k ≡ false
      fails k g = not_true (got k) (λ t. true≢false (sym (first_within k t) ∙ g))

      alone : r < n → keep got (below n) ≡ r ∷ []
      alone h =
          keep_same got (λ i. member i (r ∷ [])) (below n) (λ k m. ap (λ (a : ℕ → Bool). a k) (one (omega arith)) ∙ sym (or_no (eqb k r)))
          ∙ members_below n (r ∷ []) tt (λ x m. subst (λ (k : ℕ). k < n) (sym (Memᴰ.eq_of_singleton m)) h)

      first_of : r < n → take 1 (keep p (below n)) ≡ r ∷ []
      first_of h =
          ap (take 1)
          (ap (keep p) (below_split r n (omega arith)) ∙ keep_append p (below r) (from r (n - r))
          ∙ ap₂ (λ (xs ys : List ℕ). xs ++ ys) (keep_fails p (below r) (λ k m. first.passed k (omega arith) (below_at r m)))
          (ap (keep p) (from_next r n h) ∙ ap (λ (b : Bool). cons_if b r (keep p (from (r + 1) (n - (r + 1))))) (first.stops (omega arith))))

-- ---- of the numbers of a set below n, as many as it has are all
module _ (p got : ℕ → Bool) (n : ℕ) (inside : (j : ℕ) → p j ≡ true → j < n) (w : Within got p) where
  pub all_got : length (keep got (below n)) ≡ length (keep p (below n)) → got ≡ p
  all_got e = fun_ext λ j. true_together (got j) (p j) (w j) (λ t. by_bool (got j) (λ g. g) (λ g. absurd (shorter j t g)))
    where
      few : keep got (keep p (below n)) ≡ keep got (below n)
      few =
          keep_keep p got (below n)
          ∙ keep_same (λ k. p k && got k) got (below n) (λ k m. true_together (p k && got k) (got k) (and_true_right (p k) (got k)) (λ g. ap₂ ◌&&◌ (w k g) g))

      shorter : (j : ℕ) → p j ≡ true → got j ≡ false → ⊥
      shorter j t g =
          let l = keep_shorter got (keep p (below n)) (keep_of p (below n) (below_of n (inside j t)) (holds (p j) t)) (subst (λ (b : Bool). T (not b)) (sym g) tt) in
          omega (arith, ap length few)
