-- The column to try: each turn of the loop of `choose_column` is one step of `pivot`, which equal counts agree on. Assumes nothing.
use Prim.Native.Nat.{ℕ, zero, suc, ◌+◌, ◌≤◌, ◌<◌}
use native.Mathlib.Omega.{arith}
use native.Mathlib.Numerals.{add-one}
use mathlib.Core.Path.{◌≡◌, refl, sym, ap, ◌∙◌}
use mathlib.Core.Bool.{Bool, true, false, cond}
use lib.Dec.{ltb}
use Rattle.std.specs.Prelude.{Option, Some, None, MatchOption}
use borrow.Author.Tests.{ltb-true}
use Rattle.lists.proofs.TestLaws.{by_bool, cond_true, cond_false, both_left}
use Rattle.links.specs.Search.{better, least, pivot}

module _ (f : ℕ → ℕ) {i n fewest : ℕ} {b : Bool} (p : fewest ≡ least f i) (e : n ≡ f i) (r : b ≡ better n fewest) where
  test : (v : Bool) → b ≡ v → better (f i) (least f i) ≡ v
  test v h = ap (λ (k : ℕ). better (f i) k) (sym p) ∙ ap (λ (k : ℕ). better k fewest) (sym e) ∙ sym r ∙ h

  pub pivot_taken : b ≡ true → (n ≡ least f (i + 1)) × (pivot f (i + 1) ≡ i)
  unfolding least pivot
  pivot_taken h =
      rw (add-one i) (
        e ∙ sym (cond_true (better (f i) (least f i)) (f i) (least f i) (test true h)),
        cond_true (better (f i) (least f i)) i (pivot f i) (test true h),
      )

  pub pivot_left : b ≡ false → (fewest ≡ least f (i + 1)) × (pivot f (i + 1) ≡ pivot f i)
  unfolding least pivot
  pivot_left h =
      rw (add-one i) (
        p ∙ sym (cond_false (better (f i) (least f i)) (f i) (least f i) (test false h)),
        cond_false (better (f i) (least f i)) i (pivot f i) (test false h),
      )

-- a column found among the first i is one of the first i + 1
pub still_found : (o : Option ℕ) (c i : ℕ) → MatchOption o (c ≡ 4096) (λ found. (found ≡ c) × (c < i)) → MatchOption o (c ≡ 4096) (λ found. (found ≡ c) × (c < i + 1))
still_found None c i h = h
still_found (Some found) c i h = (h.0, omega arith)

-- the same counts give the same column
least_same : (f g : ℕ → ℕ) (n : ℕ) → ((k : ℕ) → k < n → f k ≡ g k) → least f n ≡ least g n
unfolding least
least_same f g zero h = refl
least_same f g (suc n) h =
    let a : f n ≡ g n = h n (omega arith) in
    let b : least f n ≡ least g n = least_same f g n (λ k l. h k (omega arith)) in
    ap (λ (k : ℕ). cond (better k (least f n)) k (least f n)) a ∙ ap (λ (k : ℕ). cond (better (g n) k) (g n) k) b

pub pivot_same : (f g : ℕ → ℕ) (n : ℕ) → ((k : ℕ) → k < n → f k ≡ g k) → pivot f n ≡ pivot g n
unfolding pivot
pivot_same f g zero h = refl
pivot_same f g (suc n) h =
    let a : f n ≡ g n = h n (omega arith) in
    let b : least f n ≡ least g n = least_same f g n (λ k l. h k (omega arith)) in
    let c : pivot f n ≡ pivot g n = pivot_same f g n (λ k l. h k (omega arith)) in
    ap (λ (k : ℕ). cond (better k (least f n)) n (pivot f n)) a
    ∙ ap (λ (k : ℕ). cond (better (g n) k) n (pivot f n)) b
    ∙ ap (λ (k : ℕ). cond (better (g n) (least g n)) n k) c

-- a column that is found has a row
pub pivot_some : (f : ℕ → ℕ) (n : ℕ) → (pivot f n ≡ 4096 → ⊥) → (pivot f n < n) × (1 ≤ f (pivot f n))
unfolding pivot
pivot_some f zero h = absurd (h refl)
pivot_some f (suc n) h =
    let rest = pivot_some f n in
    by_bool (better (f n) (least f n))
    (λ e. rw (cond_true (better (f n) (least f n)) n (pivot f n) e) (omega arith, ltb-true 0 (f n) (both_left (ltb 0 (f n)) (ltb (f n) (least f n)) e)))
    (λ e.
    let z = cond_false (better (f n) (least f n)) n (pivot f n) e in
    let i = rest (λ q. h (z ∙ q)) in
    rw z (omega arith, i.1))
