-- The numbers of a mask: a bit of `&`, `|` and `1 << k`; two words; masks that are apart; and words with the same bits, which are equal. Assumes nothing.
use mathlib.Core.Path.{◌≡◌, refl, sym, ap, ◌∙◌, fun_ext}
use mathlib.Core.Bool.{Bool, true, false, cond, not, ◌&&◌, ◌||◌, true≢false, false≢true}
use mathlib.Core.Logic.{⊎_elim}
use Prim.Native.Nat.{ℕ, zero, suc, min, max, ◌+◌, ◌-◌, ◌*◌, ◌/◌, ◌%◌, ◌^◌, ◌≤◌, ◌<◌}
use native.Mathlib.Nat.{
  one-mul,
  zero-div,
  div-one,
  div_self,
  div-eq_of_lt,
  div-lt_iff_lt-mul,
  pow-suc,
  lt_of_le_of_lt,
  lt_of_lt_of_le,
  le_of_suc-le-suc,
  eq-or-lt_of_le,
}
use native.Mathlib.Decide.{ℕ_discrete}
use native.Mathlib.Omega.{arith}
use borrow.Author.Tests.{eq-eqb, ne_eqb, lt-ltb, le-ltb}
use lib.Dec.{eqb, ltb}
use lib.Pow.{pow_pos, pow-add, pow-lt, pow_mono, shl_exact, shl-shr, shr-shr}
use lib.Bits.{bit_and, bit_or, and_shr, or_shr, and_step, or_step, and_le_r, or_zero_r}
use Rattle.lists.proofs.TestLaws.{not_true, eqb_same, lt_or_ge}
use Rattle.masks.specs.declared.Mask.{Mask}
use Rattle.masks.specs.Masks.{hit, hit2, has, nothing, only, either, apart, SameCells}

-- ---- one bit
pub hit_no : (m k : ℕ) → m / 2 ^ k % 2 ≡ 0 → hit m k ≡ false
unfolding hit
hit_no m k e = ne_eqb (m / 2 ^ k % 2) 1 (λ h. omega arith)

pub hit_yes : (m k : ℕ) → (m / 2 ^ k % 2 ≡ 0 → ⊥) → hit m k ≡ true
unfolding hit
hit_yes m k e = eq-eqb (m / 2 ^ k % 2) 1 (omega arith)

pub hit_zero : (k : ℕ) → hit 0 k ≡ false
hit_zero k = hit_no 0 k (rw (zero-div (2 ^ k)))

-- ---- a bit of `&` and of `|`
and_bit : (a b k : ℕ) → bit_and a b / 2 ^ k % 2 ≡ min (a / 2 ^ k % 2) (b / 2 ^ k % 2)
and_bit a b k = rw (and_shr a b k) (omega (arith, and_step (a / 2 ^ k) (b / 2 ^ k)))

or_bit : (a b k : ℕ) → bit_or a b / 2 ^ k % 2 ≡ max (a / 2 ^ k % 2) (b / 2 ^ k % 2)
or_bit a b k = rw (or_shr a b k) (omega (arith, or_step (a / 2 ^ k) (b / 2 ^ k)))

and_test : (x y : ℕ) → x < 2 → y < 2 → eqb (min x y) 1 ≡ (eqb x 1 && eqb y 1)
and_test zero zero l m = refl
and_test zero (suc zero) l m = refl
and_test (suc zero) zero l m = refl
and_test (suc zero) (suc zero) l m = refl
and_test zero (suc (suc y)) l m = absurd (omega arith)
and_test (suc zero) (suc (suc y)) l m = absurd (omega arith)
and_test (suc (suc x)) y l m = absurd (omega arith)

or_test : (x y : ℕ) → x < 2 → y < 2 → eqb (max x y) 1 ≡ (eqb x 1 || eqb y 1)
or_test zero zero l m = refl
or_test zero (suc zero) l m = refl
or_test (suc zero) zero l m = refl
or_test (suc zero) (suc zero) l m = refl
or_test zero (suc (suc y)) l m = absurd (omega arith)
or_test (suc zero) (suc (suc y)) l m = absurd (omega arith)
or_test (suc (suc x)) y l m = absurd (omega arith)

hit_and : (a b k : ℕ) → hit (bit_and a b) k ≡ (hit a k && hit b k)
unfolding hit
hit_and a b k = rw (and_bit a b k) (and_test (a / 2 ^ k % 2) (b / 2 ^ k % 2) (omega arith) (omega arith))

hit_or : (a b k : ℕ) → hit (bit_or a b) k ≡ (hit a k || hit b k)
unfolding hit
hit_or a b k = rw (or_bit a b k) (or_test (a / 2 ^ k % 2) (b / 2 ^ k % 2) (omega arith) (omega arith))

-- ---- two words
pub hit2_low : (a b k : ℕ) → k < 64 → hit2 a b k ≡ hit a k
unfolding hit2
hit2_low a b k l = rw (lt-ltb k 64 l)

pub hit2_high : (a b k : ℕ) → 64 ≤ k → hit2 a b k ≡ hit b (k - 64)
unfolding hit2
hit2_high a b k l = rw (le-ltb k 64 l)

hit2_or_at : (a b c d k : ℕ) → hit2 (bit_or a c) (bit_or b d) k ≡ (hit2 a b k || hit2 c d k)
hit2_or_at a b c d k =
    ⊎_elim (λ (l : k < 64). rw (hit2_low (bit_or a c) (bit_or b d) k l, hit2_low a b k l, hit2_low c d k l) (hit_or a c k))
    (λ (l : 64 ≤ k). rw (hit2_high (bit_or a c) (bit_or b d) k l, hit2_high a b k l, hit2_high c d k l) (hit_or b d (k - 64))) (lt_or_ge k 64)

hit2_and_at : (a b c d k : ℕ) → hit2 (bit_and a c) (bit_and b d) k ≡ (hit2 a b k && hit2 c d k)
hit2_and_at a b c d k =
    ⊎_elim (λ (l : k < 64). rw (hit2_low (bit_and a c) (bit_and b d) k l, hit2_low a b k l, hit2_low c d k l) (hit_and a c k))
    (λ (l : 64 ≤ k). rw (hit2_high (bit_and a c) (bit_and b d) k l, hit2_high a b k l, hit2_high c d k l) (hit_and b d (k - 64))) (lt_or_ge k 64)

pub hit2_or : (a b c d : ℕ) → hit2 (bit_or a c) (bit_or b d) ≡ either (hit2 a b) (hit2 c d)
unfolding either
hit2_or a b c d = fun_ext λ k. hit2_or_at a b c d k

hit2_zero_at : (k : ℕ) → hit2 0 0 k ≡ false
hit2_zero_at k =
    ⊎_elim (λ (l : k < 64). rw (hit2_low 0 0 k l) (hit_zero k)) (λ (l : 64 ≤ k). rw (hit2_high 0 0 k l) (hit_zero (k - 64))) (lt_or_ge k 64)

pub hit2_zero : hit2 0 0 ≡ nothing
unfolding nothing
hit2_zero = fun_ext λ k. hit2_zero_at k

-- ---- one number more
one_above : (k i : ℕ) → i < k → 2 ^ k / 2 ^ i % 2 ≡ 0
one_above k i l =
    let e : k ≡ suc (k - i - 1) + i = omega arith in
    rw (e, pow-add 2 (suc (k - i - 1)) i, shl-shr (2 ^ suc (k - i - 1)) i, pow-suc 2 (k - i - 1)) (omega arith)

one_at : (k i : ℕ) → i ≡ k → hit (2 ^ k) i ≡ true
one_at k i e = rw e (hit_yes (2 ^ k) k (λ h. let q : 1 % 2 ≡ 0 = rw (div_self (pow_pos k)) at h in omega arith))

pub hit_one : (k i : ℕ) → hit (2 ^ k) i ≡ eqb i k
hit_one k i =
    ⊎_elim (λ (l : i < k). hit_no (2 ^ k) i (one_above k i l) ∙ sym (ne_eqb i k (λ q. omega arith)))
    (λ (l : k ≤ i).
    ⊎_elim (λ (e : k ≡ i). one_at k i (sym e) ∙ sym (eq-eqb i k (sym e)))
    (λ (m : k < i). hit_no (2 ^ k) i (rw (div-eq_of_lt (pow-lt m))) ∙ sym (ne_eqb i k (λ q. omega arith))) (eq-or-lt_of_le l))
    (lt_or_ge i k)

-- the code's `1 << k`
pub one_shl : (k : ℕ) → k < 64 → 1 * 2 ^ k % 2 ^ 64 ≡ 2 ^ k
one_shl k l = shl_exact {a = 1} 1 k 64 (omega arith) (omega arith) ∙ one-mul (2 ^ k)

one_low : (k : ℕ) → k < 64 → hit2 (2 ^ k) 0 ≡ only k
unfolding only
one_low k l =
    fun_ext λ i.
    ⊎_elim (λ (h : i < 64). hit2_low (2 ^ k) 0 i h ∙ hit_one k i)
    (λ (h : 64 ≤ i). hit2_high (2 ^ k) 0 i h ∙ hit_zero (i - 64) ∙ sym (ne_eqb i k (λ q. omega arith))) (lt_or_ge i 64)

one_high : (k : ℕ) → 64 ≤ k → hit2 0 (2 ^ (k - 64)) ≡ only k
unfolding only
one_high k l =
    fun_ext λ i.
    ⊎_elim (λ (h : i < 64). hit2_low 0 (2 ^ (k - 64)) i h ∙ hit_zero i ∙ sym (ne_eqb i k (λ q. omega arith)))
    (λ (h : 64 ≤ i). hit2_high 0 (2 ^ (k - 64)) i h ∙ hit_one (k - 64) (i - 64) ∙ eqb_same (i - 64) (k - 64) i k (λ e. omega arith) (λ e. omega arith))
    (lt_or_ge i 64)

pub cell_low : (a b k : ℕ) → k < 64 → hit2 (bit_or a (1 * 2 ^ k % 2 ^ 64)) b ≡ either (hit2 a b) (only k)
cell_low a b k l =
    ap (λ (x : ℕ). hit2 (bit_or a x) b) (one_shl k l) ∙ ap (λ (x : ℕ). hit2 (bit_or a (2 ^ k)) x) (sym (or_zero_r b)) ∙ hit2_or a b (2 ^ k) 0 ∙ ap (λ (t : ℕ → Bool). either (hit2 a b) t) (one_low k l)

pub cell_high : (a b k : ℕ) → 64 ≤ k → k < 128 → hit2 a (bit_or b (1 * 2 ^ (k - 64) % 2 ^ 64)) ≡ either (hit2 a b) (only k)
cell_high a b k l h =
    ap (λ (x : ℕ). hit2 a (bit_or b x)) (one_shl (k - 64) (omega arith)) ∙ ap (λ (x : ℕ). hit2 x (bit_or b (2 ^ (k - 64)))) (sym (or_zero_r a)) ∙ hit2_or a b 0 (2 ^ (k - 64)) ∙ ap (λ (t : ℕ → Bool). either (hit2 a b) t) (one_high k l)

-- ---- words with the same bits are equal
half : (n x : ℕ) → x < 2 ^ suc n → x / 2 < 2 ^ n
half n x l = (div-lt_iff_lt-mul {k = 2} (omega arith)).1 (rw (pow-suc 2 n) at l)

next : (x k : ℕ) → x / 2 / 2 ^ k % 2 ≡ x / 2 ^ suc k % 2
next x k = let e : 1 + k ≡ suc k = omega arith in rw (shr-shr x 1 k, e)

same_bit : (a b : ℕ) → a < 2 → b < 2 → eqb a 1 ≡ eqb b 1 → a ≡ b
same_bit zero zero l m e = refl
same_bit zero (suc zero) l m e = absurd (false≢true e)
same_bit (suc zero) zero l m e = absurd (true≢false e)
same_bit (suc zero) (suc zero) l m e = refl
same_bit zero (suc (suc b)) l m e = absurd (omega arith)
same_bit (suc zero) (suc (suc b)) l m e = absurd (omega arith)
same_bit (suc (suc a)) b l m e = absurd (omega arith)

bits_same : (n x y : ℕ) → x < 2 ^ n → y < 2 ^ n → ((k : ℕ) → k < n → x / 2 ^ k % 2 ≡ y / 2 ^ k % 2) → x ≡ y
bits_same zero x y l m h = omega arith
bits_same (suc n) x y l m h =
    let low : x % 2 ≡ y % 2 = rw (div-one x, div-one y) at (h 0 (omega arith)) in
    let high : x / 2 ≡ y / 2 = bits_same n (x / 2) (y / 2) (half n x l) (half n y m) (λ k u. next x k ∙ h (suc k) (omega arith) ∙ sym (next y k)) in
    omega arith

pub same_word : (n x y : ℕ) → x < 2 ^ n → y < 2 ^ n → ((k : ℕ) → k < n → hit x k ≡ hit y k) → x ≡ y
unfolding hit
same_word n x y l m h = bits_same n x y l m (λ k u. same_bit (x / 2 ^ k % 2) (y / 2 ^ k % 2) (omega arith) (omega arith) (h k u))

-- two masks with the same numbers below 128 are the same two words
pub same_words : (a b c d : ℕ) → a < 2 ^ 64 → b < 2 ^ 64 → c < 2 ^ 64 → d < 2 ^ 64 → ((k : ℕ) → k < 128 → hit2 a b k ≡ hit2 c d k) → (a ≡ c) × (b ≡ d)
same_words a b c d la lb lc ld h = (
  same_word 64 a c la lc (λ k u. sym (hit2_low a b k u) ∙ h k (omega arith) ∙ hit2_low c d k u),
  same_word 64 b d lb ld (λ k u.
      let e : 64 + k - 64 ≡ k = omega arith in
      rw e at (sym (hit2_high a b (64 + k) (omega arith)) ∙ h (64 + k) (omega arith) ∙ hit2_high c d (64 + k) (omega arith))),
)

-- the same for masks with the same numbers at all
pub equal_words : (a b c d : ℕ) → a < 2 ^ 64 → b < 2 ^ 64 → c < 2 ^ 64 → d < 2 ^ 64 → hit2 a b ≡ hit2 c d → (a ≡ c) × (b ≡ d)
equal_words a b c d la lb lc ld e = same_words a b c d la lb lc ld (λ k u. rw e)

-- no number from 128 on is in a mask
pub beyond : (a b k : ℕ) → b < 2 ^ 64 → 128 ≤ k → hit2 a b k ≡ false
beyond a b k l h =
    hit2_high a b k (omega arith) ∙ hit_no b (k - 64) (rw (div-eq_of_lt (lt_of_lt_of_le l (pow_mono {i = 64} {j = k - 64} (omega arith)))))

-- what `with_cell` does with a cell, and with a number that is none
pub cell_taken : (n : ℕ) (a b : ℕ → Bool) → n < 128 → cond (ltb n 128) a b ≡ a
cell_taken n a b l = rw (lt-ltb n 128 l)

pub cell_left : (n : ℕ) (a b : ℕ → Bool) → 128 ≤ n → cond (ltb n 128) a b ≡ b
cell_left n a b l = rw (le-ltb n 128 l)

-- ---- `apart`, both ways
pub apart_all : (n : ℕ) (a b : ℕ → Bool) → ((k : ℕ) → k < n → (a k && b k) ≡ false) → apart n a b ≡ true
unfolding apart
apart_all zero a b h = refl
apart_all (suc n) a b h = rw (h n (omega arith)) (apart_all n a b (λ k l. h k (omega arith)))

both_false : (a b : Bool) (c : Bool) → (not (a && b) && c) ≡ true → ((a && b) ≡ false) × (c ≡ true)
both_false true true c e = absurd (false≢true e)
both_false true false c e = (refl, e)
both_false false b c e = (refl, e)

pub apart_each : (n : ℕ) (a b : ℕ → Bool) → apart n a b ≡ true → (k : ℕ) → k < n → (a k && b k) ≡ false
unfolding apart
apart_each zero a b e k l = absurd (omega arith)
apart_each (suc n) a b e k l =
    let h = both_false (a n) (b n) (apart n a b) e in
    ⊎_elim (λ (q : k ≡ n). rw q h.0) (λ (q : k < n). apart_each n a b h.1 k q) (eq-or-lt_of_le (le_of_suc-le-suc l))

pub apart_of : (n : ℕ) (a b : ℕ → Bool) → ((k : ℕ) → k < n → a k ≡ true → b k ≡ true → ⊥) → apart n a b ≡ true
apart_of n a b h = apart_all n a b (λ k l. go (a k) (b k) (h k l))
  where
    go : (s t : Bool) → (s ≡ true → t ≡ true → ⊥) → (s && t) ≡ false
    go true true f = absurd (f refl refl)
    go true false f = refl
    go false t f = refl

pub apart_not : (n : ℕ) (a b : ℕ → Bool) → apart n a b ≡ true → (k : ℕ) → k < n → a k ≡ true → b k ≡ true → ⊥
apart_not n a b e k l u v = true≢false (sym (rw (u, v)) ∙ apart_each n a b e k l)

-- ---- `a & c == 0` and `b & d == 0`
pub apart_yes : (n a b c d : ℕ) → bit_and a c ≡ 0 → bit_and b d ≡ 0 → apart n (hit2 a b) (hit2 c d) ≡ true
apart_yes n a b c d e f = apart_all n (hit2 a b) (hit2 c d) (λ k l. rw (← hit2_and_at a b c d k, e, f) (hit2_zero_at k))

module _ (a b c d : ℕ) (small : c < 2 ^ 64) (small' : d < 2 ^ 64) where
  apart_words : apart 128 (hit2 a b) (hit2 c d) ≡ true → (bit_and a c ≡ 0) × (bit_and b d ≡ 0)
  apart_words e =
      same_words (bit_and a c) (bit_and b d) 0 0 (lt_of_le_of_lt (and_le_r a c) small) (lt_of_le_of_lt (and_le_r b d) small') (omega arith) (omega arith)
      (λ k u. hit2_and_at a b c d k ∙ apart_each 128 (hit2 a b) (hit2 c d) e k u ∙ sym (hit2_zero_at k))

  -- the answer of `meets`, at its two ends
  pub meets_low : (bit_and a c ≡ 0 → ⊥) → not (eqb (bit_and a c) 0) ≡ not (apart 128 (hit2 a b) (hit2 c d))
  meets_low h = rw (ne_eqb (bit_and a c) 0 h, not_true (apart 128 (hit2 a b) (hit2 c d)) (λ e. h (apart_words e).0))

  pub meets_high : bit_and a c ≡ 0 → not (eqb (bit_and b d) 0) ≡ not (apart 128 (hit2 a b) (hit2 c d))
  meets_high z = ap not (go (ℕ_discrete (bit_and b d) 0))
    where
      go : Dec (bit_and b d ≡ 0) → eqb (bit_and b d) 0 ≡ apart 128 (hit2 a b) (hit2 c d)
      go (yes e) = eq-eqb (bit_and b d) 0 e ∙ sym (apart_yes 128 a b c d z e)
      go (no h) = ne_eqb (bit_and b d) 0 h ∙ sym (not_true (apart 128 (hit2 a b) (hit2 c d)) (λ e. h (apart_words e).1))

-- ---- what `==` of two masks tells of their cells
pub same_cells : (r : Bool) (m n : Mask) → m.low < 2 ^ 64 → m.high < 2 ^ 64 → n.low < 2 ^ 64 → n.high < 2 ^ 64
    → r ≡ (eqb m.low n.low && eqb m.high n.high) → SameCells r (has m) (has n)
same_cells r m n a b c d e = rw e (go (ℕ_discrete m.low n.low) (ℕ_discrete m.high n.high))
  where
    go : Dec (m.low ≡ n.low) → Dec (m.high ≡ n.high) → SameCells (eqb m.low n.low && eqb m.high n.high) (has m) (has n)
    go (no h) q = rw (ne_eqb m.low n.low h) (λ s. h (equal_words m.low m.high n.low n.high a b c d s).0)
    go (yes p) (no h) = rw (eq-eqb m.low n.low p, ne_eqb m.high n.high h) (λ s. h (equal_words m.low m.high n.low n.high a b c d s).1)
    go (yes p) (yes q) = rw (eq-eqb m.low n.low p, eq-eqb m.high n.high q) (rw (p, q))
