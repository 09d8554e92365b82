-- The first number that a mask leaves open, by a count of trailing zeros. Assumes nothing.
use mathlib.Core.Path.{◌≡◌, refl, sym, ap, ◌∙◌}
use mathlib.Core.Bool.{Bool, true, false, not, true≢false}
use mathlib.Core.Logic.{◌⊎◌, inl, inr, ⊎_elim}
use Prim.Native.Nat.{ℕ, zero, suc, ◌+◌, ◌-◌, ◌*◌, ◌/◌, ◌%◌, ◌^◌, ◌≤◌, ◌<◌}
use native.Mathlib.Nat.{zero-div, div-one, div-eq_of_lt, pow-suc, add-mul, one-mul, mod-lt, lt_of_lt_of_le}
use native.Mathlib.Omega.{arith}
use lib.Count.{under, count_trailing_zeros, trailing_le}
use lib.Pow.{pow_pos, pow-add, pow_mono, shr-shr, shr_le, shr_lt, split, high}
use Rattle.lists.proofs.TestLaws.{lt_or_ge}
use Rattle.masks.specs.Masks.{hit, hit2, FirstOpen, FirstIn}
use Rattle.masks.proofs.MaskLaws.{hit_no, hit_yes, hit_zero, hit2_low, hit2_high, same_word}

-- ---- the digits below the lowest set digit, and that digit
next_bit : (x i : ℕ) → x / 2 / 2 ^ i ≡ x / 2 ^ suc i
next_bit x i = let e : 1 + i ≡ suc i = omega arith in rw e at (shr-shr x 1 i)

below_trailing : (k x i : ℕ) → i < count_trailing_zeros k x → x / 2 ^ i % 2 ≡ 0
unfolding count_trailing_zeros
below_trailing zero x i l = absurd (omega arith)
below_trailing (suc k) x i l = go (below_trailing k (x / 2)) (x % 2) refl i l
  where
    go : ((i : ℕ) → i < count_trailing_zeros k (x / 2) → x / 2 / 2 ^ i % 2 ≡ 0) → (d : ℕ) → x % 2 ≡ d → (i : ℕ) → i < under d (count_trailing_zeros k (x / 2)) → x / 2 ^ i % 2 ≡ 0
    go rest zero e zero l = rw (div-one x) e
    go rest zero e (suc i) l = rw (← next_bit x i) (rest i (omega arith))
    go rest (suc d) e i l = absurd (omega arith)

at_trailing : (k x : ℕ) → count_trailing_zeros k x < k → x / 2 ^ count_trailing_zeros k x % 2 ≡ 1
unfolding count_trailing_zeros
at_trailing zero x l = absurd (omega arith)
at_trailing (suc k) x l = go (at_trailing k (x / 2)) (x % 2) refl l
  where
    go : (count_trailing_zeros k (x / 2) < k → x / 2 / 2 ^ count_trailing_zeros k (x / 2) % 2 ≡ 1) → (d : ℕ) → x % 2 ≡ d
        → under d (count_trailing_zeros k (x / 2)) < suc k → x / 2 ^ under d (count_trailing_zeros k (x / 2)) % 2 ≡ 1
    go rest zero e l = rw (← next_bit x (count_trailing_zeros k (x / 2))) (rest (omega arith))
    go rest (suc d) e l = rw (div-one x) (omega arith)

-- ---- a digit of `!c`
mul_split : (a m q b : ℕ) → a ≡ m + 1 + q → a * b ≡ m * b + b + q * b
mul_split a m q b e = rw (e, add-mul (m + 1) q b, add-mul m 1 b, one-mul b)

not_shr : (c a b whole q r m : ℕ) → whole ≡ a * b → q * b + r ≡ c → a ≡ m + 1 + q → r < b → whole - 1 - c ≡ m * b + (b - 1 - r)
not_shr c a b whole q r m e s d l = omega (arith, mul_split a m q b d)

not_odd : (m q t : ℕ) → t * 2 ≡ m + 1 + q → m % 2 ≡ 1 - q % 2
not_odd m q t e = omega arith

not_bit : (c j k : ℕ) → c < 2 ^ (suc j + k) → (2 ^ (suc j + k) - 1 - c) / 2 ^ k % 2 ≡ 1 - c / 2 ^ k % 2
not_bit c j k l =
    let q : c / 2 ^ k < 2 ^ suc j = shr_lt (suc j) k l in
    let r : c % 2 ^ k < 2 ^ k = mod-lt c (pow_pos k) in
    let e : 2 ^ suc j ≡ 2 ^ suc j - 1 - c / 2 ^ k + 1 + c / 2 ^ k = omega arith in
    rw (
      not_shr c (2 ^ suc j) (2 ^ k) (2 ^ (suc j + k)) (c / 2 ^ k) (c % 2 ^ k) (2 ^ suc j - 1 - c / 2 ^ k) (pow-add 2 (suc j) k) (split c k) e r,
      high (2 ^ suc j - 1 - c / 2 ^ k) k {lo = 2 ^ k - 1 - c % 2 ^ k} (omega arith),
    )
    (not_odd (2 ^ suc j - 1 - c / 2 ^ k) (c / 2 ^ k) (2 ^ j) (sym (pow-suc 2 j) ∙ e))

-- at a word of 64 digits
flipped : (c k : ℕ) → c < 2 ^ 64 → k < 64 → (2 ^ 64 - 1 - c) / 2 ^ k % 2 ≡ 1 - c / 2 ^ k % 2
flipped c k l h = let e : suc (63 - k) + k ≡ 64 = omega arith in rw e at (not_bit c (63 - k) k (rw e l))

-- ---- the first number from `pos` on that a word leaves open
module _ (c pos : ℕ) (word : c < 2 ^ 64) where
  abbrev rest : ℕ
  rest = (2 ^ 64 - 1 - c) / 2 ^ pos

  bit_of : (i : ℕ) → pos + i < 64 → rest / 2 ^ i % 2 ≡ 1 - c / 2 ^ (pos + i) % 2
  bit_of i l = rw (shr-shr (2 ^ 64 - 1 - c) pos i) (flipped c (pos + i) word l)

  passes : (k : ℕ) → k < 64 → k < pos + count_trailing_zeros 64 rest → pos ≤ k → hit c k ≡ true
  passes k h l g =
      let e : pos + (k - pos) ≡ k = omega arith in
      let b : rest / 2 ^ (k - pos) % 2 ≡ 1 - c / 2 ^ k % 2 = rw e at (bit_of (k - pos) (omega arith)) in
      let z = below_trailing 64 rest (k - pos) (omega arith) in
      hit_yes c k (λ f. omega arith)

  halts : pos + count_trailing_zeros 64 rest < 64 → hit c (pos + count_trailing_zeros 64 rest) ≡ false
  halts l =
      let b = bit_of (count_trailing_zeros 64 rest) (omega arith) in
      let z = at_trailing 64 rest (omega arith) in
      hit_no c (pos + count_trailing_zeros 64 rest) (omega arith)

-- ---- the ends of `next_open`
module _ (a b n : ℕ) (low : a < 2 ^ 64) (high : b < 2 ^ 64) where
  pub open_low : n < 64 → count_trailing_zeros 64 ((2 ^ 64 - 1 - a) / 2 ^ n) < 64 - n
      → FirstOpen (hit2 a b) n (n + count_trailing_zeros 64 ((2 ^ 64 - 1 - a) / 2 ^ n))
  open_low l h =
      record {
        from = omega arith;
        up_to = omega arith;
        passed = λ k u v. hit2_low a b k (omega arith) ∙ passes a n low k (omega arith) v u;
        stops = λ u. hit2_low a b (n + count_trailing_zeros 64 ((2 ^ 64 - 1 - a) / 2 ^ n)) (omega arith) ∙ halts a n low (omega arith);
      }

  pub open_across : n < 64 → 64 - n ≤ count_trailing_zeros 64 ((2 ^ 64 - 1 - a) / 2 ^ n) → FirstOpen (hit2 a b) n (64 + count_trailing_zeros 64 (2 ^ 64 - 1 - b))
  open_across l h =
      let t = trailing_le 64 (2 ^ 64 - 1 - b) in
      let q : 64 + count_trailing_zeros 64 (2 ^ 64 - 1 - b) - 64 ≡ 0 + count_trailing_zeros 64 (2 ^ 64 - 1 - b) = omega arith in
      let e : (2 ^ 64 - 1 - b) / 2 ^ 0 ≡ 2 ^ 64 - 1 - b = div-one (2 ^ 64 - 1 - b) in
      record {
        from = omega arith;
        up_to = omega arith;
        passed = λ k u v.
            ⊎_elim (λ (q : k < 64). hit2_low a b k q ∙ passes a n low k q (omega arith) u)
            (λ (q : 64 ≤ k). hit2_high a b k q ∙ passes b 0 high (k - 64) (omega arith) (rw e (omega arith)) (omega arith)) (lt_or_ge k 64);
        stops = λ u. hit2_high a b (64 + count_trailing_zeros 64 (2 ^ 64 - 1 - b)) (omega arith) ∙ rw q (rw e at (halts b 0 high (rw e (omega arith))));
      }

  pub open_high : 64 ≤ n → n < 128 → count_trailing_zeros 64 ((2 ^ 64 - 1 - b) / 2 ^ (n - 64)) < 128 - n
      → FirstOpen (hit2 a b) n (n + count_trailing_zeros 64 ((2 ^ 64 - 1 - b) / 2 ^ (n - 64)))
  open_high l m h =
      let e : n + count_trailing_zeros 64 ((2 ^ 64 - 1 - b) / 2 ^ (n - 64)) - 64 ≡ n - 64 + count_trailing_zeros 64 ((2 ^ 64 - 1 - b) / 2 ^ (n - 64)) = omega arith in
      record {
        from = omega arith;
        up_to = omega arith;
        passed = λ k u v. hit2_high a b k (omega arith) ∙ passes b (n - 64) high (k - 64) (omega arith) (omega arith) (omega arith);
        stops = λ u. hit2_high a b (n + count_trailing_zeros 64 ((2 ^ 64 - 1 - b) / 2 ^ (n - 64))) (omega arith) ∙ rw e (halts b (n - 64) high (omega arith));
      }

  pub open_none : 64 ≤ n → n < 128 → 128 - n ≤ count_trailing_zeros 64 ((2 ^ 64 - 1 - b) / 2 ^ (n - 64)) → FirstOpen (hit2 a b) n 128
  open_none l m h =
      record {
        from = omega arith;
        up_to = omega arith;
        passed = λ k u v. hit2_high a b k (omega arith) ∙ passes b (n - 64) high (k - 64) (omega arith) (omega arith) (omega arith);
        stops = λ u. absurd (omega arith);
      }

-- ---- the first number from n on in a set: the first that the flipped words leave open
hit_flipped : (c k : ℕ) → c < 2 ^ 64 → k < 64 → hit (2 ^ 64 - 1 - c) k ≡ not (hit c k)
hit_flipped c k l h = ⊎_elim (λ e. rw (hit_no c k e) (hit_yes (2 ^ 64 - 1 - c) k (λ f. omega (arith, flipped c k l h))))
    (λ e. rw (hit_yes c k e) (hit_no (2 ^ 64 - 1 - c) k (omega (arith, flipped c k l h, mod-lt (c / 2 ^ k) (pow_pos 1)))))
    (zero_or (c / 2 ^ k % 2))
  where
    zero_or : (n : ℕ) → (n ≡ 0) ⊎ (n ≡ 0 → ⊥)
    zero_or zero = inl refl
    zero_or (suc n) = inr (λ e. omega arith)

hit2_flipped : (a b k : ℕ) → a < 2 ^ 64 → b < 2 ^ 64 → k < 128 → hit2 (2 ^ 64 - 1 - a) (2 ^ 64 - 1 - b) k ≡ not (hit2 a b k)
hit2_flipped a b k low high h =
    ⊎_elim (λ l. rw (hit2_low (2 ^ 64 - 1 - a) (2 ^ 64 - 1 - b) k l, hit2_low a b k l) (hit_flipped a k low l))
    (λ l. rw (hit2_high (2 ^ 64 - 1 - a) (2 ^ 64 - 1 - b) k l, hit2_high a b k l) (hit_flipped b (k - 64) high (omega arith)))
    (lt_or_ge k 64)

not_back : (x y : Bool) → x ≡ not y → (z : Bool) → x ≡ z → y ≡ not z
not_back x true e z f = ap not (sym e ∙ f)
not_back x false e z f = ap not (sym e ∙ f)

pub first_in : (a b n r : ℕ) → a < 2 ^ 64 → b < 2 ^ 64 → FirstOpen (hit2 (2 ^ 64 - 1 - a) (2 ^ 64 - 1 - b)) n r → FirstIn (hit2 a b) n r
first_in a b n r low high f =
    record {
      from = f.from;
      up_to = f.up_to;
      passed = λ k g l. not_back _ _ (hit2_flipped a b k low high (omega (arith, f.up_to))) true (f.passed k g l);
      stops = λ l. not_back _ _ (hit2_flipped a b r low high l) false (f.stops l);
    }

-- ---- the numbers of a word one after the other: what is left of it from i on, shifted down, counts up to the next
module _ (word i : ℕ) (small : word < 2 ^ 64) where
  shifted : (j : ℕ) → i ≤ j → word / 2 ^ i / 2 ^ (j - i) ≡ word / 2 ^ j
  shifted j h = let e : i + (j - i) ≡ j = omega arith in rw e at (shr-shr word i (j - i))

  pub word_passed : (j : ℕ) → i ≤ j → j < i + count_trailing_zeros 64 (word / 2 ^ i) → hit word j ≡ false
  word_passed j h l = hit_no word j (rw (← shifted j h) (below_trailing 64 (word / 2 ^ i) (j - i) (omega arith)))

  pub word_done : word / 2 ^ i ≡ 0 → (j : ℕ) → i ≤ j → hit word j ≡ false
  word_done e j h = hit_no word j (rw (← shifted j h, e, zero-div (2 ^ (j - i))))

  module _ (some : word / 2 ^ i ≡ 0 → ⊥) where
    pub word_some : count_trailing_zeros 64 (word / 2 ^ i) < 64
    word_some = ⊎_elim (λ (l : count_trailing_zeros 64 (word / 2 ^ i) < 64). l) (λ (l : 64 ≤ count_trailing_zeros 64 (word / 2 ^ i)). absurd (some (empty l))) (lt_or_ge (count_trailing_zeros 64 (word / 2 ^ i)) 64)
      where
        empty : 64 ≤ count_trailing_zeros 64 (word / 2 ^ i) → word / 2 ^ i ≡ 0
        empty l =
            same_word 64 (word / 2 ^ i) 0 (let h = shr_le word i in omega arith) (pow_pos 64)
            (λ k u. hit_no (word / 2 ^ i) k (below_trailing 64 (word / 2 ^ i) k (omega arith)) ∙ sym (hit_zero k))

    pub word_hit : hit word (i + count_trailing_zeros 64 (word / 2 ^ i)) ≡ true
    word_hit =
        let b = at_trailing 64 (word / 2 ^ i) word_some in
        let e = shr-shr word i (count_trailing_zeros 64 (word / 2 ^ i)) in
        hit_yes word (i + count_trailing_zeros 64 (word / 2 ^ i)) (λ z. let y : ◌≡◌ {A = ℕ} 0 1 = sym z ∙ ap (λ (x : ℕ). x % 2) (sym e) ∙ b in omega arith)

    pub word_within : i + count_trailing_zeros 64 (word / 2 ^ i) < 64
    word_within = ⊎_elim (λ (l : i + count_trailing_zeros 64 (word / 2 ^ i) < 64). l) (λ (l : 64 ≤ i + count_trailing_zeros 64 (word / 2 ^ i)). absurd (true≢false (sym word_hit ∙ past l))) (lt_or_ge (i + count_trailing_zeros 64 (word / 2 ^ i)) 64)
      where
        past : 64 ≤ i + count_trailing_zeros 64 (word / 2 ^ i) → hit word (i + count_trailing_zeros 64 (word / 2 ^ i)) ≡ false
        past l = hit_no word (i + count_trailing_zeros 64 (word / 2 ^ i)) (rw (div-eq_of_lt (lt_of_lt_of_le small (pow_mono {i = 64} {j = i + count_trailing_zeros 64 (word / 2 ^ i)} l))))

  pub word_next : (t : ℕ) → word / 2 ^ i / 2 ^ t / 2 ^ 1 ≡ word / 2 ^ (i + t + 1)
  word_next t = ap (λ (x : ℕ). x / 2 ^ 1) (shr-shr word i t) ∙ shr-shr word (i + t) 1
