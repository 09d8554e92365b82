-- The decimal digits of a number: each is a digit, there are three at most below 1,000, and they tell the number. Assumes nothing.
use Prim.Native.Nat.{ℕ, zero, suc, ◌+◌, ◌-◌, ◌*◌, ◌/◌, ◌%◌, ◌^◌, ◌≤◌, ◌<◌}
use mathlib.Core.Bool.{Bool, true, false, cond, not, ◌&&◌}
use mathlib.Core.List.{List, [], ◌∷◌, ◌++◌}
use mathlib.Core.Path.{◌≡◌, refl, sym, ap, ◌∙◌, subst}
use mathlib.Core.Logic.{◌⊎◌, inl, inr}
use native.Mathlib.Nat.{pow-suc}
use native.Mathlib.Omega.{arith}
use borrow.Author.Tests.{ltb-true, lt-ltb}
use lib.Dec.{T, ltb, leb, eqb, eqb→eq, le→leb}
use lib.ListN.{length, length-append}
use Rattle.lists.specs.Lists.{all, is_empty}
use Rattle.lists.proofs.TestLaws.{and_both, clash, decide}
use Rattle.lists.proofs.ListLaws.{all_at, all_of, all_append}
use Rattle.definitions.specs.Files.{is_digit, is_number, decimal_with, decimal, number_from, number_in}

-- ---- each is a digit
a_digit : (n : ℕ) → n < 10 → T (is_digit (n + 48))
unfolding is_digit
a_digit n h = and_both (leb 48 (n + 48)) (leb (n + 48) 57) (le→leb 48 (n + 48) (omega arith)) (le→leb (n + 48) 57 (omega arith))

digits_with : (fuel n : ℕ) → T (all is_digit (decimal_with fuel n))
digits_with zero n = tt
digits_with (suc fuel) n = go (ltb n 10) refl (digits_with fuel (n / 10))
  where
    one : (m : ℕ) → m < 10 → T (all is_digit ((m + 48) ∷ []))
    one m h = and_both (is_digit (m + 48)) true (a_digit m h) tt

    go : (b : Bool) → ltb n 10 ≡ b → T (all is_digit (decimal_with fuel (n / 10)))
        → T (all is_digit (cond b ((n + 48) ∷ []) (decimal_with fuel (n / 10) ++ ((n % 10 + 48) ∷ []))))
    go true e t = one n (ltb-true n 10 e)
    go false e t =
        subst T (sym (all_append is_digit (decimal_with fuel (n / 10)) ((n % 10 + 48) ∷ [])))
        (and_both (all is_digit (decimal_with fuel (n / 10))) (all is_digit ((n % 10 + 48) ∷ [])) t (one (n % 10) (omega arith)))

pub digits_are : (n : ℕ) → T (all is_digit (decimal n))
unfolding decimal
digits_are n = digits_with 20 n

-- a byte that is no digit is none of them
pub no_digit : (b n : ℕ) → T (not (is_digit b)) → T (all (λ x. not (eqb x b)) (decimal n))
no_digit b n t = all_of (λ x. not (eqb x b)) (decimal n) (λ x m. go x (all_at is_digit (decimal n) (digits_are n) m) (decide (eqb x b)))
  where
    go : (x : ℕ) → T (is_digit x) → T (eqb x b) ⊎ T (not (eqb x b)) → T (not (eqb x b))
    go x s (inl u) = absurd (clash (is_digit b) (subst (λ (y : ℕ). T (is_digit y)) (eqb→eq x b u) s) t)
    go x s (inr u) = u

-- ---- how many
pub tenth : (n k : ℕ) → n < 10 ^ suc k → n / 10 < 10 ^ k
tenth n k h = let e = pow-suc 10 k in omega arith

pub few_with : (k fuel n : ℕ) → n < 10 ^ suc k → length (decimal_with fuel n) ≤ suc k
few_with k zero n h = omega arith
few_with zero (suc fuel) n h = rw (lt-ltb n 10 (omega arith)) (omega arith)
few_with (suc k) (suc fuel) n h = go (ltb n 10) (few_with k fuel (n / 10) (tenth n (suc k) h))
  where
    go : (t : Bool) → length (decimal_with fuel (n / 10)) ≤ suc k → length (cond t ((n + 48) ∷ []) (decimal_with fuel (n / 10) ++ ((n % 10 + 48) ∷ []))) ≤ suc (suc k)
    go true i = omega arith
    go false i = simp length-append (omega arith)

pub three_digits : (n : ℕ) → n < 1000 → length (decimal n) ≤ 3
unfolding decimal
three_digits n h = few_with 2 20 n (omega arith)

some_with : (fuel n : ℕ) → T (not (is_empty (decimal_with (suc fuel) n)))
some_with fuel n = go (ltb n 10) (decimal_with fuel (n / 10))
  where
    go : (b : Bool) (ds : List ℕ) → T (not (is_empty (cond b ((n + 48) ∷ []) (ds ++ ((n % 10 + 48) ∷ [])))))
    go true ds = tt
    go false [] = tt
    go false (d ∷ ds) = tt

-- a number below 1,000 is written as files want it
pub side_number : (n : ℕ) → n < 1000 → T (is_number 3 (decimal n))
unfolding is_number decimal
side_number n h =
    and_both (not (is_empty (decimal n))) (leb (length (decimal n)) 3 && all is_digit (decimal n)) (some_with 19 n)
    (and_both (leb (length (decimal n)) 3) (all is_digit (decimal n)) (le→leb (length (decimal n)) 3 (three_digits n h)) (digits_are n))

-- ---- they tell the number
number_end : (n : ℕ) (ds : List ℕ) (d : ℕ) → number_from n (ds ++ (d ∷ [])) ≡ number_from n ds * 10 + (d - 48)
number_end n [] d = refl
number_end n (x ∷ ds) d = number_end (n * 10 + (x - 48)) ds d

number_with : (fuel n : ℕ) → n < 10 ^ fuel → number_from 0 (decimal_with fuel n) ≡ n
number_with zero n h = omega arith
number_with (suc fuel) n h = go (ltb n 10) (number_with fuel (n / 10) (tenth n fuel h))
  where
    go : (b : Bool) → number_from 0 (decimal_with fuel (n / 10)) ≡ n / 10
        → number_from 0 (cond b ((n + 48) ∷ []) (decimal_with fuel (n / 10) ++ ((n % 10 + 48) ∷ []))) ≡ n
    go true e = omega arith
    go false e = number_end 0 (decimal_with fuel (n / 10)) (n % 10 + 48) ∙ omega arith

pub decimal_number : (n : ℕ) → n < 10 ^ 20 → number_in (decimal n) ≡ n
unfolding decimal number_in
decimal_number n h = number_with 20 n h

pub decimal_tells : (n m : ℕ) → n < 1000 → m < 1000 → decimal n ≡ decimal m → n ≡ m
decimal_tells n m h k e = sym (decimal_number n (omega arith)) ∙ ap number_in e ∙ decimal_number m (omega arith)
