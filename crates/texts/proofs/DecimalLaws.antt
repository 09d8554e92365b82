-- A number's digits are those of its tenth and the last one: at most 20 for 64 bits, of which the tenth has at most 19, and at most three for a byte.
-- Assumes nothing.
use Prim.Native.Nat.{ℕ, zero, suc, ◌+◌, ◌/◌, ◌%◌, ◌^◌, ◌≤◌, ◌<◌}
use mathlib.Core.Bool.{Bool, cond}
use mathlib.Core.List.{List, [], ◌∷◌, ◌++◌}
use mathlib.Core.Path.{◌≡◌, sym, ap, ◌∙◌, subst}
use native.Mathlib.Omega.{arith}
use borrow.Author.Tests.{lt-ltb, le-ltb}
use lib.Dec.{ltb}
use lib.ListN.{length, set}
use Rattle.definitions.specs.Files.{decimal, decimal_with}
use Rattle.theorems.proofs.DigitLaws.{few_with, tenth}
use Rattle.texts.specs.Put.{Put}
use Rattle.texts.proofs.PutLaws.{put_one, put_byte}

-- where the digits are enough, one more makes no difference
enough : (k n : ℕ) → n < 10 ^ suc k → decimal_with (suc k) n ≡ decimal_with (suc (suc k)) n
enough zero n h = rw (lt-ltb n 10 (omega arith))
enough (suc k) n h = ap (λ (l : List ℕ). cond (ltb n 10) ((n + 48) ∷ []) (l ++ ((n % 10 + 48) ∷ []))) (enough k (n / 10) (tenth n (suc k) h))

pub decimal_digit : (n : ℕ) → n < 10 → decimal n ≡ (n + 48) ∷ []
unfolding decimal
decimal_digit n h = rw (lt-ltb n 10 h)

pub decimal_more : (n : ℕ) → 10 ≤ n → n < 2 ^ 64 → decimal n ≡ decimal (n / 10) ++ ((n % 10 + 48) ∷ [])
unfolding decimal
decimal_more n h k =
    ap (λ (t : Bool). cond t ((n + 48) ∷ []) (decimal_with 19 (n / 10) ++ ((n % 10 + 48) ∷ []))) (le-ltb n 10 h)
    ∙ ap (λ (l : List ℕ). l ++ ((n % 10 + 48) ∷ [])) (enough 18 (n / 10) (omega arith))

pub digits_of_byte : (n : ℕ) → n < 256 → length (decimal n) ≤ 3
unfolding decimal
digits_of_byte n h = few_with 2 20 n (omega arith)

pub digits_of_tenth : (n : ℕ) → n < 2 ^ 64 → length (decimal (n / 10)) ≤ 19
unfolding decimal
digits_of_tenth n h = few_with 18 20 (n / 10) (omega arith)

-- ---- digits put
pub put_digit : (old : List ℕ) (at n : ℕ) → n < 10 → at < length old → Put old at (decimal n) (set old at (48 + n)) (at + 1)
put_digit old at n h k =
    let e : 48 + n ≡ n + 48 = omega arith in
    subst (λ (l : List ℕ). Put old at l (set old at (48 + n)) (at + 1)) (ap (λ (d : ℕ). d ∷ []) e ∙ sym (decimal_digit n h)) (put_one old at (48 + n) k)

pub put_last_digit : {old mid : List ℕ} {at m : ℕ} (n : ℕ) → 10 ≤ n → n < 2 ^ 64 → Put old at (decimal (n / 10)) mid m → m < length old → Put old at (decimal n) (set mid m (48 + n % 10)) (m + 1)
put_last_digit {old} {mid} {at} {m} n h i p k =
    let e : 48 + n % 10 ≡ n % 10 + 48 = omega arith in
    subst (λ (l : List ℕ). Put old at l (set mid m (48 + n % 10)) (m + 1)) (ap (λ (d : ℕ). decimal (n / 10) ++ (d ∷ [])) e ∙ sym (decimal_more n h i)) (put_byte (48 + n % 10) p k)
