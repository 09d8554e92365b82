-- Sets of numbers below 128 as two words of 64 bits.
use Rattle.std.specs.Prelude.{ℕ, zero, suc, min, ◌-◌, ◌/◌, ◌%◌, ◌^◌, ◌≤◌, ◌<◌, Bool, true, false, cond, not, ◌&&◌, ◌||◌, ◌≡◌, ltb, eqb}
use Rattle.masks.specs.declared.Mask.{Mask}

-- bit k of a word; number k of a set
unfoldable pub hit : ℕ → ℕ → Bool
hit m k = eqb (m / 2 ^ k % 2) 1

unfoldable pub hit2 : ℕ → ℕ → ℕ → Bool
hit2 low high k = cond (ltb k 64) (hit low k) (hit high (k - 64))

abbrev pub has : Mask → ℕ → Bool
has m k = hit2 m.low m.high k

-- no number, one number, the numbers of either set; no number below n is in both
unfoldable pub nothing : ℕ → Bool
nothing k = false

unfoldable pub only : ℕ → ℕ → Bool
only n k = eqb k n

unfoldable pub either : (ℕ → Bool) → (ℕ → Bool) → ℕ → Bool
either a b k = a k || b k

unfoldable pub apart : ℕ → (ℕ → Bool) → (ℕ → Bool) → Bool
apart zero a b = true
apart (suc n) a b = not (a n && b n) && apart n a b

-- whether two sets have the same numbers
abbrev pub SameCells : Bool → (ℕ → Bool) → (ℕ → Bool) → Type 0
SameCells true a b = a ≡ b
SameCells false a b = a ≡ b → ⊥

-- r is the first number from n on that is not in the set; 128 where there is none below it, as where n is not below it
pub record FirstOpen (a : ℕ → Bool) (n r : ℕ) : Type 0 where
  pub from : min n 128 ≤ r
  pub up_to : r ≤ 128
  pub passed : (k : ℕ) → n ≤ k → k < r → a k ≡ true
  pub stops : r < 128 → a r ≡ false

-- r is the first number from n on that is in the set; 128 where there is none below it, as where n is not below it
pub record FirstIn (a : ℕ → Bool) (n r : ℕ) : Type 0 where
  pub from : min n 128 ≤ r
  pub up_to : r ≤ 128
  pub passed : (k : ℕ) → n ≤ k → k < r → a k ≡ false
  pub stops : r < 128 → a r ≡ true
