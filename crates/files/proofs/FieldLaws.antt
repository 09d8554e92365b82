-- Fields, and numbers digit by digit. Assumes nothing.
use Rattle.std.proofs.Common.{◌≡◌, ℕ, zero, suc, ◌+◌, ◌-◌, ◌*◌, ◌^◌, ◌≤◌, ◌<◌, Bool, true, false, cond, not, eqb, ◌&&◌, Option, Some, None, List, [], ◌∷◌, length, get_or, drop, refl, sym, ap, ◌∙◌, arith}
use denote.Ref.{Bor}
use native.Mathlib.Nat.{pow-suc, pow-le-pow_right}
use lib.ListN.{get_or-eq_default}
use borrow.Author.Tests.{le-leb, lt-leb}
use Rattle.std.specs.Option.{option_map, unwrap_or}
use Rattle.std.specs.List.{slice_get}
use Rattle.std.proofs.lemmas.Option.{unwrap_or-slice_get}
use Rattle.std.proofs.lemmas.List.{at_drop_more, at_drop_all}
use Rattle.lists.specs.Lists.{all, is_empty}
use Rattle.lists.proofs.TestLaws.{and_no}
use Rattle.definitions.specs.Files.{field, fields_of, is_digit, is_number, number_from, number_in, on_first, parts}

-- a part, or nothing where there is none
pub part_or : (r : Option (Bor (List ℕ))) (d part : Bor (List ℕ)) (ws : List (List ℕ)) (n : ℕ) → part ≡ unwrap_or r d → d.now ≡ [] → option_map (λ x. x.now) r ≡ slice_get ws n → part.now ≡ get_or ws n []
part_or None d part ws n e f g = ap (λ (p : Bor (List ℕ)). p.now) e ∙ f ∙ ap (λ (o : Option (List ℕ)). unwrap_or o []) g ∙ unwrap_or-slice_get ws n []
part_or (Some x) d part ws n e f g = ap (λ (p : Bor (List ℕ)). p.now) e ∙ ap (λ (o : Option (List ℕ)). unwrap_or o []) g ∙ unwrap_or-slice_get ws n []

-- ---- a number
pub number_empty : (most : ℕ) (ds : List ℕ) → length ds ≡ 0 → is_number most ds ≡ false
unfolding is_number
number_empty most [] e = refl
number_empty most (d ∷ ds) e = absurd (omega arith)

pub number_long : (most : ℕ) (ds : List ℕ) → most < length ds → is_number most ds ≡ false
unfolding is_number
number_long most ds h = ap (λ (b : Bool). not (is_empty ds) && (b && all is_digit ds)) (lt-leb (length ds) most h) ∙ and_no (not (is_empty ds))

pub number_digits : (most : ℕ) (ds : List ℕ) → 0 < length ds → length ds ≤ most → is_number most ds ≡ all is_digit ds
unfolding is_number
number_digits most [] h k = absurd (omega arith)
number_digits most (d ∷ ds) h k = ap (λ (b : Bool). b && all is_digit (d ∷ ds)) (le-leb (length (d ∷ ds)) most k)

-- the digits from place i on
module _ (ds : List ℕ) (i : ℕ) where
  pub digit_stops : i < length ds → is_digit (get_or ds i 0) ≡ false → all is_digit (drop i ds) ≡ false
  digit_stops h e = at_drop_more (all is_digit) ds i 0 h ∙ ap (λ (t : Bool). t && all is_digit (drop (i + 1) ds)) e

  pub digit_passes : i < length ds → is_digit (get_or ds i 0) ≡ true → all is_digit (drop (i + 1) ds) ≡ all is_digit (drop i ds)
  digit_passes h e = sym (at_drop_more (all is_digit) ds i 0 h ∙ ap (λ (t : Bool). t && all is_digit (drop (i + 1) ds)) e)

  pub number_more : (n : ℕ) → i < length ds → number_from (n * 10 + (get_or ds i 0 - 48)) (drop (i + 1) ds) ≡ number_from n (drop i ds)
  number_more n h = sym (at_drop_more (number_from n) ds i 0 h)

  pub digits_over : length ds ≤ i → all is_digit (drop i ds) ≡ true
  digits_over h = at_drop_all (all is_digit) ds i h

  pub number_over : (n : ℕ) → length ds ≤ i → number_from n (drop i ds) ≡ n
  number_over n h = at_drop_all (number_from n) ds i h

pub digit_small : (n i d : ℕ) → n < 10 ^ i → d ≤ 57 → n * 10 + (d - 48) < 10 ^ (i + 1)
digit_small n i d h k = let e = pow-suc 10 i in let z : i + 1 ≡ suc i = omega arith in rw z (omega arith)

pub below_power : (n i most : ℕ) → n < 10 ^ i → i ≤ most → n < 10 ^ most
below_power n i most h k = let t : 0 < 10 = omega arith in let e : 10 ^ i ≤ 10 ^ most = pow-le-pow_right t k in omega arith

-- a line with six fields has no wood, and it is 0
pub wood_absent : (line : List ℕ) → length (fields_of line) ≡ 6 → number_in (field line 6) ≡ 0
unfolding field number_in
wood_absent line e = ap (number_from 0) (get_or-eq_default (fields_of line) [] (omega arith))

-- a field is no longer than its line
parts_short : (b : ℕ) (xs : List ℕ) (n : ℕ) → length (get_or (parts b xs) n []) ≤ length xs
parts_short b [] zero = omega arith
parts_short b [] (suc n) = omega arith
parts_short b (x ∷ xs) n = go (eqb x b) n (parts b xs) (parts_short b xs)
  where
    go : (t : Bool) (n : ℕ) (ws : List (List ℕ)) → ((m : ℕ) → length (get_or ws m []) ≤ length xs) → length (get_or (cond t ([] ∷ ws) (on_first x ws)) n []) ≤ suc (length xs)
    go true zero ws h = omega arith
    go true (suc n) ws h = omega (arith, h n)
    go false zero [] h = omega arith
    go false (suc n) [] h = omega arith
    go false zero (w ∷ ws) h = omega (arith, h 0)
    go false (suc n) (w ∷ ws) h = omega (arith, h (suc n))

pub field_short : (line : List ℕ) (n : ℕ) → length (field line n) ≤ length line
unfolding field fields_of
field_short line n = parts_short 9 line n
