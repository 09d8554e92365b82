-- Whether a system has a text: its kinds by their copies. Assumes nothing.
use Prim.Native.Nat.{ℕ, ◌≤◌, ◌<◌}
use mathlib.Core.Bool.{Bool, true, false, cond, ◌||◌}
use mathlib.Core.List.{List, [], ◌∷◌, map}
use mathlib.Core.Path.{◌≡◌, refl, sym, ap, ◌∙◌}
use native.Mathlib.Omega.{arith}
use lib.Dec.{ltb, eqb, eqb→eq}
use lib.ListN.{length, take, length-map}
use lib.Seq.{length-take-le, get_or-take}
use Rattle.std.specs.List.{list_any}
use Rattle.lists.specs.Lists.{any, below}
use Rattle.lists.proofs.RangeLaws.{map_below}
use Rattle.lists.proofs.ListLaws.{any_map, get_or_map}
use Rattle.lists.proofs.TestLaws.{by_eq, by_order, not_true, cond_false, cond_true, eqb_of, is_true, is_false, not_both, or_no, or_right}
use Rattle.rows.specs.Charts.{kind_copies, no_kind}
use Rattle.rows.specs.Systems.{System, system_in, system_over}
use Rattle.rows.specs.declared.Dims.{Dims}
use Rattle.rows.specs.declared.chart.Chart.{Chart}
use Rattle.rows.specs.declared.chart.Kind.{Kind}
use borrow.Author.Tests.{lt-ltb, le-ltb}
use Rattle.definitions.specs.Refusals.{first_that_applies}
use Rattle.dlx.specs.Texts.{has_no_text, text_by, last_rows}

pub any_is : {A : Type 0} (p : A → Bool) (xs : List A) → any p xs ≡ list_any p xs
any_is p [] = refl
any_is p (x ∷ xs) = ap (λ (b : Bool). p x || b) (any_is p xs)

copies_are : (kinds : List Kind) (n : ℕ) → n ≤ length kinds → map (kind_copies kinds) (below n) ≡ map (λ d. d.copies) (take n kinds)
copies_are kinds n h =
    let long = length-take-le n kinds h in
    map_below (kind_copies kinds) n 0 (map (λ d. d.copies) (take n kinds)) (length-map (take n kinds) (λ d. d.copies) ∙ long)
    (λ k l. ap (λ (d : Kind). d.copies) (sym (get_or-take n kinds k no_kind l)) ∙ sym (get_or_map no_kind 0 (λ d. d.copies) (take n kinds) k (omega arith)))

pub twice_is : (kinds : List Kind) (n : ℕ) → n ≤ length kinds → any (λ d. ltb 1 d.copies) (take n kinds) ≡ any (ltb 1) (map (kind_copies kinds) (below n))
twice_is kinds n h = sym (ap (any (ltb 1)) (copies_are kinds n h) ∙ any_map (ltb 1) (λ d. d.copies) (take n kinds))

module _ (d : Dims) (work : List ℕ) (chart : Chart) where
  -- no primary item
  pub none_to_cover : d.size ≡ 0 → has_no_text (system_in d work chart) ≡ true
  unfolding has_no_text system_in system_over
  none_to_cover e =
      let more = any (ltb 1) (system_in d work chart).copies in
      is_true (more || eqb d.size 0) (or_right more (eqb d.size 0) (eqb_of e))

  -- else the kinds decide
  pub by_kinds : (d.size ≡ 0 → ⊥) → any (ltb 1) (map (kind_copies chart.kinds) (below d.kinds)) ≡ has_no_text (system_in d work chart)
  unfolding has_no_text system_in system_over
  by_kinds z =
      let more = any (ltb 1) (system_in d work chart).copies in
      sym (ap (λ (x : Bool). more || x) (is_false (eqb d.size 0) (λ t. z (eqb→eq d.size 0 t))) ∙ or_no more)

-- ---- 17 and 18
module _ (s : System) (room : ℕ) where
  pub without_text : has_no_text s ≡ true → first_that_applies (last_rows s room) ≡ 17
  unfolding last_rows
  without_text e = cond_true (has_no_text s) 17 _ e

  pub with_text : has_no_text s ≡ false → first_that_applies (last_rows s room) ≡ cond (ltb room (length (text_by s))) 18 0
  unfolding last_rows
  with_text e = cond_false (has_no_text s) 17 _ e

  pub too_short : has_no_text s ≡ false → room < length (text_by s) → first_that_applies (last_rows s room) ≡ 18
  too_short e h = with_text e ∙ cond_true (ltb room (length (text_by s))) 18 0 (lt-ltb room (length (text_by s)) h)

  pub long_enough : has_no_text s ≡ false → length (text_by s) ≤ room → first_that_applies (last_rows s room) ≡ 0
  long_enough e h = with_text e ∙ cond_false (ltb room (length (text_by s))) 18 0 (le-ltb room (length (text_by s)) h)

  -- where neither applies there is a text, and room for it
  pub has_text : first_that_applies (last_rows s room) ≡ 0 → has_no_text s ≡ false
  has_text e = not_true (has_no_text s) (λ t. let z = sym (without_text t) ∙ e in omega arith)

  pub has_room : first_that_applies (last_rows s room) ≡ 0 → length (text_by s) ≤ room
  has_room e = by_order (length (text_by s)) room (λ h. h) (λ h. let z = sym (too_short (has_text e) h) ∙ e in omega arith)

-- a system that has a text has a cell
pub cell_to_cover : (d : Dims) (work : List ℕ) (chart : Chart) → has_no_text (system_in d work chart) ≡ false → 1 ≤ d.size
cell_to_cover d work chart e = by_eq d.size 0 (λ z. not_both (has_no_text (system_in d work chart)) (none_to_cover d work chart z) e) (λ z. omega arith)
