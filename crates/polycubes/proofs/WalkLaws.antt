-- The walk through the fillings of a box, as lists of entries that are emitted. Assumes nothing.
use Prim.Native.Nat.{ℕ, suc, ◌+◌, ◌-◌, ◌≤◌, ◌<◌}
use mathlib.Core.Bool.{Bool, true, false}
use mathlib.Core.List.{List, [], ◌∷◌, ◌++◌, map-append}
use mathlib.Core.Path.{◌≡◌, sym, ap, ◌∙◌}
use native.Mathlib.Omega.{arith}
use lib.ListN.{length, set}
use Rattle.lists.specs.Lists.{cons_if}
use Rattle.definitions.specs.Emission.{Emitted, Listed, emit, emits}
use Rattle.definitions.specs.Grid.{Sides, Grid, volume}
use Rattle.definitions.specs.Catalogue.{beginning_with, grid_in_box, in_box_of, is_smallest_piece}
use Rattle.definitions.specs.CatalogueCalls.{entry_bytes}
use Rattle.theorems.proofs.EmissionLaws.{emits_append, emits_none, emits_one}
use Rattle.theorems.proofs.CatalogueWalkLaws.{below_more, below_none, below_one, below_whole, below_zero}
use Rattle.polycubes.specs.Emission.{as_entries}
use Rattle.polycubes.specs.Walk.{Filled, front_of}
use Rattle.polycubes.proofs.FillingLaws.{front_filled, front_unfilled, whole_entry}

-- the state when the entries of a list are emitted: of equal lists, and of two lists one after the other
abbrev pub after : ℕ → List Grid → Emitted → Emitted
after capacity found e = emits capacity (as_entries found) e

module _ (capacity : ℕ) (e : Emitted) where
  pub after_same : {xs ys : List Grid} → xs ≡ ys → after capacity xs e ≡ after capacity ys e
  after_same is = ap (λ (l : List Grid). after capacity l e) is

  pub after_both : (xs ys : List Grid) → after capacity (xs ++ ys) e ≡ after capacity ys (after capacity xs e)
  after_both xs ys = ap (λ (l : List Listed). emits capacity l e) (map-append _ xs ys) ∙ emits_append capacity (as_entries xs) (as_entries ys) e

-- ---- one filling
module _ {s : Sides} (entry : List ℕ) (long : length entry ≡ 21) (f : Filled s entry (volume s)) (capacity : ℕ) (e : Emitted) where
  abbrev grid : Grid
  grid = grid_in_box s (front_of entry (volume s))

  abbrev its_page : Emitted
  its_page = after capacity (beginning_with s (front_of entry (volume s)) 0 0) e

  decided : (b : Bool) → b ≡ is_smallest_piece grid → its_page ≡ after capacity (cons_if b grid []) e
  decided b is = after_same capacity e (below_one s (front_of entry (volume s)) ∙ ap (λ (x : Bool). cons_if x grid []) (sym is))

  pub no_entry : false ≡ is_smallest_piece grid → e ≡ its_page
  no_entry is = sym (decided false is ∙ emits_none capacity e)

  pub an_entry : true ≡ is_smallest_piece grid → emit capacity (record { answer = entry }) e ≡ its_page
  an_entry is =
      ap (λ (l : List ℕ). emit capacity (record { answer = l }) e) (whole_entry entry long f)
      ∙ sym (decided true is ∙ emits_one capacity e (record { answer = entry_bytes grid }))

-- ---- the fillings with k cells filled among those behind the first i
module _ (s : Sides) (entry : List ℕ) (i k capacity : ℕ) (e : Emitted) where
  abbrev front : List ℕ
  front = front_of entry i

  abbrev whole_page : Emitted
  whole_page = after capacity (beginning_with s front (volume s - i) k) e

  pub none_left : volume s - i < k → e ≡ whole_page
  none_left h = sym (after_same capacity e (below_none s front (volume s - i) k h) ∙ emits_none capacity e)

  pub all_decided : volume s - i ≡ 0 → i ≤ volume s → k ≤ 0 → after capacity (beginning_with s (front_of entry (volume s)) 0 0) e ≡ whole_page
  all_decided z h n =
      let a : volume s ≡ i = omega arith in
      let b : 0 ≡ volume s - i = omega arith in
      let d : 0 ≡ k = omega arith in
      (λ j. after capacity (beginning_with s (front_of entry (a j)) (b j) (d j)) e)

  module _ (long : length entry ≡ 21) (f : Filled s entry i) (left : i < volume s) where
    -- how many are left behind the next cell
    abbrev v : ℕ
    v = volume s - (i + 1)

    onwards : (n : ℕ) → n ≡ k → after capacity (beginning_with s front (suc v) n) e ≡ whole_page
    onwards n z = let x : suc v ≡ volume s - i = omega arith in (λ j. after capacity (beginning_with s front (x j) (z j)) e)

    -- the next cell is left unfilled
    abbrev unfilled_page : Emitted
    unfilled_page = after capacity (beginning_with s (front_of entry (i + 1)) v k) e

    pub only_unfilled : k ≡ 0 → unfilled_page ≡ whole_page
    only_unfilled z =
        let x = front_unfilled entry long f left in
        (λ j. after capacity (beginning_with s (x j) v (z j)) e) ∙ after_same capacity e (sym (below_zero s front v)) ∙ onwards 0 (sym z)

    -- and then it is filled
    pub then_filled : 0 < k → after capacity (beginning_with s (front_of (set entry (3 + i) 1) (i + 1)) v (k - 1)) unfilled_page ≡ whole_page
    then_filled h =
        let z : k ≡ suc (k - 1) = omega arith in
        let x = front_unfilled entry long f left in
        let y = front_filled entry long f left in
        (λ j. after capacity (beginning_with s (y j) v (k - 1)) (after capacity (beginning_with s (x j) v (z j)) e))
        ∙ sym (after_both capacity e (beginning_with s (front ++ (0 ∷ [])) v (suc (k - 1))) (beginning_with s (front ++ (1 ∷ [])) v (k - 1)))
        ∙ after_same capacity e (sym (below_more s front v (k - 1))) ∙ onwards (suc (k - 1)) (sym z)

-- none is decided: all entries of a box
pub whole_box : (n : ℕ) (s : Sides) (entry : List ℕ) (capacity : ℕ) (e : Emitted)
    → after capacity (beginning_with s (front_of entry 0) (volume s - 0) n) e ≡ after capacity (in_box_of n s) e
unfolding front_of
whole_box n s entry capacity e =
    let z : volume s - 0 ≡ volume s = omega arith in
    after_same capacity e (ap (λ (v : ℕ). beginning_with s [] v n) z ∙ sym (below_whole n s))
