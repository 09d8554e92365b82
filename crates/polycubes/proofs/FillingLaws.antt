-- An entry's bytes while a box is filled, cell by cell: its sides, the cells that are decided, and 0 behind them. Assumes nothing.
use Prim.Native.Nat.{ℕ, ◌+◌, ◌-◌, ◌≤◌, ◌<◌}
use mathlib.Core.List.{List, [], ◌∷◌, ◌++◌}
use mathlib.Core.Path.{◌≡◌, sym, ap, ap₂, ◌∙◌}
use native.Mathlib.Numerals.{add-one}
use native.Mathlib.Omega.{arith}
use lib.ListN.{length, take, drop, set, get_or, replicate, get_or-replicate, length-drop, take-append-drop}
use lib.Seq.{drop-drop, drop-set-add, drop-set-lt, get_or-drop, length-take-le, set-get_or, set-set, take-set-le, take-suc, take-suc-set}
use Rattle.std.proofs.lemmas.List.{drop-replicate}
use Rattle.definitions.specs.Grid.{Sides, volume}
use Rattle.definitions.specs.Catalogue.{grid_in_box}
use Rattle.definitions.specs.CatalogueCalls.{entry_bytes}
use Rattle.polycubes.specs.Walk.{Filled, front_of}

module _ (entry : List ℕ) (long : length entry ≡ 21) where
  cells_many : length (drop 3 entry) ≡ 18
  cells_many = length-drop 3 entry ∙ omega arith

  -- as many cells as are asked for
  pub front_length : (i : ℕ) → i ≤ 18 → length (front_of entry i) ≡ i
  unfolding front_of
  front_length i h = length-take-le i (drop 3 entry) (let e = cells_many in omega arith)

  module _ {s : Sides} where
    -- ---- some cells are left: the next one is left unfilled, or filled and then put back
    module _ {i : ℕ} (f : Filled s entry i) (left : i < volume s) where
      next_byte : get_or entry (3 + i) 0 ≡ 0
      next_byte =
          let h = f.small in
          let e : 3 + i + 0 ≡ 3 + i = omega arith in
          ap (λ (n : ℕ). get_or entry n 0) (sym e) ∙ sym (get_or-drop (3 + i) entry 0 0) ∙ ap (λ (l : List ℕ). get_or l 0 0) f.behind
          ∙ get_or-replicate (18 - i) 0 0 0 (omega arith)

      behind_next : drop (3 + (i + 1)) entry ≡ replicate (18 - (i + 1)) 0
      behind_next =
          let e : 3 + (i + 1) ≡ 3 + i + 1 = omega arith in
          let d : 18 - (i + 1) ≡ 18 - i - 1 = omega arith in
          rw (e, d, ← drop-drop 1 (3 + i) entry, f.behind) (drop-replicate 1 (18 - i) 0)

      pub front_unfilled : front_of entry (i + 1) ≡ front_of entry i ++ (0 ∷ [])
      unfolding front_of
      front_unfilled =
          let h = f.small in
          let n = cells_many in
          let e : get_or (drop 3 entry) i 0 ≡ 0 = get_or-drop 3 entry i 0 ∙ next_byte in
          ap (λ (n : ℕ). take n (drop 3 entry)) (add-one i) ∙ take-suc (drop 3 entry) i 0 (omega arith)
          ∙ ap (λ (b : ℕ). take i (drop 3 entry) ++ (b ∷ [])) e

      pub left_unfilled : Filled s entry (i + 1)
      left_unfilled = record { sides = f.sides; small = f.small; inside = omega arith; behind = behind_next }

      pub front_filled : front_of (set entry (3 + i) 1) (i + 1) ≡ front_of entry i ++ (1 ∷ [])
      unfolding front_of
      front_filled =
          let h = f.small in
          let n = cells_many in
          ap₂ (λ (n : ℕ) (l : List ℕ). take n l) (add-one i) (drop-set-add 3 entry i 1) ∙ take-suc-set (drop 3 entry) i 1 (omega arith)

      pub is_filled : Filled s (set entry (3 + i) 1) (i + 1)
      is_filled =
          record {
            sides = take-set-le 3 entry (3 + i) 1 (omega arith) ∙ f.sides;
            small = f.small;
            inside = omega arith;
            behind = drop-set-lt (3 + (i + 1)) entry (3 + i) 1 (omega arith) ∙ behind_next;
          }

      pub put_back : set (set entry (3 + i) 1) (3 + i) 0 ≡ entry
      put_back = set-set entry (3 + i) 1 0 ∙ ap (λ (b : ℕ). set entry (3 + i) b) (sym next_byte) ∙ set-get_or entry (3 + i) 0

    -- ---- all cells are decided: the bytes are those of the grid
    pub whole_entry : Filled s entry (volume s) → entry ≡ entry_bytes (grid_in_box s (front_of entry (volume s)))
    unfolding entry_bytes front_of
    whole_entry f =
        let v = volume s in
        let many : length (take v (drop 3 entry)) ≡ v = front_length v f.small in
        sym (take-append-drop 3 entry)
        ∙ ap₂ (λ (a b : List ℕ). a ++ b) f.sides
        (sym (take-append-drop v (drop 3 entry)) ∙ ap (λ (l : List ℕ). take v (drop 3 entry) ++ l)
        (drop-drop v 3 entry ∙ f.behind ∙ ap (λ (n : ℕ). replicate (18 - n) 0) (sym many)))
