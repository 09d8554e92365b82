-- Sets of places and lists of cells: a round on the one is a round on the other, and where as many cells are reached as are filled the sets are the same.
-- Assumes nothing.
use Prim.Native.Nat.{ℕ, zero, suc, ◌+◌, ◌-◌, ◌<◌}
use mathlib.Core.Bool.{Bool, true, false, ◌&&◌, ◌||◌}
use mathlib.Core.List.Memᴰ
use mathlib.Core.List.{List, [], ◌∷◌, map, Memᴰ}
use mathlib.Core.Path.{◌≡◌, refl, sym, ap, ap₂, ◌∙◌, subst}
use native.Mathlib.Omega.{arith}
use borrow.Author.Tests.{lt-ltb, eq-eqb, ne_eqb, eqb-true, ltb-true}
use lib.Dec.{T, eqb, ltb}
use lib.ListN.{length, get_or, take, length-map}
use Rattle.std.proofs.lemmas.List.{take-map}
use Rattle.lists.specs.Lists.{any, keep, how_many, below}
use Rattle.lists.proofs.TestLaws.{tests_same, and_true_left, and_true_right}
use Rattle.lists.proofs.ListLaws.{any_keep, any_map, keep_at, keep_of, keep_map, keep_same, keep_keep, get_or_pos}
use Rattle.lists.proofs.RangeLaws.{below_at, below_of}
use Rattle.definitions.specs.Grid.{Sides, Cell, Grid, volume, place_of, byte_at, same_cell, filled_cells}
use Rattle.definitions.specs.Catalogue.{touches, wider, reached, hangs}
use Rattle.theorems.proofs.GroupLaws.{filled_bytes}
use Rattle.theorems.proofs.SetDownLaws.{on-board, is_on_board}
use Rattle.masks.specs.Masks.{SameCells}
use Rattle.shape.specs.Places.{cell_at}
use Rattle.shape.proofs.PlaceLaws.{place_of_cell}
use Rattle.shape.proofs.GridLaws.{box_places}
use Rattle.polycubes.specs.Hanging.{Within, cells_of, is_filled_at, near_at, wider_at}
use Rattle.polycubes.proofs.SetLaws.{all_got}

module _ (s : Sides) where
  -- ---- the cells of a set
  cells_at : (got : ℕ → Bool) {u : Cell} → Memᴰ u (cells_of s got) → (j : ℕ) × T (got j) × (cell_at s j ≡ u)
  unfolding cells_of
  cells_at got m = let r = Memᴰ.of_map (cell_at s) (keep got (below (volume s))) m in (r.0, (keep_at got (below (volume s)) r.1).1, r.2)

  cells_in : (got : ℕ → Bool) (j : ℕ) → j < volume s → T (got j) → Memᴰ (cell_at s j) (cells_of s got)
  unfolding cells_of
  cells_in got j h t = Memᴰ.map (cell_at s) (keep_of got (below (volume s)) (below_of (volume s) h) t)

  cells_length : (got : ℕ → Bool) → length (cells_of s got) ≡ length (keep got (below (volume s)))
  unfolding cells_of
  cells_length got = length-map (keep got (below (volume s))) (cell_at s)

  -- the cell at a place is one of them where the place is of the set
  among : (got : ℕ → Bool) (j : ℕ) → j < volume s → any (same_cell (cell_at s j)) (cells_of s got) ≡ got j
  among got j h = tests_same _ (got j) there (λ t. is_on_board (cells_of s got) (cell_at s j) (cells_in got j h t))
    where
      there : T (any (same_cell (cell_at s j)) (cells_of s got)) → T (got j)
      there t =
          let r = cells_at got (on-board (cells_of s got) (cell_at s j) t) in
          subst (λ (k : ℕ). T (got k)) (sym (place_of_cell s r.0) ∙ ap (place_of s) r.2 ∙ place_of_cell s j) r.1

  pub any_cells : (got : ℕ → Bool) (q : Cell → Bool) → any q (cells_of s got) ≡ any (λ i. got i && q (cell_at s i)) (below (volume s))
  unfolding cells_of
  any_cells got q = any_map q (cell_at s) (keep got (below (volume s))) ∙ any_keep got (λ i. q (cell_at s i)) (below (volume s))

  near : (got : ℕ → Bool) (j : ℕ) → any (touches (cell_at s j)) (cells_of s got) ≡ near_at s got j
  unfolding near_at
  near got j = any_cells got (touches (cell_at s j))

  -- ---- rounds
  module _ (filled got : ℕ → Bool) where
    abbrev is_wider : Cell → Bool
    is_wider u = any (same_cell u) (cells_of s got) || any (touches u) (cells_of s got)

    pub wider_told : (j : ℕ) → j < volume s → (f g : Bool) → filled j ≡ f → got j ≡ g → wider_at s filled got j ≡ (f && (g || near_at s got j))
    unfolding wider_at
    wider_told j h f g d e = λ i. lt-ltb j (volume s) h i && (d i && (e i || near_at s got j))

    wider_place : (j : ℕ) → j < volume s → (filled j && is_wider (cell_at s j)) ≡ wider_at s filled got j
    wider_place j h = ap (λ (b : Bool). filled j && b) (ap₂ ◌||◌ (among got j h) (near got j)) ∙ sym (wider_told j h (filled j) (got j) refl refl)

    pub wider_inside : (j : ℕ) → wider_at s filled got j ≡ true → j < volume s
    unfolding wider_at
    wider_inside j e = ltb-true j (volume s) (and_true_left (ltb j (volume s)) _ e)

    pub wider_filled : (j : ℕ) → wider_at s filled got j ≡ true → filled j ≡ true
    unfolding wider_at
    wider_filled j e = and_true_left (filled j) _ (and_true_right (ltb j (volume s)) _ e)

    wider_cells : wider (cells_of s filled) (cells_of s got) ≡ cells_of s (wider_at s filled got)
    unfolding wider cells_of
    wider_cells =
        keep_map (cell_at s) is_wider (keep filled (below (volume s)))
        ∙ ap (map (cell_at s))
        (keep_keep filled (λ j. is_wider (cell_at s j)) (below (volume s))
        ∙ keep_same (λ j. filled j && is_wider (cell_at s j)) (wider_at s filled got) (below (volume s)) (λ j m. wider_place j (below_at (volume s) m)))

    module _ (wide : ℕ → Bool) (e : wide ≡ wider_at s filled got) where
      abbrev reached_in : ℕ → (ℕ → Bool) → List Cell
      reached_in n set = reached n (cells_of s filled) (cells_of s set)

      pub round_next : (n i : ℕ) → i < n → reached_in (n - i) got ≡ reached_in (n - (i + 1)) wide
      round_next n i h =
          let k : n - i ≡ suc (n - (i + 1)) = omega arith in
          ap (λ (m : ℕ). reached_in m got) k ∙ ap (reached (n - (i + 1)) (cells_of s filled)) (wider_cells ∙ ap (cells_of s) (sym e))

      -- a round that adds nothing is followed by none that does
      pub round_still : wide ≡ got → (n : ℕ) → reached_in n got ≡ cells_of s got
      round_still f zero = refl
      round_still f (suc n) = ap (reached n (cells_of s filled)) (wider_cells ∙ ap (cells_of s) (sym e ∙ f)) ∙ round_still f n

-- ---- the cells of a grid
pub filled_inside : (g : Grid) → length g.cells ≡ volume g.sides → (j : ℕ) → is_filled_at g j ≡ true → j < volume g.sides
unfolding is_filled_at
filled_inside g w j e = let h = get_or_pos g.cells j (omega (arith, eqb-true (get_or g.cells j 0) 1 e)) in omega arith

pub filled_cells_of : (g : Grid) → filled_cells g ≡ cells_of g.sides (is_filled_at g)
unfolding filled_cells cells_of is_filled_at byte_at
filled_cells_of g =
    ap (keep (λ u. eqb (byte_at g u) 1)) (box_places g.sides) ∙ keep_map (cell_at g.sides) (λ u. eqb (byte_at g u) 1) (below (volume g.sides))
    ∙ ap (map (cell_at g.sides))
    (keep_same (λ j. eqb (byte_at g (cell_at g.sides j)) 1) (is_filled_at g) (below (volume g.sides)) (λ j m. ap (λ (k : ℕ). eqb (get_or g.cells k 0) 1) (place_of_cell g.sides j)))

-- ---- all are reached
hangs_by : (us : List Cell) → hangs us ≡ eqb (length (reached (length us - 1) us (take 1 us))) (length us)
unfolding hangs
hangs_by [] = refl
hangs_by (u ∷ us) = let e : suc (length us) - 1 ≡ length us = omega arith in rw e refl

-- whether all of a set are reached, told by how many they are
are_all : (s : Sides) (p got : ℕ → Bool) → ((j : ℕ) → p j ≡ true → j < volume s) → Within got p → (r : Bool) → SameCells r got p
    → r ≡ eqb (length (cells_of s got)) (length (cells_of s p))
are_all s p got inside w true e = sym (eq-eqb _ _ (ap (λ (a : ℕ → Bool). length (cells_of s a)) e))
are_all s p got inside w false n =
    sym (ne_eqb _ _ (λ e. n (all_got p got (volume s) inside w (sym (cells_length s got) ∙ e ∙ cells_length s p))))

-- the answer: `got` is reached from the first filled cell in as many rounds as there are further cells
pub hangs_told : (g : Grid) → length g.cells ≡ volume g.sides → (p first got : ℕ → Bool) (n : ℕ) (r : Bool) → p ≡ is_filled_at g
    → keep first (below (volume g.sides)) ≡ take 1 (keep p (below (volume g.sides))) → n ≡ how_many (eqb 1) g.cells - 1
    → cells_of g.sides got ≡ reached n (cells_of g.sides p) (cells_of g.sides first) → Within got p → SameCells r got p → r ≡ hangs (filled_cells g)
unfolding cells_of
hangs_told g whole p first got n r e f k h w d =
    are_all g.sides p got (λ j t. filled_inside g whole j (sym (ap (λ (a : ℕ → Bool). a j) e) ∙ t)) w r d
    ∙ ap₂ (λ (us vs : List Cell). eqb (length us) (length vs)) (h ∙ ap (reached n (cells_of g.sides p)) start ∙ (λ i. reached (rounds i) (all i) (take 1 (all i)))) all
    ∙ sym (hangs_by (filled_cells g))
  where
    all : cells_of g.sides p ≡ filled_cells g
    all = ap (cells_of g.sides) e ∙ sym (filled_cells_of g)

    start : cells_of g.sides first ≡ take 1 (cells_of g.sides p)
    start = ap (map (cell_at g.sides)) f ∙ sym (take-map (cell_at g.sides) 1 (keep p (below (volume g.sides))))

    rounds : n ≡ length (filled_cells g) - 1
    rounds = k ∙ ap (λ (m : ℕ). m - 1) (sym (filled_bytes g whole))
