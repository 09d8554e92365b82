-- How many entries the catalogue has for up to six cells, computed box by box: 166 at most, as many as the program `catalogue` has room for. Assumes nothing.
use Prim.Native.Nat.{ℕ, suc, ◌+◌, ◌≤◌}
use mathlib.Core.Bool.{Bool, true, false, ◌&&◌}
use mathlib.Core.List.{List, [], ◌∷◌, ◌++◌, map}
use mathlib.Core.Path.{◌≡◌, refl, ap, ap₂, ◌∙◌}
use native.Mathlib.Omega.{arith}
use lib.Dec.{T, leb, leb→le}
use lib.ListN.{length, length-append}
use Rattle.std.specs.Prelude.{cond}
use Rattle.lists.specs.Lists.{all, keep, below}
use Rattle.lists.proofs.TestLaws.{by_eq}
use Rattle.lists.proofs.ListLaws.{all_at, keep_same}
use Rattle.lists.proofs.CountLaws.{total, total_same, total_append, length_each}
use Rattle.lists.proofs.RangeLaws.{below_of}
use Rattle.definitions.specs.Grid.{Sides, Grid, same_cell, box, volume, byte_at, grid_with, filled_cells, sides_then_cells, same_grid, grid_ahead}
use Rattle.definitions.specs.Maps.{side, coordinate, from_end, map_sides, map_cell, axis_of, flip_of, inverse, map_grid, permutations, transform, parity, turns}
use Rattle.definitions.specs.Kinds.{variants, smallest}
use Rattle.definitions.specs.Refusals.{filled_where, is_tight}
use Rattle.definitions.specs.Catalogue.{touches, wider, hangs, bit_lists, is_needed, boxes, is_smallest_piece, grid_in_box, in_box_of, catalogue, beginning_with}
use Rattle.theorems.proofs.CatalogueWalkLaws.{below_more, below_whole}

-- the test of an entry, to compute with: each of its three parts is computed only where those before it pass
unfoldable passes : Grid → Bool
passes g =
    let least = same_grid (smallest g) g in
    let rest = cond (hangs (filled_cells g)) least false in
    cond (is_tight g) rest false

passes_same : (g : Grid) → is_smallest_piece g ≡ passes g
unfolding is_smallest_piece passes
passes_same g = parts (is_tight g) (hangs (filled_cells g)) (same_grid (smallest g) g)
  where
    parts : (a b c : Bool) → a && (b && c) ≡ cond a (cond b c false) false
    parts true true c = refl
    parts true false c = refl
    parts false b c = refl

-- how many entries have the cells front, and k of the v cells behind them filled
abbrev number_below : Sides → List ℕ → ℕ → ℕ → ℕ
number_below s front v k = length (keep passes (map (λ bits. grid_in_box s (front ++ bits)) (bit_lists v k)))

number_is : (s : Sides) (front : List ℕ) (v k : ℕ) → length (beginning_with s front v k) ≡ number_below s front v k
number_is s front v k = ap length (keep_same is_smallest_piece passes (map (λ bits. grid_in_box s (front ++ bits)) (bit_lists v k)) (λ g m. passes_same g))

-- the next cell is 0, or it is 1
number_split : (s : Sides) (front : List ℕ) (v k : ℕ)
    → length (beginning_with s front (suc v) (suc k)) ≡ length (beginning_with s (front ++ (0 ∷ [])) v (suc k)) + length (beginning_with s (front ++ (1 ∷ [])) v k)
number_split s front v k = ap length (below_more s front v k) ∙ length-append (beginning_with s (front ++ (0 ∷ [])) v (suc k)) (beginning_with s (front ++ (1 ∷ [])) v k)

-- how many a box has, none of its cells decided; and how many all boxes have
abbrev how_many_in : ℕ → Sides → ℕ
how_many_in n s = number_below s [] (volume s) n

number_in_box : (n : ℕ) (s : Sides) → length (in_box_of n s) ≡ how_many_in n s
number_in_box n s = ap length (below_whole n s) ∙ number_is s [] (volume s) n

by_boxes : (n : ℕ) → length (catalogue n) ≡ total (how_many_in n) (boxes n)
unfolding catalogue
by_boxes n = length_each (in_box_of n) (boxes n) ∙ total_same (λ s. length (in_box_of n s)) (how_many_in n) (boxes n) (λ s m. number_in_box n s)

abbrev sides : ℕ → ℕ → ℕ → Sides
sides a b c = record { a = a; b = b; c = c }

-- ---- six cells
abbrev smaller_boxes : List Sides
smaller_boxes =
    sides 1 1 1 ∷ sides 1 1 2 ∷ sides 1 1 3 ∷ sides 1 1 4 ∷ sides 1 1 5 ∷ sides 1 1 6 ∷ sides 1 2 2 ∷ sides 1 2 3 ∷ sides 1 2 4 ∷ sides 1 2 5 ∷ sides 1 3 3 ∷ sides 1 3 4 ∷
    sides 2 2 2 ∷ sides 2 2 3 ∷ []

boxes_of_six : boxes 6 ≡ smaller_boxes ++ (sides 2 2 4 ∷ sides 2 3 3 ∷ [])
unfolding boxes is_needed box
boxes_of_six = refl

in_smaller : total (how_many_in 6) smaller_boxes ≡ 79
unfolding same_cell box volume byte_at grid_with filled_cells sides_then_cells same_grid grid_ahead side coordinate from_end map_sides map_cell axis_of flip_of inverse map_grid permutations transform parity turns variants smallest filled_where is_tight touches wider hangs passes
in_smaller = refl

in_2_2_4 : how_many_in 6 (sides 2 2 4) ≡ 28
unfolding same_cell box volume byte_at grid_with filled_cells sides_then_cells same_grid grid_ahead side coordinate from_end map_sides map_cell axis_of flip_of inverse map_grid permutations transform parity turns variants smallest filled_where is_tight touches wider hangs passes
in_2_2_4 = refl

-- (the largest box in three: its cells begin with 1, 0 1 or 0 0)
begins_1 : number_below (sides 2 3 3) (1 ∷ []) 17 5 ≡ 0
unfolding same_cell box volume byte_at grid_with filled_cells sides_then_cells same_grid grid_ahead side coordinate from_end map_sides map_cell axis_of flip_of inverse map_grid permutations transform parity turns variants smallest filled_where is_tight touches wider hangs passes
begins_1 = refl

begins_0_1 : number_below (sides 2 3 3) (0 ∷ 1 ∷ []) 16 5 ≡ 0
unfolding same_cell box volume byte_at grid_with filled_cells sides_then_cells same_grid grid_ahead side coordinate from_end map_sides map_cell axis_of flip_of inverse map_grid permutations transform parity turns variants smallest filled_where is_tight touches wider hangs passes
begins_0_1 = refl

begins_0_0 : number_below (sides 2 3 3) (0 ∷ 0 ∷ []) 16 6 ≡ 59
unfolding same_cell box volume byte_at grid_with filled_cells sides_then_cells same_grid grid_ahead side coordinate from_end map_sides map_cell axis_of flip_of inverse map_grid permutations transform parity turns variants smallest filled_where is_tight touches wider hangs passes
begins_0_0 = refl

in_2_3_3 : how_many_in 6 (sides 2 3 3) ≡ 59
unfolding volume
in_2_3_3 =
    let s = sides 2 3 3 in
    let whole = number_is s [] 18 6 in
    let first = number_split s [] 17 5 in
    let second = number_split s (0 ∷ []) 16 5 in
    let a = number_is s (1 ∷ []) 17 5 ∙ begins_1 in
    let b = number_is s (0 ∷ 1 ∷ []) 16 5 ∙ begins_0_1 in
    let d = number_is s (0 ∷ 0 ∷ []) 16 6 ∙ begins_0_0 in
    omega arith

pub six : length (catalogue 6) ≡ 166
six =
    let big : total (how_many_in 6) (sides 2 2 4 ∷ sides 2 3 3 ∷ []) ≡ 87 = ap₂ (λ (a b : ℕ). a + (b + 0)) in_2_2_4 in_2_3_3 in
    by_boxes 6 ∙ ap (total (how_many_in 6)) boxes_of_six ∙ total_append (how_many_in 6) smaller_boxes (sides 2 2 4 ∷ sides 2 3 3 ∷ []) ∙ ap₂ (λ (a b : ℕ). a + b) in_smaller big

-- ---- up to five cells
up_to_five : T (all (λ n. leb (total (how_many_in n) (boxes n)) 166) (below 6))
unfolding same_cell box volume byte_at grid_with filled_cells sides_then_cells same_grid grid_ahead side coordinate from_end map_sides map_cell axis_of flip_of inverse map_grid permutations transform parity turns variants smallest filled_where is_tight touches wider hangs passes boxes is_needed
up_to_five = tt

pub few_entries : (n : ℕ) → n ≤ 6 → length (catalogue n) ≤ 166
few_entries n h =
    by_eq n 6 (λ e. let a = six in let b : length (catalogue n) ≡ length (catalogue 6) = ap (λ (k : ℕ). length (catalogue k)) e in omega arith)
    (λ ne.
    let a = leb→le (total (how_many_in n) (boxes n)) 166 (all_at (λ (k : ℕ). leb (total (how_many_in k) (boxes k)) 166) (below 6) up_to_five (below_of 6 (omega arith))) in
    let b = by_boxes n in
    omega arith)
