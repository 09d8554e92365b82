-- Records and refusals: what fitting sides and cells that lie in the bytes tell, the records of pieces by their places, and the rows of the table of
-- refusals as the code tests them. Assumes nothing.
use Prim.Native.Nat.{ℕ, zero, suc, ◌+◌, ◌-◌, ◌≤◌, ◌<◌}
use mathlib.Core.Bool.{Bool, true, false, cond, not, ◌&&◌}
use mathlib.Core.List.{List, [], ◌∷◌, map, map-map}
use mathlib.Core.Path.{◌≡◌, refl, sym, ap, ap₂, ◌∙◌, subst}
use native.Mathlib.Nat.{mul-pos}
use native.Mathlib.Omega.{arith}
use borrow.Author.Tests.{eqb-true, eqb-false, leb-true, leb-false, le-leb, lt-leb}
use lib.Dec.{T, ltb, leb, eqb, leb→le}
use lib.ListN.{length, get_or, take, drop, length-drop, length-replicate}
use lib.Seq.{length-take-le, get_or-take}
use Rattle.std.specs.List.{list_all, sum_by}
use Rattle.std.proofs.lemmas.List.Sums.{sum_by-cons}
use Rattle.std.proofs.lemmas.List.{length-take}
use Rattle.lists.specs.Lists.{all, any, how_many, sum}
use Rattle.lists.proofs.TestLaws.{and_left, and_right, is_true, is_false, holds}
use Rattle.lists.proofs.ListLaws.{all_get_or, any_at, how_many_any, how_many_pos}
use Rattle.definitions.specs.Grid.{Sides, Grid, volume}
use Rattle.definitions.specs.Refusals.{sides_of, grid_of, is_side, sides_fit, cells_lie, are_bits, some_filled, copy_count, board_cell_count, row, piece_of}
use Rattle.definitions.specs.declared.Record.{Record}
use Rattle.shape.specs.Coords.{as_sides, ShortSides}
use Rattle.shape.specs.Grids.{as_grid, Whole}
use Rattle.shape.specs.CubicGrids.{grid_of as cubic}
use Rattle.shape.specs.declared.cubic_grid.CubicGrid.{CubicGrid}
use Rattle.shape.specs.declared.Coord.{Coord}
use Rattle.placements.specs.Pieces.{no_record, lent_records, records_of}
use Rattle.placements.specs.Stages.{grid_rows}
use Rattle.placements.specs.declared.Pieces.{Pieces}

pub all_is : {A : Type 0} (p : A → Bool) (xs : List A) → all p xs ≡ list_all p xs
all_is p [] = refl
all_is p (x ∷ xs) = ap (λ (b : Bool). p x && b) (all_is p xs)

pub sum_is : {A : Type 0} (f : A → ℕ) (xs : List A) → sum (map f xs) ≡ sum_by f xs
sum_is f [] = refl
sum_is f (x ∷ xs) = ap (λ (n : ℕ). f x + n) (sum_is f xs) ∙ sym (sum_by-cons f x xs)

-- what holds of all records holds of the one at a place
pub told_at : (test : Record → Bool) (rs : List Record) → T (all test rs) → (p : Record) (k : ℕ) → k < length rs → p ≡ get_or rs k p → T (test p)
told_at test rs t p k inside at = subst (λ (q : Record). T (test q)) (sym at) (all_get_or test p rs t k inside)

-- ---- a record's sides and cells
side_small : (n : ℕ) → T (is_side n) → n ≤ 8
unfolding is_side
side_small n h = leb-true n 8 (is_true (leb n 8) (and_right (leb 1 n) (leb n 8) h))

pub sides_small : (r : Record) → T (sides_fit r) → ShortSides (sides_of r)
unfolding sides_fit sides_of
sides_small r h =
    let h2 = and_right (is_side r.a) (is_side r.b && is_side r.c) h in
    record {
      a = side_small r.a (and_left (is_side r.a) (is_side r.b && is_side r.c) h);
      b = side_small r.b (and_left (is_side r.b) (is_side r.c) h2);
      c = side_small r.c (and_right (is_side r.b) (is_side r.c) h2);
    }

pub side_some : (n : ℕ) → T (is_side n) → 0 < n
unfolding is_side
side_some n t = leb→le 1 n (and_left (leb 1 n) (leb n 8) t)

pub sides_some : (r : Record) → T (sides_fit r) → 0 < volume (sides_of r)
unfolding sides_of volume sides_fit
sides_some r t =
    let u = and_right (is_side r.a) (is_side r.b && is_side r.c) t in
    let a = side_some r.a (and_left (is_side r.a) (is_side r.b && is_side r.c) t) in
    let b = side_some r.b (and_left (is_side r.b) (is_side r.c) u) in
    let c = side_some r.c (and_right (is_side r.b) (is_side r.c) u) in
    mul-pos (mul-pos a b) c

pub cells_end : (bytes : List ℕ) (r : Record) → T (cells_lie bytes r) → r.start + volume (sides_of r) ≤ length bytes
unfolding cells_lie
cells_end bytes r h = leb-true _ _ (is_true (leb (r.start + volume (sides_of r)) (length bytes)) h)

-- the code's tests: the cells begin in the bytes, and what follows is as long
pub lie_not : (bytes : List ℕ) (r : Record) → length bytes < r.start → false ≡ cells_lie bytes r
unfolding cells_lie
lie_not bytes r h = sym (lt-leb (r.start + volume (sides_of r)) (length bytes) (omega arith))

pub lie_left : (bytes : List ℕ) (r : Record) (v : ℕ) → v ≡ volume (sides_of r) → r.start ≤ length bytes → leb v (length bytes - r.start) ≡ cells_lie bytes r
unfolding cells_lie
lie_left bytes r v e h = go (leb v (length bytes - r.start)) refl
  where
    go : (b : Bool) → leb v (length bytes - r.start) ≡ b → b ≡ leb (r.start + volume (sides_of r)) (length bytes)
    go true t = sym (le-leb (r.start + volume (sides_of r)) (length bytes) (let l = leb-true v (length bytes - r.start) t in omega arith))
    go false t = sym (lt-leb (r.start + volume (sides_of r)) (length bytes) (let l = leb-false v (length bytes - r.start) t in omega arith))

-- the part of the bytes from the start on, v long
pub cells_part : (bytes : List ℕ) (r : Record) (v : ℕ) → T (cells_lie bytes r) → v ≡ volume (sides_of r)
    → (take (r.start + v - r.start) (drop r.start bytes) ≡ (grid_of bytes r).cells)
    × (length (take (r.start + v - r.start) (drop r.start bytes)) ≡ volume (sides_of r))
unfolding grid_of
cells_part bytes r v h e = (ap (λ (n : ℕ). take n (drop r.start bytes)) size, ap (λ (n : ℕ). length (take n (drop r.start bytes))) size ∙ whole)
  where
    size : r.start + v - r.start ≡ volume (sides_of r)
    size = omega arith

    whole : length (take (volume (sides_of r)) (drop r.start bytes)) ≡ volume (sides_of r)
    whole = length-take-le (volume (sides_of r)) (drop r.start bytes) (simp length-drop (let l = cells_end bytes r h in omega arith))

-- the grid of a record, from its sides and cells
grid_path : {s t : Sides} {xs ys : List ℕ} → s ≡ t → xs ≡ ys → ◌≡◌ {A = Grid} (record { sides = s; cells = xs }) (record { sides = t; cells = ys })
grid_path e h = cc

module _ (bytes : List ℕ) (r : Record) (s : Coord) (cells : List ℕ) (e : as_sides s ≡ sides_of r) where
  pub grid_is : cells ≡ (grid_of bytes r).cells → as_grid s cells ≡ grid_of bytes r
  unfolding grid_of
  grid_is h = grid_path e h

  pub grid_whole : T (sides_fit r) → length cells ≡ volume (sides_of r) → Whole s cells
  grid_whole f h = record { short = subst ShortSides (sym e) (sides_small r f); size = h ∙ ap volume (sym e) }

sum_bits : (xs : List ℕ) → T (all (λ n. leb n 1) xs) → sum xs ≡ how_many (eqb 1) xs
sum_bits [] h = refl
sum_bits (x ∷ xs) h = ap₂ ◌+◌ (bit x (leb-true x 1 (is_true (leb x 1) (and_left (leb x 1) (all (λ n. leb n 1) xs) h)))) (sum_bits xs (and_right (leb x 1) (all (λ n. leb n 1) xs) h))
  where
    bit : (n : ℕ) → n ≤ 1 → n ≡ cond (eqb 1 n) 1 0
    bit zero l = refl
    bit (suc zero) l = refl
    bit (suc (suc n)) l = absurd (omega arith)

-- what the code finds in the cells of a grid
module _ (g : CubicGrid) {h : Grid} (e : cubic g ≡ h) where
  pub bits_told : {b : Bool} → b ≡ all (λ n. leb n 1) g.cells.now → b ≡ are_bits h
  unfolding are_bits
  bits_told d = d ∙ ap (λ (k : Grid). all (λ n. leb n 1) k.cells) e

  ones_told : (n : ℕ) → n ≡ how_many (eqb 1) g.cells.now → n ≡ how_many (eqb 1) h.cells
  ones_told n d = d ∙ ap (λ (k : Grid). how_many (eqb 1) k.cells) e

  pub filled_told : (n : ℕ) → n ≡ how_many (eqb 1) g.cells.now → not (eqb n 0) ≡ some_filled h
  unfolding some_filled
  filled_told n d = go (eqb n 0) refl
    where
      go : (b : Bool) → eqb n 0 ≡ b → not b ≡ any (eqb 1) h.cells
      go true z =
          let none = eqb-true n 0 z in
          sym (is_false (any (eqb 1) h.cells)
          (λ a. let m = any_at (eqb 1) h.cells a in let l = how_many_pos (eqb 1) h.cells m.1 m.2 in omega (arith, ones_told n d)))
      go false z = let some = eqb-false n 0 z in sym (is_true (any (eqb 1) h.cells) (how_many_any (eqb 1) h.cells (omega (arith, ones_told n d))))

  -- bytes that are 0 or 1 add up to how many are 1
  pub cells_count : (n : ℕ) → n ≡ how_many (eqb 1) g.cells.now → are_bits h ≡ true → sum h.cells ≡ n
  unfolding are_bits
  cells_count n d b = sum_bits h.cells (holds (all (λ n. leb n 1) h.cells) b) ∙ sym (ones_told n d)

-- ---- the records of pieces by their places
pub records_few : (t : Pieces) → t.count ≤ 16 → records_of t ≡ take t.count t.records
unfolding records_of
records_few t few = rw (le-leb t.count 16 few)

pub records_within : (t : Pieces) → t.count ≤ 16 → length (records_of t) ≤ 16
records_within t few = let e = ap length (records_few t few) ∙ length-take t.count t.records in omega arith

pub records_over : (t : Pieces) → 16 < t.count → 16 < length (records_of t)
unfolding records_of
records_over t many =
    let e : lent_records (leb t.count 16) t ≡ lent_records false t = ap (λ (b : Bool). lent_records b t) (lt-leb t.count 16 many) in
    omega (arith, ap length e, length-replicate t.count no_record)

pub records_count : (t : Pieces) → length t.records ≡ 16 → length (records_of t) ≡ t.count
unfolding records_of
records_count t long = go (leb t.count 16) refl
  where
    go : (b : Bool) → leb t.count 16 ≡ b → length (lent_records b t) ≡ t.count
    go true e = let l = leb-true t.count 16 e in length-take-le t.count t.records (omega arith)
    go false e = length-replicate t.count no_record

-- record i, read in the rows
module _ (t : Pieces) (few : t.count ≤ 16) (long : length t.records ≡ 16) (i : ℕ) (h : i < t.count) where
  in_records : i < length (records_of t)
  in_records = let e = records_count t long in omega arith

  pub record-at : get_or (records_of t) i no_record ≡ get_or t.records i no_record
  record-at = rw (records_few t few) (get_or-take t.count t.records i no_record h)

  pub record_passes : (p : Record → Bool) → T (all p (records_of t)) → T (p (get_or t.records i no_record))
  record_passes p a = rw record-at at (all_get_or p no_record (records_of t) a i in_records)

-- ---- the rows of the table of refusals: 5 to 9, by the records
pub all_grids : (p : Grid → Bool) (bytes : List ℕ) (rs : List Record) → all (λ q. p q.grid) (map (piece_of bytes) rs) ≡ all (λ q. p (grid_of bytes q)) rs
all_grids p bytes [] = refl
all_grids p bytes (r ∷ rs) = ap (λ (b : Bool). p (grid_of bytes r) && b) (all_grids p bytes rs)

pub grid_rows_are : (rs : List Record) (board : Record) (bytes : List ℕ)
    → grid_rows rs board bytes
    ≡ row 5 (not (are_bits (grid_of bytes board) && all (λ q. are_bits (grid_of bytes q)) rs)) ∷
    row 6 (not (all (λ q. some_filled (grid_of bytes q)) rs)) ∷
    row 8 (ltb 128 (sum (map (λ q. q.count) rs))) ∷
    row 9 (ltb 128 (sum (grid_of bytes board).cells)) ∷
    []
unfolding grid_rows copy_count board_cell_count
grid_rows_are rs board bytes =
    rw (all_grids are_bits bytes rs, all_grids some_filled bytes rs, map-map (λ q. q.count) (piece_of bytes) rs)
