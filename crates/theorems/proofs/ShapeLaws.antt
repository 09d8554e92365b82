-- The variants of a kind have as many filled cells as its shape, so the tray of an accepted call is well made. Assumes nothing.
use Prim.Native.Nat.{ℕ, zero, suc, ◌+◌, ◌≤◌, ◌<◌}
use mathlib.Core.Bool.{Bool, true, false, cond, not, ◌&&◌, ◌||◌}
use mathlib.Core.List.Memᴰ
use mathlib.Core.List.{List, [], ◌∷◌, map, Memᴰ}
use mathlib.Core.Path.{◌≡◌, refl, sym, ap, ◌∙◌, subst}
use mathlib.Core.Logic.{◌⊎◌, inl, inr}
use native.Mathlib.Nat.{le_antisymm}
use native.Mathlib.Omega.{arith}
use lib.Dec.{T, ltb, eqb, leb→le, nltb→le}
use lib.ListN.{length, drop, length-drop}
use lib.Seq.{length-take-le}
use Rattle.lists.specs.Lists.{any, put, sort, head_or, less, sum, is_empty}
use Rattle.lists.proofs.TestLaws.{and_left, decide, clash, eqb_of}
use Rattle.lists.proofs.ListLaws.{map_same_at, all_at}
use Rattle.lists.proofs.SortLaws.{sort_length, sort_of, less_total, sort_at}
use Rattle.lists.proofs.CountLaws.{total_same, how_many_total, how_many_length, sum_map}
use Rattle.lists.proofs.NthLaws.{numbered_at, nth_mem}
use Rattle.definitions.specs.Grid.{Sides, Cell, Grid, box, volume, byte_at, grid_with, filled_cells, grid_ahead, InBox}
use Rattle.definitions.specs.Maps.{Map, side, coordinate, map_sides, map_cell, inverse, map_grid, turns, transform, permutations, parity}
use Rattle.theorems.proofs.MapLaws.{box_at, cell_path, turn_fits, filled_apart, filled_length, mapped_byte}
use Rattle.definitions.specs.Scan.{axis_ahead, axes, cell_ahead, scan}
use Rattle.definitions.specs.Kinds.{Piece, Tray, variants, smallest, Form, form_ahead, Sorted, sort_piece, sorted, forms, Kind, kinds_of}
use Rattle.definitions.specs.Placements.{compile}
use Rattle.theorems.proofs.SearchLaws.{WellMade}
use Rattle.theorems.proofs.WellMadeLaws.{ShapeFacts, well_made, cell_trans, cell_irrefl}
use Rattle.definitions.specs.Refusals.{Call, sides_of, grid_of, piece_of, lent_of, strip_piece, strip_tray, tray_of, cells_lie, are_bits, some_filled, filled_where, is_tight, refusal}
use Rattle.definitions.specs.declared.Record.{Record}
use Rattle.definitions.specs.Stripping.{corner, strip}
use Rattle.definitions.specs.EmptyLayers.{Stripped}
use Rattle.theorems.proofs.GridLaws.{byte_bit}
use Rattle.theorems.proofs.StrippingLaws.{strip_right}
use Rattle.theorems.proofs.RefusalLaws.{PassedLent, passed}

-- ---- scan order compares all three axes
axes_tied : (s : Sides) (i j : ℕ) → T (not (axis_ahead s i j)) → T (not (axis_ahead s j i)) → i ≡ j
unfolding axis_ahead
axes_tied s i j a b = go (decide (ltb j i)) (decide (ltb i j))
  where
    not_or : (p q : Bool) → T (not (p || q)) → T (not p) × T (not q)
    not_or true q t = absurd t
    not_or false q t = (tt, t)

    not_and : (p q : Bool) → T p → T (not (p && q)) → T (not q)
    not_and true q s t = t
    not_and false q s t = absurd s

    p : T (not (ltb (side s j) (side s i))) × T (not (eqb (side s i) (side s j) && ltb j i))
    p = not_or (ltb (side s j) (side s i)) (eqb (side s i) (side s j) && ltb j i) a

    q : T (not (ltb (side s i) (side s j))) × T (not (eqb (side s j) (side s i) && ltb i j))
    q = not_or (ltb (side s i) (side s j)) (eqb (side s j) (side s i) && ltb i j) b

    e : side s i ≡ side s j
    e = le_antisymm (nltb→le (side s j) (side s i) p.0) (nltb→le (side s i) (side s j) q.0)

    x : T (not (ltb j i))
    x = not_and (eqb (side s i) (side s j)) (ltb j i) (eqb_of e) p.1

    y : T (not (ltb i j))
    y = not_and (eqb (side s j) (side s i)) (ltb i j) (eqb_of (sym e)) q.1

    go : T (ltb j i) ⊎ T (not (ltb j i)) → T (ltb i j) ⊎ T (not (ltb i j)) → i ≡ j
    go (inl t) k = absurd (clash (ltb j i) t x)
    go (inr t) (inl u) = absurd (clash (ltb i j) u y)
    go (inr t) (inr u) = le_antisymm (nltb→le j i t) (nltb→le i j u)

axes_has : (s : Sides) (i : ℕ) → Memᴰ i (0 ∷ 1 ∷ 2 ∷ []) → Memᴰ i (axes s)
unfolding axes
axes_has s i m = sort_of (axis_ahead s) (axes_tied s) (0 ∷ 1 ∷ 2 ∷ []) m

pub cells_tied : (s : Sides) (u v : Cell) → T (not (cell_ahead (axes s) u v)) → T (not (cell_ahead (axes s) v u)) → u ≡ v
unfolding cell_ahead coordinate
cells_tied s u v a b = go (less_total (map (coordinate u) (axes s)) (map (coordinate v) (axes s)))
  where
    same_at : map (coordinate u) (axes s) ≡ map (coordinate v) (axes s) → (i : ℕ) → Memᴰ i (0 ∷ 1 ∷ 2 ∷ []) → coordinate u i ≡ coordinate v i
    same_at e i m = map_same_at (coordinate u) (coordinate v) (axes s) e i (axes_has s i m)

    go : T (less (map (coordinate u) (axes s)) (map (coordinate v) (axes s))) ⊎ ((map (coordinate u) (axes s) ≡ map (coordinate v) (axes s)) ⊎ T (less (map (coordinate v) (axes s)) (map (coordinate u) (axes s)))) → u ≡ v
    go (inl t) = absurd (clash (less (map (coordinate u) (axes s)) (map (coordinate v) (axes s))) t a)
    go (inr (inl e)) = cell_path (same_at e 0 (Memᴰ.head refl)) (same_at e 1 (Memᴰ.tail (Memᴰ.head refl))) (same_at e 2 (Memᴰ.tail (Memᴰ.tail (Memᴰ.head refl))))
    go (inr (inr t)) = absurd (clash (less (map (coordinate v) (axes s)) (map (coordinate u) (axes s))) t b)

pub scan_length : (s : Sides) (g : Grid) → length (scan (axes s) g) ≡ length (filled_cells g)
unfolding scan
scan_length s g = sort_length (cell_ahead (axes s)) (cells_tied s) (cell_trans (axes s)) (cell_irrefl (axes s)) (filled_cells g) (filled_apart g)

-- ---- bytes that are 0 or 1
-- a mapped grid's cells add up to how many are filled
pub sum_filled : (m : Map) (g : Grid) → T (are_bits g) → sum (map_grid m g).cells ≡ length (filled_cells (map_grid m g))
unfolding map_grid grid_with filled_cells
sum_filled m g t =
    sum_map φ (box s) ∙ total_same φ (λ u. cond (eqb (byte_at (map_grid m g) u) 1) 1 0) (box s) (λ u k. at u (box_at s u k))
    ∙ sym (how_many_total (λ u. eqb (byte_at (map_grid m g) u) 1) (box s)) ∙ how_many_length (λ u. eqb (byte_at (map_grid m g) u) 1) (box s)
  where
    s : Sides
    s = map_sides m g.sides

    φ : Cell → ℕ
    φ u = byte_at g (map_cell (inverse m) s u)

    bit : (n : ℕ) → n ≤ 1 → n ≡ cond (eqb n 1) 1 0
    bit zero h = refl
    bit (suc zero) h = refl
    bit (suc (suc n)) h = absurd (omega arith)

    at : (u : Cell) → InBox s u → φ u ≡ cond (eqb (byte_at (map_grid m g) u) 1) 1 0
    at u b = bit (φ u) (byte_bit g t (map_cell (inverse m) s u)) ∙ ap {B = ℕ} (λ (n : ℕ). cond (eqb n 1) 1 0) (sym (mapped_byte m g u b))

-- ---- variants and shapes
pub variant_at : (g v : Grid) → Memᴰ v (variants g) → (m : Map) × Memᴰ m turns × (map_grid m g ≡ v)
unfolding variants
variant_at g v k = Memᴰ.of_map (λ (m : Map). map_grid m g) turns (sort_at grid_ahead (map (λ m. map_grid m g) turns) k)

variants_some : (g : Grid) → T (not (is_empty (variants g)))
unfolding variants turns transform permutations parity
variants_some g = put_some (map_grid (transform 0) g) (sort grid_ahead (map (λ m. map_grid m g) (rest turns)))
  where
    rest : List Map → List Map
    rest [] = []
    rest (x ∷ xs) = xs

    put_some : (x : Grid) (ys : List Grid) → T (not (is_empty (put grid_ahead x ys)))
    put_some x [] = tt
    put_some x (y ∷ ys) = go (grid_ahead x y) (grid_ahead y x)
      where
        go : (b c : Bool) → T (not (is_empty (cond b (x ∷ y ∷ ys) (cond c (y ∷ put grid_ahead x ys) (y ∷ ys)))))
        go true c = tt
        go false true = tt
        go false false = tt

pub smallest_at : (g : Grid) → (m : Map) × Memᴰ m turns × (map_grid m g ≡ smallest g)
unfolding smallest
smallest_at g = variant_at g (head_or g (variants g)) (head_in (variants g) (variants_some g))
  where
    head_in : (xs : List Grid) → T (not (is_empty xs)) → Memᴰ (head_or g xs) xs
    head_in [] t = absurd t
    head_in (x ∷ xs) t = Memᴰ.head refl

-- a kind's shape is the smallest turned grid of a piece
pub kind_at : (t : Tray) (d : Kind) → Memᴰ d (kinds_of t) → (q : Piece) × Memᴰ q t.pieces × (d.shape ≡ smallest q.grid)
unfolding kinds_of forms sorted
kind_at t d k =
    let r = Memᴰ.of_map _ _ k in
    let a = sort_at form_ahead (map (λ (q : Sorted). q.form) (sorted t)) r.1 in
    let b = Memᴰ.of_map (λ (q : Sorted). q.form) (sorted t) a in
    let c = numbered_at sort_piece 0 t.pieces b.1 in
    (c.1, nth_mem t.pieces c.0 c.2, sym (ap (λ (x : Kind). x.shape) r.2) ∙ sym (ap (λ (f : Form). f.grid) b.2) ∙ ap (λ (x : Sorted). x.form.grid) c.3)

-- ---- accepted calls
module _ (l : Call) (ok : refusal l ≡ 0) where
  -- ---- the grids as lent: what 4, 5 and 6 test
  abbrev tested : PassedLent l.pieces l.board l.bytes (lent_of l)
  tested = (passed l ok).lent

  grid_whole : (r : Record) → T (cells_lie l.bytes r) → length (grid_of l.bytes r).cells ≡ volume (grid_of l.bytes r).sides
  unfolding grid_of cells_lie
  grid_whole r t =
      let a = leb→le (r.start + volume (sides_of r)) (length l.bytes) t in
      let b = length-drop r.start l.bytes in
      length-take-le (volume (sides_of r)) (drop r.start l.bytes) (omega arith)

  pub lent_board_whole : length (lent_of l).board.cells ≡ volume (lent_of l).board.sides
  unfolding lent_of
  lent_board_whole = grid_whole l.board (all_at (cells_lie l.bytes) (l.board ∷ l.pieces) tested.lie (Memᴰ.head refl))

  pub lent_whole : (q : Piece) → Memᴰ q (lent_of l).pieces → length q.grid.cells ≡ volume q.grid.sides
  unfolding lent_of
  lent_whole q m =
      let r = Memᴰ.of_map (piece_of l.bytes) l.pieces m in
      subst (λ (g : Grid). length g.cells ≡ volume g.sides) (ap (λ (p : Piece). p.grid) r.2)
      (grid_whole r.0 (all_at (cells_lie l.bytes) (l.board ∷ l.pieces) tested.lie (Memᴰ.tail r.1)))

  pub lent_bits : (q : Piece) → Memᴰ q (lent_of l).pieces → T (are_bits q.grid)
  lent_bits q m = all_at (λ (x : Piece). are_bits x.grid) (lent_of l).pieces tested.bits m

  pub lent_board_bits : T (are_bits (lent_of l).board)
  lent_board_bits = tested.board_bits

  pub lent_filled : (q : Piece) → Memᴰ q (lent_of l).pieces → T (some_filled q.grid)
  lent_filled q m = all_at (λ (x : Piece). some_filled x.grid) (lent_of l).pieces tested.filled m

  -- ---- the grids of the tray that is listed: the lent ones, stripped
  pub board-is : (tray_of l).board ≡ strip (lent_of l).board
  unfolding tray_of strip_tray
  board-is = refl

  pub stripped_piece : (q : Piece) → Memᴰ q (tray_of l).pieces → (r : Piece) × Memᴰ r (lent_of l).pieces × Stripped r.grid q.grid (corner r.grid)
  unfolding tray_of strip_tray
  stripped_piece q m =
      let r = Memᴰ.of_map strip_piece (lent_of l).pieces m in
      let a = strip_right r.0.grid (lent_bits r.0 r.1) (lent_whole r.0 r.1) (lent_filled r.0 r.1) in
      (r.0, r.1, subst (λ (p : Piece). Stripped r.0.grid p.grid (corner r.0.grid)) r.2 a)

  pub bits : (q : Piece) → Memᴰ q (tray_of l).pieces → T (are_bits q.grid)
  bits q m = (stripped_piece q m).2.bits

  pub tight : (q : Piece) → Memᴰ q (tray_of l).pieces → T (is_tight q.grid)
  tight q m = (stripped_piece q m).2.tight

  some-filled : (g : Grid) → T (is_tight g) → 0 < length (filled_cells g)
  unfolding is_tight filled_where
  some-filled g t = go (filled_cells g) (and_left (any (λ u. eqb u.x 0) (filled_cells g)) _ t)
    where
      go : (xs : List Cell) → T (any (λ u. eqb u.x 0) xs) → 0 < length xs
      go [] s = absurd s
      go (x ∷ xs) s = omega arith

  pub shape_facts : ShapeFacts (tray_of l)
  shape_facts = record { sized = sized; some = some }
    where
      shape_size : (d : Kind) → Memᴰ d (kinds_of (tray_of l)) → sum d.shape.cells ≡ length (filled_cells d.shape)
      shape_size d k =
          let r = kind_at (tray_of l) d k in
          let m = smallest_at r.0.grid in
          subst (λ (g : Grid). sum g.cells ≡ length (filled_cells g)) (m.2 ∙ sym r.2) (sum_filled m.0 r.0.grid (bits r.0 r.1))

      sized : (d : Kind) → Memᴰ d (kinds_of (tray_of l)) → (v : Grid) → Memᴰ v (variants d.shape) → length (scan (axes (tray_of l).board.sides) v) ≡ sum d.shape.cells
      sized d k v a =
          let r = variant_at d.shape v a in
          scan_length (tray_of l).board.sides v ∙ ap (λ (g : Grid). length (filled_cells g)) (sym r.2) ∙ filled_length r.0 (turn_fits r.0 r.1) d.shape ∙ sym (shape_size d k)

      some : (d : Kind) → Memᴰ d (kinds_of (tray_of l)) → 0 < sum d.shape.cells
      some d k =
          let r = kind_at (tray_of l) d k in
          let m = smallest_at r.0.grid in
          let a = some-filled r.0.grid (tight r.0 r.1) in
          let b = filled_length m.0 (turn_fits m.0 m.1) r.0.grid in
          let e : length (filled_cells (map_grid m.0 r.0.grid)) ≡ length (filled_cells d.shape) = ap (λ (g : Grid). length (filled_cells g)) (m.2 ∙ sym r.2) in
          let f = shape_size d k in
          omega arith

  pub accepted_well_made : WellMade (compile (tray_of l))
  accepted_well_made = well_made (tray_of l) shape_facts
