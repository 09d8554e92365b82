-- Laws of grids and maps: the byte of a cell, and that each map takes the cells of a box onto those of the turned box, and back. Assumes nothing.
use Prim.Native.Nat.{ℕ, ◌+◌, ◌-◌, ◌*◌, ◌<◌}
use mathlib.Core.Bool.{Bool, true, false, cond}
use mathlib.Core.List.Memᴰ
use mathlib.Core.List.{List, [], ◌∷◌, map, Memᴰ, head-eq_of_cons-eq, tail-eq_of_cons-eq, map-map}
use mathlib.Core.Path.{◌≡◌, refl, sym, ap, ap₂, ◌∙◌, subst}
use mathlib.Core.Logic.{◌⊎◌, inl, inr}
use native.Mathlib.Nat.{add-mul, mul_assoc, le_antisymm, mul-le-mul_right}
use native.Mathlib.Omega.{arith}
use lib.Dec.{T, eqb, eqb→eq}
use lib.ListN.{length, get_or, length-map}
use Rattle.lists.specs.Lists.{all, any, each, below, same, Apart}
use Rattle.lists.proofs.TestLaws.{eqb_of}
use Rattle.lists.proofs.ListLaws.{map_each, all_at, any_at, keep_at, keep_of, apart_keep, inject_length, each_at, each_of, apart_each, each_same, apart_map}
use Rattle.lists.proofs.SortLaws.{same→eq}
use Rattle.lists.proofs.RangeLaws.{get_or_blocks, length_blocks, apart_below, below_at, below_of, length_below, get_or_below}
use Rattle.definitions.specs.Grid.{Sides, Cell, Grid, box, volume, place_of, byte_at, grid_with, filled_cells, InBox}
use Rattle.definitions.specs.Maps.{Map, side, coordinate, from_end, map_sides, map_cell, axis_of, flip_of, inverse, map_grid, permutations, transform, parity, turns, mirrorings}

-- ---- cells of a box
pub cell_path : {u v : Cell} → u.x ≡ v.x → u.y ≡ v.y → u.z ≡ v.z → u ≡ v
cell_path ex ey ez = λ i. record { x = ex i; y = ey i; z = ez i }

cell_of : ℕ → ℕ → ℕ → Cell
cell_of i j k = record { x = i; y = j; z = k }

pub box_at : (s : Sides) (u : Cell) → Memᴰ u (box s) → InBox s u
unfolding box cell_of
box_at s u m =
    let r = each_at (λ i. each (below s.b) (λ j. map (cell_of i j) (below s.c))) (below s.a) m in
    let t = each_at (λ j. map (cell_of r.0 j) (below s.c)) (below s.b) r.2 in
    let w = Memᴰ.of_map (cell_of r.0 t.0) (below s.c) t.2 in
    subst (λ (v : Cell). InBox s v) w.2 (below_at s.a r.1, below_at s.b t.1, below_at s.c w.1)

pub box_of : (s : Sides) (u : Cell) → InBox s u → Memᴰ u (box s)
unfolding box cell_of
box_of s u h =
    each_of (λ i. each (below s.b) (λ j. map (cell_of i j) (below s.c))) (below s.a) (below_of s.a h.0)
    (each_of (λ j. map (cell_of u.x j) (below s.c)) (below s.b) (below_of s.b h.1) (Memᴰ.map (cell_of u.x u.y) (below_of s.c h.2)))

pub box_apart : (s : Sides) → Apart (box s)
unfolding box cell_of
box_apart s =
    apart_each (λ i. each (below s.b) (λ j. map (cell_of i j) (below s.c))) (below s.a) (apart_below s.a)
    (λ i m. apart_each (λ j. map (cell_of i j) (below s.c)) (below s.b) (apart_below s.b) (λ j k. apart_map (cell_of i j) (below s.c) (apart_below s.c) (λ x y a b e. ap (λ (u : Cell). u.z) e))
    (λ j j' k l u a b. let r = Memᴰ.of_map (cell_of i j) (below s.c) a in let t = Memᴰ.of_map (cell_of i j') (below s.c) b in ap (λ (v : Cell). v.y) (r.2 ∙ sym t.2)))
    (λ i i' m k u a b.
    let r = each_at (λ j. map (cell_of i j) (below s.c)) (below s.b) a in
    let t = each_at (λ j. map (cell_of i' j) (below s.c)) (below s.b) b in
    let p = Memᴰ.of_map (cell_of i r.0) (below s.c) r.2 in
    let q = Memᴰ.of_map (cell_of i' t.0) (below s.c) t.2 in
    ap (λ (v : Cell). v.x) (p.2 ∙ sym q.2))

-- ---- the byte of a cell
-- digits of radix b: the low digit y, the high one x
pub digits_lt : {x y a b : ℕ} → x < a → y < b → x * b + y < a * b
digits_lt {b = b} h k = omega (arith, mul-le-mul_right b h)

pub place_lt : (s : Sides) (u : Cell) → InBox s u → place_of s u < volume s
unfolding volume
place_lt s u h = digits_lt (digits_lt h.0 h.1) h.2

pub byte_with : (s : Sides) (f : Cell → ℕ) (u : Cell) → InBox s u → byte_at (grid_with s f) u ≡ f u
unfolding byte_at grid_with box cell_of
byte_with s f u h =
    ap₂ (λ (l : List ℕ) (k : ℕ). get_or l k 0) cells_are index
    ∙ get_or_blocks 0 rows (s.b * s.c) row_length 0 s.a u.x (u.y * s.c + u.z) h.0 (digits_lt h.1 h.2)
    ∙ get_or_blocks 0 (line (u.x + 0)) s.c (line_length (u.x + 0)) 0 s.b u.y u.z h.1 h.2
    ∙ get_or_below (λ k. f (cell_of (u.x + 0) (u.y + 0) k)) 0 s.c u.z h.2
    ∙ ap f (cell_path zero_x zero_y refl)
  where
    line : ℕ → ℕ → List ℕ
    line i j = map (λ k. f (cell_of i j k)) (below s.c)

    rows : ℕ → List ℕ
    rows i = each (below s.b) (line i)

    line_length : (i j : ℕ) → length (line i j) ≡ s.c
    line_length i j = length-map (below s.c) (λ k. f (cell_of i j k)) ∙ length_below s.c

    row_length : (i : ℕ) → length (rows i) ≡ s.b * s.c
    row_length i = length_blocks 0 (line i) s.c (line_length i) 0 s.b

    cells_are : map f (box s) ≡ each (below s.a) rows
    cells_are =
        map_each f (λ i. each (below s.b) (λ j. map (cell_of i j) (below s.c))) (below s.a)
        ∙ each_same (λ i. map f (each (below s.b) (λ j. map (cell_of i j) (below s.c)))) rows (below s.a)
        (λ i. map_each f (λ j. map (cell_of i j) (below s.c)) (below s.b) ∙ each_same (λ j. map f (map (cell_of i j) (below s.c))) (line i) (below s.b) (λ j. map-map f (cell_of i j) (below s.c)))

    index : (u.x * s.b + u.y) * s.c + u.z ≡ u.x * (s.b * s.c) + (u.y * s.c + u.z)
    index = let a = add-mul (u.x * s.b) u.y s.c in let b = mul_assoc u.x s.b s.c in omega arith

    zero_x : u.x + 0 ≡ u.x
    zero_x = omega arith

    zero_y : u.y + 0 ≡ u.y
    zero_y = omega arith

-- ---- maps
fe_below : (f n i : ℕ) → i < n → from_end f n i < n
unfolding from_end
fe_below f n i h = go (eqb f 0)
  where
    go : (b : Bool) → cond b i (n - 1 - i) < n
    go true = h
    go false = omega arith

fe_twice : (f n i : ℕ) → i < n → from_end f n (from_end f n i) ≡ i
unfolding from_end
fe_twice f n i h = go (eqb f 0)
  where
    go : (b : Bool) → cond b (cond b i (n - 1 - i)) (n - 1 - cond b i (n - 1 - i)) ≡ i
    go true = refl
    go false = omega arith

-- a map and its inverse take the cells of a box to those of the mapped box and back
pub record Fits (m : Map) : Type 0 where
  pub there : (s : Sides) (u : Cell) → InBox s u → InBox (map_sides m s) (map_cell m s u)
  pub back : (s : Sides) (u : Cell) → InBox (map_sides m s) u → InBox s (map_cell (inverse m) (map_sides m s) u)
  pub back_there : (s : Sides) (u : Cell) → InBox s u → map_cell (inverse m) (map_sides m s) (map_cell m s u) ≡ u
  pub there_back : (s : Sides) (u : Cell) → InBox (map_sides m s) u → map_cell m s (map_cell (inverse m) (map_sides m s) u) ≡ u

mk : ℕ → ℕ → ℕ → ℕ → ℕ → ℕ → Map
mk p q r f g h = record { axis_x = p; axis_y = q; axis_z = r; flip_x = f; flip_y = g; flip_z = h }

fits_012 : (f g h : ℕ) → Fits (mk 0 1 2 f g h)
unfolding mk map_sides map_cell inverse axis_of flip_of side coordinate
fits_012 f g h =
    record {
      there = λ s u b. (fe_below f s.a u.x b.0, fe_below g s.b u.y b.1, fe_below h s.c u.z b.2);
      back = λ s u b. (fe_below f s.a u.x b.0, fe_below g s.b u.y b.1, fe_below h s.c u.z b.2);
      back_there = λ s u b. cell_path (fe_twice f s.a u.x b.0) (fe_twice g s.b u.y b.1) (fe_twice h s.c u.z b.2);
      there_back = λ s u b. cell_path (fe_twice f s.a u.x b.0) (fe_twice g s.b u.y b.1) (fe_twice h s.c u.z b.2);
    }

fits_021 : (f g h : ℕ) → Fits (mk 0 2 1 f g h)
unfolding mk map_sides map_cell inverse axis_of flip_of side coordinate
fits_021 f g h =
    record {
      there = λ s u b. (fe_below f s.a u.x b.0, fe_below g s.c u.z b.2, fe_below h s.b u.y b.1);
      back = λ s u b. (fe_below f s.a u.x b.0, fe_below h s.b u.z b.2, fe_below g s.c u.y b.1);
      back_there = λ s u b. cell_path (fe_twice f s.a u.x b.0) (fe_twice h s.b u.y b.1) (fe_twice g s.c u.z b.2);
      there_back = λ s u b. cell_path (fe_twice f s.a u.x b.0) (fe_twice g s.c u.y b.1) (fe_twice h s.b u.z b.2);
    }

fits_102 : (f g h : ℕ) → Fits (mk 1 0 2 f g h)
unfolding mk map_sides map_cell inverse axis_of flip_of side coordinate
fits_102 f g h =
    record {
      there = λ s u b. (fe_below f s.b u.y b.1, fe_below g s.a u.x b.0, fe_below h s.c u.z b.2);
      back = λ s u b. (fe_below g s.a u.y b.1, fe_below f s.b u.x b.0, fe_below h s.c u.z b.2);
      back_there = λ s u b. cell_path (fe_twice g s.a u.x b.0) (fe_twice f s.b u.y b.1) (fe_twice h s.c u.z b.2);
      there_back = λ s u b. cell_path (fe_twice f s.b u.x b.0) (fe_twice g s.a u.y b.1) (fe_twice h s.c u.z b.2);
    }

fits_120 : (f g h : ℕ) → Fits (mk 1 2 0 f g h)
unfolding mk map_sides map_cell inverse axis_of flip_of side coordinate
fits_120 f g h =
    record {
      there = λ s u b. (fe_below f s.b u.y b.1, fe_below g s.c u.z b.2, fe_below h s.a u.x b.0);
      back = λ s u b. (fe_below h s.a u.z b.2, fe_below f s.b u.x b.0, fe_below g s.c u.y b.1);
      back_there = λ s u b. cell_path (fe_twice h s.a u.x b.0) (fe_twice f s.b u.y b.1) (fe_twice g s.c u.z b.2);
      there_back = λ s u b. cell_path (fe_twice f s.b u.x b.0) (fe_twice g s.c u.y b.1) (fe_twice h s.a u.z b.2);
    }

fits_201 : (f g h : ℕ) → Fits (mk 2 0 1 f g h)
unfolding mk map_sides map_cell inverse axis_of flip_of side coordinate
fits_201 f g h =
    record {
      there = λ s u b. (fe_below f s.c u.z b.2, fe_below g s.a u.x b.0, fe_below h s.b u.y b.1);
      back = λ s u b. (fe_below g s.a u.y b.1, fe_below h s.b u.z b.2, fe_below f s.c u.x b.0);
      back_there = λ s u b. cell_path (fe_twice g s.a u.x b.0) (fe_twice h s.b u.y b.1) (fe_twice f s.c u.z b.2);
      there_back = λ s u b. cell_path (fe_twice f s.c u.x b.0) (fe_twice g s.a u.y b.1) (fe_twice h s.b u.z b.2);
    }

fits_210 : (f g h : ℕ) → Fits (mk 2 1 0 f g h)
unfolding mk map_sides map_cell inverse axis_of flip_of side coordinate
fits_210 f g h =
    record {
      there = λ s u b. (fe_below f s.c u.z b.2, fe_below g s.b u.y b.1, fe_below h s.a u.x b.0);
      back = λ s u b. (fe_below h s.a u.z b.2, fe_below g s.b u.y b.1, fe_below f s.c u.x b.0);
      back_there = λ s u b. cell_path (fe_twice h s.a u.x b.0) (fe_twice g s.b u.y b.1) (fe_twice f s.c u.z b.2);
      there_back = λ s u b. cell_path (fe_twice f s.c u.x b.0) (fe_twice g s.b u.y b.1) (fe_twice h s.a u.z b.2);
    }

six : List (List ℕ)
six = (0 ∷ 1 ∷ 2 ∷ []) ∷ (0 ∷ 2 ∷ 1 ∷ []) ∷ (1 ∷ 0 ∷ 2 ∷ []) ∷ (1 ∷ 2 ∷ 0 ∷ []) ∷ (2 ∷ 0 ∷ 1 ∷ []) ∷ (2 ∷ 1 ∷ 0 ∷ []) ∷ []

is_permutation : Map → Bool
is_permutation m = any (same (m.axis_x ∷ m.axis_y ∷ m.axis_z ∷ [])) six

turns_test : T (all is_permutation turns)
unfolding is_permutation six turns transform permutations parity
turns_test = tt

mirrorings_test : T (all is_permutation mirrorings)
unfolding is_permutation six mirrorings transform permutations parity
mirrorings_test = tt

by_axes : (m : Map) (p q r : ℕ) → ◌≡◌ {A = List ℕ} (m.axis_x ∷ m.axis_y ∷ m.axis_z ∷ []) (p ∷ q ∷ r ∷ []) → Fits (mk p q r m.flip_x m.flip_y m.flip_z) → Fits m
unfolding mk
by_axes m p q r e h = subst Fits (sym (λ i. record { axis_x = ep i; axis_y = eq i; axis_z = er i; flip_x = m.flip_x; flip_y = m.flip_y; flip_z = m.flip_z })) h
  where
    ep : m.axis_x ≡ p
    ep = head-eq_of_cons-eq e

    eq : m.axis_y ≡ q
    eq = head-eq_of_cons-eq (tail-eq_of_cons-eq e)

    er : m.axis_z ≡ r
    er = head-eq_of_cons-eq (tail-eq_of_cons-eq (tail-eq_of_cons-eq e))

permutation_fits : (m : Map) → T (is_permutation m) → Fits m
unfolding is_permutation six
permutation_fits m t = c₀ (Memᴰ.cases_cons r.1)
  where
    r : (l : List ℕ) × Memᴰ l six × T (same (m.axis_x ∷ m.axis_y ∷ m.axis_z ∷ []) l)
    r = any_at (same (m.axis_x ∷ m.axis_y ∷ m.axis_z ∷ [])) six t

    e : ◌≡◌ {A = List ℕ} (m.axis_x ∷ m.axis_y ∷ m.axis_z ∷ []) r.0
    e = same→eq (m.axis_x ∷ m.axis_y ∷ m.axis_z ∷ []) r.0 r.2

    c₅ : (r.0 ≡ 2 ∷ 1 ∷ 0 ∷ []) ⊎ Memᴰ r.0 [] → Fits m
    c₅ (inl i) = by_axes m 2 1 0 (e ∙ i) (fits_210 m.flip_x m.flip_y m.flip_z)
    c₅ (inr k) = absurd (Memᴰ.not-nil k)

    c₄ : (r.0 ≡ 2 ∷ 0 ∷ 1 ∷ []) ⊎ Memᴰ r.0 ((2 ∷ 1 ∷ 0 ∷ []) ∷ []) → Fits m
    c₄ (inl i) = by_axes m 2 0 1 (e ∙ i) (fits_201 m.flip_x m.flip_y m.flip_z)
    c₄ (inr k) = c₅ (Memᴰ.cases_cons k)

    c₃ : (r.0 ≡ 1 ∷ 2 ∷ 0 ∷ []) ⊎ Memᴰ r.0 ((2 ∷ 0 ∷ 1 ∷ []) ∷ (2 ∷ 1 ∷ 0 ∷ []) ∷ []) → Fits m
    c₃ (inl i) = by_axes m 1 2 0 (e ∙ i) (fits_120 m.flip_x m.flip_y m.flip_z)
    c₃ (inr k) = c₄ (Memᴰ.cases_cons k)

    c₂ : (r.0 ≡ 1 ∷ 0 ∷ 2 ∷ []) ⊎ Memᴰ r.0 ((1 ∷ 2 ∷ 0 ∷ []) ∷ (2 ∷ 0 ∷ 1 ∷ []) ∷ (2 ∷ 1 ∷ 0 ∷ []) ∷ []) → Fits m
    c₂ (inl i) = by_axes m 1 0 2 (e ∙ i) (fits_102 m.flip_x m.flip_y m.flip_z)
    c₂ (inr k) = c₃ (Memᴰ.cases_cons k)

    c₁ : (r.0 ≡ 0 ∷ 2 ∷ 1 ∷ []) ⊎ Memᴰ r.0 ((1 ∷ 0 ∷ 2 ∷ []) ∷ (1 ∷ 2 ∷ 0 ∷ []) ∷ (2 ∷ 0 ∷ 1 ∷ []) ∷ (2 ∷ 1 ∷ 0 ∷ []) ∷ []) → Fits m
    c₁ (inl i) = by_axes m 0 2 1 (e ∙ i) (fits_021 m.flip_x m.flip_y m.flip_z)
    c₁ (inr k) = c₂ (Memᴰ.cases_cons k)

    c₀ : (r.0 ≡ 0 ∷ 1 ∷ 2 ∷ []) ⊎ Memᴰ r.0 ((0 ∷ 2 ∷ 1 ∷ []) ∷ (1 ∷ 0 ∷ 2 ∷ []) ∷ (1 ∷ 2 ∷ 0 ∷ []) ∷ (2 ∷ 0 ∷ 1 ∷ []) ∷ (2 ∷ 1 ∷ 0 ∷ []) ∷ []) → Fits m
    c₀ (inl i) = by_axes m 0 1 2 (e ∙ i) (fits_012 m.flip_x m.flip_y m.flip_z)
    c₀ (inr k) = c₁ (Memᴰ.cases_cons k)

pub turn_fits : (m : Map) → Memᴰ m turns → Fits m
turn_fits m k = permutation_fits m (all_at is_permutation turns turns_test k)

pub mirroring_fits : (m : Map) → Memᴰ m mirrorings → Fits m
mirroring_fits m k = permutation_fits m (all_at is_permutation mirrorings mirrorings_test k)

-- ---- filled cells of a mapped grid
pub filled_at : (g : Grid) (u : Cell) → Memᴰ u (filled_cells g) → InBox g.sides u × (byte_at g u ≡ 1)
unfolding filled_cells
filled_at g u m = let r = keep_at (λ (v : Cell). eqb (byte_at g v) 1) (box g.sides) m in (box_at g.sides u r.0, eqb→eq (byte_at g u) 1 r.1)

pub filled_of : (g : Grid) (u : Cell) → InBox g.sides u → byte_at g u ≡ 1 → Memᴰ u (filled_cells g)
unfolding filled_cells
filled_of g u b e = keep_of (λ (v : Cell). eqb (byte_at g v) 1) (box g.sides) (box_of g.sides u b) (eqb_of e)

pub filled_apart : (g : Grid) → Apart (filled_cells g)
unfolding filled_cells
filled_apart g = apart_keep (λ (v : Cell). eqb (byte_at g v) 1) (box g.sides) (box_apart g.sides)

pub mapped_byte : (m : Map) (g : Grid) (u : Cell) → InBox (map_sides m g.sides) u → byte_at (map_grid m g) u ≡ byte_at g (map_cell (inverse m) (map_sides m g.sides) u)
unfolding map_grid
mapped_byte m g u b = byte_with (map_sides m g.sides) (λ v. byte_at g (map_cell (inverse m) (map_sides m g.sides) v)) u b

pub mapped_sides : (m : Map) (g : Grid) → (map_grid m g).sides ≡ map_sides m g.sides
unfolding map_grid grid_with
mapped_sides m g = refl

module _ (m : Map) (h : Fits m) (g : Grid) where
  pub filled_there : (u : Cell) → Memᴰ u (filled_cells g) → Memᴰ (map_cell m g.sides u) (filled_cells (map_grid m g))
  filled_there u k =
      let r = filled_at g u k in
      let b = h.there g.sides u r.0 in
      filled_of (map_grid m g) (map_cell m g.sides u) (subst (λ (s : Sides). InBox s (map_cell m g.sides u)) (sym (mapped_sides m g)) b)
      (mapped_byte m g (map_cell m g.sides u) b ∙ ap (byte_at g) (h.back_there g.sides u r.0) ∙ r.1)

  pub filled_back : (u : Cell) → Memᴰ u (filled_cells (map_grid m g)) → Memᴰ (map_cell (inverse m) (map_sides m g.sides) u) (filled_cells g)
  filled_back u k =
      let r = filled_at (map_grid m g) u k in
      let b : InBox (map_sides m g.sides) u = subst (λ (s : Sides). InBox s u) (mapped_sides m g) r.0 in
      filled_of g (map_cell (inverse m) (map_sides m g.sides) u) (h.back g.sides u b) (sym (mapped_byte m g u b) ∙ r.1)

  pub filled_length : length (filled_cells (map_grid m g)) ≡ length (filled_cells g)
  filled_length =
      le_antisymm
      (inject_length (map_cell (inverse m) (map_sides m g.sides)) (filled_cells (map_grid m g)) (filled_cells g) (filled_apart (map_grid m g)) filled_back
      (λ u v a b e. sym (over u a) ∙ ap (map_cell m g.sides) e ∙ over v b))
      (inject_length (map_cell m g.sides) (filled_cells g) (filled_cells (map_grid m g)) (filled_apart g) filled_there
      (λ u v a b e. sym (under u a) ∙ ap (map_cell (inverse m) (map_sides m g.sides)) e ∙ under v b))
    where
      over : (u : Cell) → Memᴰ u (filled_cells (map_grid m g)) → map_cell m g.sides (map_cell (inverse m) (map_sides m g.sides) u) ≡ u
      over u a = h.there_back g.sides u (subst (λ (s : Sides). InBox s u) (mapped_sides m g) (filled_at (map_grid m g) u a).0)

      under : (u : Cell) → Memᴰ u (filled_cells g) → map_cell (inverse m) (map_sides m g.sides) (map_cell m g.sides u) ≡ u
      under u a = h.back_there g.sides u (filled_at g u a).0
