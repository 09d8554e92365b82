-- Places and cells: mixed radix, x slowest, z fastest; and what the 48 maps do to places, sides and volumes. Assumes nothing.
use Prim.Native.Nat.{ℕ, ◌+◌, ◌*◌, ◌/◌, ◌%◌, ◌≤◌, ◌<◌}
use mathlib.Core.Bool.{Bool, true, false, cond}
use mathlib.Core.List.{List, [], ◌∷◌}
use mathlib.Core.Path.{◌≡◌, refl, sym, ap, ◌∙◌, subst}
use mathlib.Core.Logic.{⊎_elim}
use native.Mathlib.Omega.{arith}
use native.Mathlib.Nat.{mul-le-mul, mul-add-div_right, mul-add-mod_self_right, div-eq_of_lt, mod-eq_of_lt, mod-lt, div-lt_iff_lt-mul, div-div-eq-div-mul, div-add-mod', mul_comm, mul_assoc, mul-zero, mul-pos, eq-zero-or-pos, not-suc-le-zero}
use lib.Dec.{eqb}
use lib.ListN.{get_or}
use Rattle.definitions.specs.Grid.{Sides, Cell, Grid, volume, place_of, InBox, byte_at, grid_with}
use Rattle.definitions.specs.Maps.{Map, map_of, map_sides, map_cell, inverse, map_grid, side}
use Rattle.definitions.specs.Moves.{Quarter, Move, quarter_sides, quarters_sides, move_sides, sides_after_all}
use Rattle.definitions.specs.Moves.Quarter.{about_x, about_y, about_z}
use Rattle.definitions.specs.Moves.Move.{turn, mirroring}
pub use Rattle.theorems.proofs.MapLaws.{digits_lt, place_lt}
use Rattle.theorems.proofs.MapLaws.{cell_path, byte_with}
use Rattle.theorems.proofs.MapNumberLaws.{map_done, map_fits, sides_back}
use Rattle.shape.specs.Coords.{ShortSides}
use Rattle.shape.specs.Places.{cell_at, image_place, source_place}

-- ---- digits: of radix b, the low digit y
pub digits_div : (x y b : ℕ) → y < b → (x * b + y) / b ≡ x
digits_div x y b h =
    let pos : 0 < b = omega arith in
    mul-add-div_right pos x y ∙ ap (λ (k : ℕ). x + k) (div-eq_of_lt h) ∙ omega arith

pub digits_mod : (x y b : ℕ) → y < b → (x * b + y) % b ≡ y
digits_mod x y b h = mul-add-mod_self_right x b y ∙ mod-eq_of_lt h

pub pos_right : (i m n : ℕ) → i < m * n → 0 < n
pos_right i m n h =
    ⊎_elim (λ e. absurd (not-suc-le-zero (subst (λ (k : ℕ). i < k) (ap (λ (k : ℕ). m * k) e ∙ mul-zero m) h))) (λ p. p)
    (eq-zero-or-pos n)

pub pos_left : (i m n : ℕ) → i < m * n → 0 < m
pos_left i m n h = pos_right i n m (subst (λ (k : ℕ). i < k) (mul_comm m n) h)

-- ---- places and cells
pub cell_at_place : (s : Sides) (u : Cell) → InBox s u → cell_at s (place_of s u) ≡ u
unfolding cell_at
cell_at_place s u w =
    let high : ((u.x * s.b + u.y) * s.c + u.z) / s.c ≡ u.x * s.b + u.y = digits_div _ _ _ w.2 in
    cell_path
    (ap (λ (k : ℕ). ((u.x * s.b + u.y) * s.c + u.z) / k) (mul_comm s.b s.c)
    ∙ sym (div-div-eq-div-mul _ s.c s.b) ∙ ap (λ (k : ℕ). k / s.b) high ∙ digits_div _ _ _ w.1)
    (ap (λ (k : ℕ). k % s.b) high ∙ digits_mod _ _ _ w.1)
    (digits_mod _ _ _ w.2)

-- a box that has a cell has no side 0
pub record Filled (s : Sides) : Type 0 where
  pub b : 0 < s.b
  pub c : 0 < s.c
  pub bc : 0 < s.b * s.c

pub filled : (s : Sides) (i : ℕ) → i < volume s → Filled s
unfolding volume
filled s i h =
    let z : 0 < s.c = pos_right i (s.a * s.b) s.c h in
    let y : 0 < s.b = pos_right 0 s.a s.b (pos_left i (s.a * s.b) s.c h) in
    record { b = y; c = z; bc = mul-pos y z }

pub cell_in_box : (s : Sides) (i : ℕ) → i < volume s → InBox s (cell_at s i)
unfolding volume cell_at
cell_in_box s i h =
    let f : Filled s = filled s i h in
    ((div-lt_iff_lt-mul f.bc).1 (subst (λ (k : ℕ). i < k) (mul_assoc s.a s.b s.c) h), mod-lt _ f.b, mod-lt _ f.c)

pub place_of_cell : (s : Sides) (i : ℕ) → place_of s (cell_at s i) ≡ i
unfolding cell_at
place_of_cell s i =
    ap (λ (k : ℕ). (k * s.b + i / s.c % s.b) * s.c + i % s.c)
    (ap (λ (k : ℕ). i / k) (mul_comm s.b s.c) ∙ sym (div-div-eq-div-mul i s.c s.b))
    ∙ ap (λ (k : ℕ). k * s.c + i % s.c) (div-add-mod' (i / s.c) s.b)
    ∙ div-add-mod' i s.c

-- ---- the cell behind a cell of a box
module _ (s : Sides) (u : Cell) (h : InBox s u) where
  -- the place of a cell says which it is, however large its x
  any_x : (v : Cell) → v.y < s.b → v.z < s.c → cell_at s (place_of s v) ≡ v
  unfolding cell_at
  any_x v y z = cell_at_place (record { a = v.x + 1; b = s.b; c = s.c }) v (omega arith, y, z)

  pub next_z : u.z + 1 < s.c → record { x = u.x; y = u.y; z = u.z + 1 } ≡ cell_at s (place_of s u + 1)
  next_z l =
      let v : Cell = record { x = u.x; y = u.y; z = u.z + 1 } in
      let e : place_of s v ≡ place_of s u + 1 = omega arith in
      sym (any_x v h.1 l) ∙ ap (cell_at s) e

  pub next_y : s.c ≤ u.z + 1 → u.y + 1 < s.b → record { x = u.x; y = u.y + 1; z = 0 } ≡ cell_at s (place_of s u + 1)
  next_y k l =
      let v : Cell = record { x = u.x; y = u.y + 1; z = 0 } in
      let e : place_of s v ≡ place_of s u + 1 = omega arith in
      sym (any_x v l (omega arith)) ∙ ap (cell_at s) e

  pub next_x : s.c ≤ u.z + 1 → s.b ≤ u.y + 1 → record { x = u.x + 1; y = 0; z = 0 } ≡ cell_at s (place_of s u + 1)
  next_x k l =
      let v : Cell = record { x = u.x + 1; y = 0; z = 0 } in
      let d : s.b ≡ u.y + 1 = omega arith in
      let f : s.b * s.c ≡ (u.y + 1) * s.c = ap (λ (n : ℕ). n * s.c) d in
      let e : place_of s v ≡ place_of s u + 1 = omega arith in
      sym (any_x v (omega arith) (omega arith)) ∙ ap (cell_at s) e

-- ---- a map keeps the number of cells: a quarter turn does, and each of the 48 is done by moves
quarter_volume : (q : Quarter) (s : Sides) → volume (quarter_sides q s) ≡ volume s
unfolding volume quarter_sides
quarter_volume about_x s = omega arith
quarter_volume about_y s = omega arith
quarter_volume about_z s = omega arith

quarters_volume : (qs : List Quarter) (s : Sides) → volume (quarters_sides qs s) ≡ volume s
quarters_volume [] s = refl
quarters_volume (q ∷ qs) s = quarters_volume qs (quarter_sides q s) ∙ quarter_volume q s

move_volume : (m : Move) (s : Sides) → volume (move_sides m s) ≡ volume s
unfolding move_sides
move_volume (turn q) s = quarter_volume q s
move_volume (mirroring qs) s = quarters_volume qs s

moves_volume : (ms : List Move) (s : Sides) → volume (sides_after_all ms s) ≡ volume s
moves_volume [] s = refl
moves_volume (m ∷ ms) s = moves_volume ms (move_sides m s) ∙ move_volume m s

pub map_volume : (n : ℕ) (s : Sides) → volume (map_sides (map_of n) s) ≡ volume s
map_volume n s = let r = map_done n in ap volume (sym (r.1.sides s)) ∙ moves_volume r.0 s

-- ---- what a map does to places
module _ (n : ℕ) (s : Sides) where
  pub image_in_box : (u : Cell) → InBox s u → InBox (map_sides (map_of n) s) (map_cell (map_of n) s u)
  image_in_box u b = (map_fits n).there s u b

  pub image_lt : (i : ℕ) → i < volume s → image_place (map_of n) s i < volume s
  unfolding image_place
  image_lt i h =
      subst (λ (k : ℕ). place_of (map_sides (map_of n) s) (map_cell (map_of n) s (cell_at s i)) < k) (map_volume n s)
      (place_lt (map_sides (map_of n) s) (map_cell (map_of n) s (cell_at s i)) (image_in_box (cell_at s i) (cell_in_box s i h)))

-- the mapped grid, place by place: each holds what stood at its source
pub mapped_place : (n : ℕ) (g : Grid) (j : ℕ) → j < volume g.sides
    → get_or (map_grid (map_of n) g).cells j 0 ≡ get_or g.cells (source_place (map_of n) g.sides j) 0
unfolding map_grid source_place image_place byte_at grid_with
mapped_place n g j h =
    ap (λ (k : ℕ). get_or (map_grid (map_of n) g).cells k 0) (sym (place_of_cell t j))
    ∙ byte_with t (λ u. byte_at g (map_cell (inverse (map_of n)) t u)) (cell_at t j) (cell_in_box t j (subst (λ (k : ℕ). j < k) (sym (map_volume n g.sides)) h))
    ∙ ap (λ (s : Sides). get_or g.cells (place_of s (map_cell (inverse (map_of n)) t (cell_at t j))) 0) (sym (sides_back n g.sides))
  where
    t : Sides
    t = map_sides (map_of n) g.sides

-- ---- limits
pub side_short : (s : Sides) → ShortSides s → (i : ℕ) → side s i ≤ 8
unfolding side
side_short s h i = go (eqb i 0) (eqb i 1)
  where
    go : (x y : Bool) → cond x s.a (cond y s.b s.c) ≤ 8
    go true y = h.a
    go false true = h.b
    go false false = h.c

pub mapped_short : (m : Map) (s : Sides) → ShortSides s → ShortSides (map_sides m s)
unfolding map_sides
mapped_short m s h = record { a = side_short s h m.axis_x; b = side_short s h m.axis_y; c = side_short s h m.axis_z }

pub two_sides : (b c : ℕ) → b ≤ 8 → c ≤ 8 → b * c ≤ 64
two_sides b c h k = mul-le-mul h k

pub volume_small : (s : Sides) → ShortSides s → (s.a * s.b ≤ 64) × (volume s ≤ 512)
unfolding volume
volume_small s h = let f : s.a * s.b ≤ 64 = mul-le-mul h.a h.b in (f, mul-le-mul f h.c)

pub volume_fits : (s : Sides) → ShortSides s → volume s ≤ 512
volume_fits s h = (volume_small s h).1
