-- Lines of a turned box: a map's lines reach the cells that the map takes to the places of the turned box. Assumes nothing.
use Prim.Native.Nat.{ℕ, ◌+◌, ◌-◌, ◌*◌, ◌≤◌, ◌<◌}
use mathlib.Core.Bool.{Bool, true, false, cond, not, ◌||◌}
use mathlib.Core.List.{List, map, map-map}
use mathlib.Core.Path.{◌≡◌, refl, sym, ap, ap₂, ◌∙◌, subst}
use mathlib.Core.Logic.{⊎_elim}
use native.Mathlib.Nat.{mul_assoc, mul-le-mul}
use native.Mathlib.Numerals.{add-one}
use native.Mathlib.Omega.{arith}
use lib.Dec.{T, eqb}
use lib.ListN.{length, get_or, set, length-map}
use lib.Seq.{paste, paste-suc}
use Rattle.lists.specs.Lists.{all, each, below}
use Rattle.lists.proofs.TestLaws.{or_cases}
use Rattle.lists.proofs.ListLaws.{map_same, map_each, each_same, all_at}
use Rattle.lists.proofs.RangeLaws.{length_below, get_or_below}
use Rattle.lists.proofs.PartLaws.{parts_length, parts_next}
use Rattle.definitions.specs.Grid.{Sides, Cell, Grid, box, volume, place_of, InBox, byte_at, grid_with}
use Rattle.definitions.specs.Maps.{Map, map_of, side, coordinate, from_end, map_sides, map_cell, map_grid, inverse, axis_of, flip_of, turns, mirrorings, transform, permutations, parity}
use Rattle.theorems.proofs.MapLaws.{Fits}
use Rattle.theorems.proofs.GroupLaws.{same_map, same_map→eq, code_of}
use Rattle.theorems.proofs.ActLaws.{maps_of}
use Rattle.theorems.proofs.MapNumberLaws.{map_in, map_fits}
use Rattle.shape.specs.Coords.{flip_number}
use Rattle.shape.specs.Lines.{stride_of, RunsAlong, step_to, line_of, layer_of, box_of, LayerIn}
use Rattle.shape.specs.declared.lines.Line.{Line}
use Rattle.shape.proofs.PlaceLaws.{place_lt, map_volume}

-- ---- lines along the axes of a box
-- how far cell i of the line that runs along an axis lies from the line's place
abbrev along_line : Sides → ℕ → ℕ → ℕ → ℕ
along_line s axis flip i = from_end flip (side s axis) i * stride_of s axis

step_by : {l : Line} {s : Sides} {axis flip : ℕ} → RunsAlong l s axis flip → (i : ℕ) → step_to l i ≡ along_line s axis flip i
unfolding step_to from_end
step_by {l} {s} {axis} {flip} r i =
    ap₂ (λ (k d : ℕ). k * d) (ap₂ (λ (b : Bool) (n : ℕ). from_end (flip_number b) n i) r.flipped r.cells ∙ go (eqb flip 0)) r.apart
  where
    go : (b : Bool) → cond (eqb (flip_number (not b)) 0) i (side s axis - 1 - i) ≡ cond b i (side s axis - 1 - i)
    go true = refl
    go false = refl

-- a line has at most 8 cells, at most 64 apart
pub step_small : (k step : ℕ) → k ≤ 8 → step ≤ 64 → k * step ≤ 512
step_small k step h l = mul-le-mul h l

-- ---- lines of bytes: one more byte of a line, one more line of a layer, one more layer of a box
module _ (cells : List ℕ) (start : ℕ) (z : Line) where
  pub line_length : length (line_of cells start z) ≡ z.n
  unfolding line_of
  line_length = length-map (below z.n) (λ k. get_or cells (start + step_to z k) 0) ∙ length_below z.n

  pub line_next : (d l : List ℕ) (at k i : ℕ) → at + z.n ≤ length d → k < z.n → i ≡ start + step_to z k → l ≡ paste d at (line_of cells start z) k
      → set l (at + k) (get_or cells i 0) ≡ paste d at (line_of cells start z) (k + 1)
  line_next d l at k i fits h e is =
      let long = line_length in
      ap₂ (λ (x : List ℕ) (b : ℕ). set x (at + k) b) is (ap (λ (p : ℕ). get_or cells p 0) e ∙ sym there)
      ∙ paste-suc d at (line_of cells start z) k 0 (omega arith) (omega arith) ∙ ap (paste d at (line_of cells start z)) (sym (add-one k))
    where
      there : get_or (line_of cells start z) k 0 ≡ get_or cells (start + step_to z k) 0
      there = unfold line_of in get_or_below (λ p. get_or cells (start + step_to z p) 0) 0 z.n k h

module _ (cells : List ℕ) (start : ℕ) (y z : Line) where
  pub layer_length : length (layer_of cells start y z) ≡ y.n * z.n
  unfolding layer_of
  layer_length = parts_length (λ j. line_of cells (start + step_to y j) z) z.n (λ j. line_length cells (start + step_to y j) z) y.n

  pub layer_next : (d l new : List ℕ) (at j i : ℕ) → at + y.n * z.n ≤ length d → j < y.n → l ≡ paste d at (layer_of cells start y z) (j * z.n)
      → i ≡ start + step_to y j → new ≡ paste l (at + j * z.n) (line_of cells i z) z.n → new ≡ paste d at (layer_of cells start y z) ((j + 1) * z.n)
  unfolding layer_of
  layer_next d l new at j i fits h is e made =
      parts_next (λ j. line_of cells (start + step_to y j) z) z.n (λ j. line_length cells (start + step_to y j) z) y.n d l new at j fits h is
      (made ∙ ap (λ (p : ℕ). paste l (at + j * z.n) (line_of cells p z) z.n) e)

pub box_next : (cells : List ℕ) (x y z : Line) (d l new : List ℕ) (at i start : ℕ) → at + x.n * (y.n * z.n) ≤ length d → i < x.n
    → l ≡ paste d at (box_of cells x y z) (i * (y.n * z.n)) → start ≡ step_to x i
    → new ≡ paste l (at + i * (y.n * z.n)) (layer_of cells start y z) (y.n * z.n) → new ≡ paste d at (box_of cells x y z) ((i + 1) * (y.n * z.n))
unfolding box_of
box_next cells x y z d l new at i start fits h is e made =
    parts_next (λ i. layer_of cells (step_to x i) y z) (y.n * z.n) (λ i. layer_length cells (step_to x i) y z) x.n d l new at i fits h is
    (made ∙ ap (λ (p : ℕ). paste l (at + i * (y.n * z.n)) (layer_of cells p y z) (y.n * z.n)) e)

-- ---- the lines of a map reach the cells that come to the places of the turned box: for each order of the axes
abbrev Reach : Map → Type 0
Reach m = (s : Sides) (i j k : ℕ)
    → place_of s (map_cell (inverse m) (map_sides m s) (record { x = i; y = j; z = k })) ≡ along_line s m.axis_x m.flip_x i + along_line s m.axis_y m.flip_y j + along_line s m.axis_z m.flip_z k

with_axes : ℕ → ℕ → ℕ → Map → Map
with_axes p q r m = record { axis_x = p; axis_y = q; axis_z = r; flip_x = m.flip_x; flip_y = m.flip_y; flip_z = m.flip_z }

reach_012 : (m : Map) → Reach (with_axes 0 1 2 m)
unfolding with_axes map_sides map_cell inverse axis_of flip_of side coordinate stride_of step_to
reach_012 m s i j k = omega arith

reach_021 : (m : Map) → Reach (with_axes 0 2 1 m)
unfolding with_axes map_sides map_cell inverse axis_of flip_of side coordinate stride_of step_to
reach_021 m s i j k = omega arith

reach_102 : (m : Map) → Reach (with_axes 1 0 2 m)
unfolding with_axes map_sides map_cell inverse axis_of flip_of side coordinate stride_of step_to
reach_102 m s i j k = omega arith

reach_120 : (m : Map) → Reach (with_axes 1 2 0 m)
unfolding with_axes map_sides map_cell inverse axis_of flip_of side coordinate stride_of step_to
reach_120 m s i j k = omega arith

reach_201 : (m : Map) → Reach (with_axes 2 0 1 m)
unfolding with_axes map_sides map_cell inverse axis_of flip_of side coordinate stride_of step_to
reach_201 m s i j k = omega arith

reach_210 : (m : Map) → Reach (with_axes 2 1 0 m)
unfolding with_axes map_sides map_cell inverse axis_of flip_of side coordinate stride_of step_to
reach_210 m s i j k = omega arith

is_by : ℕ → ℕ → ℕ → Map → Bool
is_by p q r m = same_map (with_axes p q r m) m

ordered : Map → Bool
ordered m = is_by 0 1 2 m || (is_by 0 2 1 m || (is_by 1 0 2 m || (is_by 1 2 0 m || (is_by 2 0 1 m || is_by 2 1 0 m))))

each_ordered : (odd : Bool) → T (all ordered (maps_of odd))
unfolding ordered is_by with_axes same_map code_of turns mirrorings transform permutations parity
each_ordered false = tt
each_ordered true = tt

reach_by : (p q r : ℕ) (m : Map) → Reach (with_axes p q r m) → T (is_by p q r m) → Reach m
unfolding is_by
reach_by p q r m h t = subst Reach (same_map→eq (with_axes p q r m) m t) h

reach : (m : Map) → T (ordered m) → Reach m
unfolding ordered
reach m t =
    ⊎_elim (reach_by 0 1 2 m (reach_012 m))
    (λ t. ⊎_elim (reach_by 0 2 1 m (reach_021 m))
    (λ t. ⊎_elim (reach_by 1 0 2 m (reach_102 m))
    (λ t. ⊎_elim (reach_by 1 2 0 m (reach_120 m))
    (λ t. ⊎_elim (reach_by 2 0 1 m (reach_201 m)) (reach_by 2 1 0 m (reach_210 m)) (or_cases (is_by 2 0 1 m) _ t))
    (or_cases (is_by 1 2 0 m) _ t)) (or_cases (is_by 1 0 2 m) _ t)) (or_cases (is_by 0 2 1 m) _ t)) (or_cases (is_by 0 1 2 m) _ t)

-- ---- so the lines of a map that has a number, which the code reads from a table, make the mapped grid, and all their cells lie in the box
pub record Turning (n : ℕ) (g : Grid) (x y z : Line) : Type 0 where
  pub volume_is : x.n * (y.n * z.n) ≡ volume g.sides
  pub inside : (i : ℕ) → i < x.n → LayerIn (volume g.sides) (step_to x i) y z
  pub make : box_of g.cells x y z ≡ (map_grid (map_of n) g).cells

module _ (n : ℕ) (m : Map) (e : m ≡ map_of n) (g : Grid) {x y z : Line}
    (rx : RunsAlong x g.sides m.axis_x m.flip_x) (ry : RunsAlong y g.sides m.axis_y m.flip_y) (rz : RunsAlong z g.sides m.axis_z m.flip_z) where
  reached : (i j k : ℕ)
      → place_of g.sides (map_cell (inverse m) (map_sides m g.sides) (record { x = i; y = j; z = k })) ≡ step_to x i + step_to y j + step_to z k
  reached i j k =
      rw (step_by rx i, step_by ry j, step_by rz k)
      (subst Reach (sym e) (reach (map_of n) (all_at ordered (maps_of (map_in n).0) (each_ordered (map_in n).0) (map_in n).1)) g.sides i j k)

  lines_inside : (i : ℕ) → i < x.n → LayerIn (volume g.sides) (step_to x i) y z
  unfolding map_sides
  lines_inside i hi j hj k hk =
      let u : Cell = record { x = i; y = j; z = k } in
      let fits : Fits m = subst Fits (sym e) (map_fits n) in
      let b : InBox (map_sides m g.sides) u = (omega (arith, rx.cells), omega (arith, ry.cells), omega (arith, rz.cells)) in
      subst (λ (p : ℕ). p < volume g.sides) (reached i j k) (place_lt g.sides (map_cell (inverse m) (map_sides m g.sides) u) (fits.back g.sides u b))

  lines_make : box_of g.cells x y z ≡ (map_grid (map_of n) g).cells
  unfolding box_of layer_of line_of map_grid grid_with box byte_at map_sides
  lines_make =
      each_same _ _ (below x.n) (λ i. each_same _ _ (below y.n) (λ j.
      map_same _ _ (below z.n) (λ k h. ap (λ (p : ℕ). get_or g.cells p 0) (sym (reached i j k)))
      ∙ sym (map-map f (λ k. record { x = i; y = j; z = k }) (below z.n)))
      ∙ sym (map_each f (λ j. map (λ k. record { x = i; y = j; z = k }) (below z.n)) (below y.n)))
      ∙ sym (map_each f (λ i. each (below y.n) (λ j. map (λ k. record { x = i; y = j; z = k }) (below z.n))) (below x.n))
      ∙ (λ i. map f (box (record { a = rx.cells i; b = ry.cells i; c = rz.cells i }))) ∙ ap (λ (m : Map). (map_grid m g).cells) e
    where
      f : Cell → ℕ
      f u = byte_at g (map_cell (inverse m) (map_sides m g.sides) u)

  lines_volume : x.n * (y.n * z.n) ≡ volume g.sides
  unfolding volume map_sides
  lines_volume =
      (λ i. rx.cells i * (ry.cells i * rz.cells i))
      ∙ ap (λ (m : Map). side g.sides m.axis_x * (side g.sides m.axis_y * side g.sides m.axis_z)) e
      ∙ sym (mul_assoc (side g.sides (map_of n).axis_x) (side g.sides (map_of n).axis_y) (side g.sides (map_of n).axis_z)) ∙ map_volume n g.sides

  pub turning : Turning n g x y z
  turning = record { volume_is = lines_volume; inside = lines_inside; make = lines_make }
