-- Poses: codes of cells, a grid's filled cells as codes place by place, the first of cells in scan order, and poses written one after the other.
-- Assumes nothing.
use Prim.Native.Nat.{ℕ, suc, ◌+◌, ◌*◌, ◌/◌, ◌%◌, ◌-◌, ◌≤◌, ◌<◌}
use mathlib.Core.Bool.{Bool, true, false, cond}
use mathlib.Core.List.{List, [], ◌∷◌, map, Memᴰ, map-map}
use mathlib.Core.Path.{◌≡◌, refl, sym, ap, ap₂, ◌∙◌, subst}
use native.Mathlib.Nat.{zero-add, zero-div, zero-mod}
use native.Mathlib.Numerals.{add-one}
use native.Mathlib.Omega.{arith}
use borrow.Author.Count.{below_more}
use borrow.Author.Tests.{ne_eqb}
use lib.Dec.{eqb}
use lib.ListN.{length, get_or, take, drop, set, length-set, length-map, length-drop, drop_of_length-le}
use lib.Seq.{paste, paste-zero, paste-suc, drop-cons, get_or-take, get_or-set_same, get_or-set_other, take_all, length-take-le}
use Rattle.lists.specs.Lists.{cons_if, keep, head_or, put, sort, from, below}
use Rattle.lists.proofs.ListLaws.{get_or_map, keep_same, keep_length, map_same, map_still}
use Rattle.lists.proofs.RangeLaws.{below_at, length_below, map_entries}
use Rattle.lists.proofs.PartLaws.{pasted_there}
use Rattle.lists.proofs.SortLaws.{first_put}
use Rattle.definitions.specs.Grid.{Sides, Cell, Grid, InBox, box, volume, place_of, byte_at, filled_cells}
use Rattle.definitions.specs.Maps.{map_of, map_grid, map_sides}
use Rattle.definitions.specs.Scan.{cell_ahead, scan}
use Rattle.definitions.specs.Placements.{origin}
use Rattle.theorems.proofs.MapLaws.{box_at, filled_at, mapped_sides}
use Rattle.shape.specs.Coords.{ShortSides}
use Rattle.shape.specs.Places.{cell_at}
use Rattle.shape.specs.Grids.{order_by}
use Rattle.shape.specs.Scans.{cell_order}
use Rattle.shape.specs.Variants.{turned_by}
use Rattle.std.specs.declared.cmp.Ordering.{Ordering}
use Rattle.std.specs.Ordering.{is_lt}
use Rattle.shape.proofs.PlaceLaws.{cell_at_place, cell_in_box, place_of_cell, place_lt, volume_small, map_volume}
use Rattle.shape.proofs.GridLaws.{box_places, turned_length}
use Rattle.placements.specs.declared.poses.Pose.{Pose}
use Rattle.placements.specs.declared.poses.Poses.{Poses}
use Rattle.placements.specs.Poses.{code_of, cell_of, cells_in, origin_in, variant_in, variants_in, no_pose, with_pose, with_poses, PoseOf, Standing, Posed}

-- ---- codes: places in a box whose sides are 8
abbrev pub eight : Sides
eight = record { a = 8; b = 8; c = 8 }

pub cell_of_code : (u : Cell) → InBox eight u → cell_of (code_of u) ≡ u
unfolding cell_of code_of cell_at
cell_of_code u b =
    let e : 64 * u.x + 8 * u.y + u.z ≡ place_of eight u = omega arith in
    ap (cell_at eight) e ∙ cell_at_place eight u b

pub code_of_cell : (n : ℕ) → code_of (cell_of n) ≡ n
unfolding cell_of code_of cell_at
code_of_cell n =
    let e : 64 * (n / 64) + 8 * (n / 8 % 8) + n % 8 ≡ place_of eight (cell_at eight n) = omega arith in
    e ∙ place_of_cell eight n

-- ---- the filled cells of a grid from place j on, among n
abbrev pub filled_left : Grid → ℕ → ℕ → List Cell
filled_left g j n = keep (λ u. eqb (byte_at g u) 1) (map (cell_at g.sides) (from j n))

module _ (g : Grid) where
  left_all : (v : ℕ) → v ≡ volume g.sides → filled_cells g ≡ filled_left g 0 (v - 0)
  unfolding filled_cells
  left_all v e =
      let z : volume g.sides ≡ v - 0 = omega arith in
      ap (λ (l : List Cell). keep (λ u. eqb (byte_at g u) 1) l) (box_places g.sides) ∙ ap (filled_left g 0) z

  module _ (j v : ℕ) where
    left_more : j < v → filled_left g j (v - j) ≡ cons_if (eqb (get_or g.cells j 0) 1) (cell_at g.sides j) (filled_left g (j + 1) (v - (j + 1)))
    unfolding byte_at
    left_more l =
        let e : v - j ≡ suc (v - (j + 1)) = omega arith in
        rw (e, add-one j, place_of_cell g.sides j)

    left_yes : j < v → get_or g.cells j 0 ≡ 1 → filled_left g j (v - j) ≡ cell_at g.sides j ∷ filled_left g (j + 1) (v - (j + 1))
    left_yes l e = left_more l ∙ rw e

    left_no : j < v → (get_or g.cells j 0 ≡ 1 → ⊥) → filled_left g j (v - j) ≡ filled_left g (j + 1) (v - (j + 1))
    left_no l e = left_more l ∙ rw (ne_eqb (get_or g.cells j 0) 1 e)

-- what stands at n where the rest from n on is known
module _ (us : List Cell) (n : ℕ) (x : Cell) (rest : List Cell) (e : drop n us ≡ x ∷ rest) where
  rest_some : n < length us
  rest_some = let a = length-drop n us in let b = ap length e in omega arith

  rest_parts : get_or us n x ∷ drop (suc n) us ≡ x ∷ rest
  rest_parts = sym (drop-cons us n x rest_some) ∙ e

  rest_first : get_or us n x ≡ x
  rest_first = let e = rest_parts in cc

  rest_next : drop (n + 1) us ≡ rest
  rest_next = let e = rest_parts in let f : drop (suc n) us ≡ rest = cc in ap (λ (k : ℕ). drop k us) (add-one n) ∙ f

-- the codes of the first n filled cells, those before place j, stand in front; u is the cell at place j
pub record ListedTo (g : Grid) (old : List ℕ) (v : ℕ) (codes : List ℕ) (u : Cell) (n j : ℕ) : Type 0 where
  pub within : j ≤ v
  pub few : n ≤ j
  pub most : n ≤ length (filled_cells g)
  pub here : u ≡ cell_at g.sides j
  pub there : codes ≡ paste old 0 (map code_of (filled_cells g)) n
  pub left : drop n (filled_cells g) ≡ filled_left g j (v - j)

module _ (g : Grid) (old : List ℕ) (v : ℕ) (is : v ≡ volume g.sides) (room : v ≤ length old) where
  pub listed_none : (u : Cell) → u ≡ record { x = 0; y = 0; z = 0 } → ListedTo g old v old u 0 0
  unfolding cell_at
  listed_none u e = record {
    within = omega arith;
    few = omega arith;
    most = omega arith;
    here = e ∙ sym (rw (zero-div (g.sides.b * g.sides.c), zero-div g.sides.c, zero-mod g.sides.b, zero-mod g.sides.c));
    there = paste-zero old 0 (map code_of (filled_cells g));
    left = left_all g v is;
  }

  module _ (codes : List ℕ) (u : Cell) (n j : ℕ) (l : ListedTo g old v codes u n j) (h : j < v) where
    pub listed_in : InBox g.sides u
    listed_in = subst (InBox g.sides) (sym l.here) (cell_in_box g.sides j (omega arith))

    further : (w : Cell) → w ≡ cell_at g.sides (place_of g.sides u + 1) → w ≡ cell_at g.sides (j + 1)
    further w e = e ∙ ap (λ (k : ℕ). cell_at g.sides (k + 1)) (ap (place_of g.sides) l.here ∙ place_of_cell g.sides j)

    pub listed_some : get_or g.cells j 0 ≡ 1 → n < length (filled_cells g)
    listed_some b = rest_some (filled_cells g) n (cell_at g.sides j) (filled_left g (j + 1) (v - (j + 1))) (l.left ∙ left_yes g j v h b)

    pub listed_yes : get_or g.cells j 0 ≡ 1 → (w : Cell) → w ≡ cell_at g.sides (place_of g.sides u + 1) → (code : ℕ) → code ≡ code_of u
        → ListedTo g old v (set codes n code) w (n + 1) (j + 1)
    listed_yes b w e code d = record {
      within = omega arith;
      few = omega (arith, l.few);
      most = omega (arith, listed_some b);
      here = further w e;
      there = ap₂ (λ (xs : List ℕ) (x : ℕ). set xs n x) l.there same
          ∙ ap (λ (k : ℕ). set (paste old 0 cs n) k (get_or cs n 0)) (sym (zero-add n))
          ∙ paste-suc old 0 cs n 0 (omega (arith, l.few)) (let a = length-map (filled_cells g) code_of in omega (arith, listed_some b))
          ∙ ap (paste old 0 cs) (sym (add-one n));
      left = rest_next (filled_cells g) n (cell_at g.sides j) (filled_left g (j + 1) (v - (j + 1))) (l.left ∙ left_yes g j v h b);
    }
      where
        cs : List ℕ
        cs = map code_of (filled_cells g)

        same : code ≡ get_or (map code_of (filled_cells g)) n 0
        same =
            let x = cell_at g.sides j in
            d ∙ ap code_of l.here
            ∙ sym (get_or_map x 0 code_of (filled_cells g) n (listed_some b)
            ∙ ap code_of (rest_first (filled_cells g) n x (filled_left g (j + 1) (v - (j + 1))) (l.left ∙ left_yes g j v h b)))

    pub listed_no : (get_or g.cells j 0 ≡ 1 → ⊥) → (w : Cell) → w ≡ cell_at g.sides (place_of g.sides u + 1) → ListedTo g old v codes w n (j + 1)
    listed_no b w e = record {
      within = omega arith;
      few = omega (arith, l.few);
      most = l.most;
      here = further w e;
      there = l.there;
      left = l.left ∙ left_no g j v h b;
    }

  -- all are passed
  pub listed_all : (codes : List ℕ) (u : Cell) (n j : ℕ) → ListedTo g old v codes u n j → v ≤ j
      → (n ≡ length (filled_cells g)) × (codes ≡ paste old 0 (map code_of (filled_cells g)) n)
  listed_all codes u n j l h =
      let z : v - j ≡ 0 = let w = l.within in omega arith in
      let rest : drop n (filled_cells g) ≡ [] = l.left ∙ ap (filled_left g j) z in
      (omega (arith, l.most, length-drop n (filled_cells g), ap length rest), l.there)

-- ---- the first of cells, from the last to the first
lt_first : (a s : Bool) → is_lt (order_by a s) ≡ a
lt_first true s = refl
lt_first false true = refl
lt_first false false = refl

-- the first of the cells whose codes stand from k on
abbrev pub first_from : List ℕ → List ℕ → ℕ → Cell
first_from order codes k = origin (sort (cell_ahead order) (map cell_of (drop k codes)))

module _ (order codes : List ℕ) where
  pub first_none : codes ≡ [] → cell_of 0 ≡ first_from order codes 0
  unfolding origin cell_of
  first_none e = rw e

  first_last : (k : ℕ) → k + 1 ≡ length codes → cell_of (get_or codes k 0) ≡ first_from order codes k
  unfolding origin
  first_last k e =
      let f : drop (suc k) codes ≡ [] = drop_of_length-le codes {i = suc k} (omega arith) in
      rw (drop-cons codes k 0 (omega arith), f)

  -- cells of which there are some, sorted
  sorted_some : (k : ℕ) → k < length codes → sort (cell_ahead order) (map cell_of (drop k codes)) ≡ [] → ⊥
  sorted_some k h e = go (sort (cell_ahead order) (map cell_of (drop (suc k) codes))) (cell_of (get_or codes k 0)) (rw (drop-cons codes k 0 h) at e)
    where
      go : (zs : List Cell) (x : Cell) → put (cell_ahead order) x zs ≡ [] → ⊥
      go [] x e = let z : ◌≡◌ {A = ℕ} 0 1 = ap length (sym e) in omega arith
      go (y ∷ ys) x e = by (cell_ahead order x y) (cell_ahead order y x) e
        where
          by : (b c : Bool) → cond b (x ∷ y ∷ ys) (cond c (y ∷ put (cell_ahead order) x ys) (y ∷ ys)) ≡ [] → ⊥
          by true c e = let z = ap length (sym e) in omega arith
          by false true e = let z = ap length (sym e) in omega arith
          by false false e = let z = ap length (sym e) in omega arith

  first_next : (k : ℕ) → 0 < k → k < length codes → (w : Cell) → w ≡ first_from order codes k → (o : Ordering) → o ≡ cell_order order (cell_of (get_or codes (k - 1) 0)) w
      → cond (is_lt o) (cell_of (get_or codes (k - 1) 0)) w ≡ first_from order codes (k - 1)
  unfolding origin cell_order
  first_next k h l w e o d =
      let x = cell_of (get_or codes (k - 1) 0) in
      let s : suc (k - 1) ≡ k = omega arith in
      let a : is_lt o ≡ cell_ahead order x w = ap is_lt d ∙ lt_first (cell_ahead order x w) _ in
      let us = sort (cell_ahead order) (map cell_of (drop k codes)) in
      ap (λ (b : Bool). cond b x w) a
      ∙ ap (λ (y : Cell). cond (cell_ahead order x y) x y) e
      ∙ sym (first_put (cell_ahead order) (record { x = 0; y = 0; z = 0 }) x us (sorted_some k l))
      ∙ sym (ap (λ (l : List ℕ). head_or (record { x = 0; y = 0; z = 0 }) (sort (cell_ahead order) (map cell_of l)))
      (drop-cons codes (k - 1) 0 (omega arith) ∙ ap (λ (m : ℕ). get_or codes (k - 1) 0 ∷ drop m codes) s))

pub first_start : (order codes : List ℕ) (first : ℕ) → 0 < length codes → first ≡ get_or codes (length codes - 1) 0 → cell_of first ≡ first_from order codes (length codes - 1)
first_start order codes first some e = ap cell_of e ∙ first_last order codes (length codes - 1) (omega arith)

-- a turn of the loop: the cell before those from k on, and how it compares with their first
pub first_step : (order codes : List ℕ) (k : ℕ) → 0 < k → k < length codes → (first : ℕ) → cell_of first ≡ first_from order codes k
    → (u w : Cell) → u ≡ cell_of (get_or codes (k - 1) 0) → w ≡ cell_of first → (o : Ordering) → o ≡ cell_order order u w
    → cond (is_lt o) (cell_of (get_or codes (k - 1) 0)) (cell_of first) ≡ first_from order codes (k - 1)
first_step order codes k some h first e u w a b o f = first_next order codes k some h (cell_of first) e o (f ∙ ap₂ (cell_order order) a b)

-- ---- a pose
codes_back : (us : List Cell) → ((u : Cell) → Memᴰ u us → InBox eight u) → map cell_of (map code_of us) ≡ us
codes_back us f = map-map cell_of code_of us ∙ map_still (λ u. cell_of (code_of u)) us (λ u m. cell_of_code u (f u m))

-- the filled cells of a grid whose sides are at most 8: all have codes, and they are few
pub filled_eight : (g : Grid) → ShortSides g.sides → (u : Cell) → Memᴰ u (filled_cells g) → InBox eight u
filled_eight g f u m = let b = (filled_at g u m).0 in (omega arith, omega arith, omega arith)

pub filled_small : (g : Grid) → ShortSides g.sides → length (filled_cells g) ≤ 512
unfolding filled_cells
filled_small g f =
    let a = keep_length (λ u. eqb (byte_at g u) 1) (box g.sides) in
    let b = ap length (box_places g.sides) ∙ length-map (below (volume g.sides)) (cell_at g.sides) ∙ length_below (volume g.sides) in
    omega (arith, (volume_small g.sides f).1)

origin-in : (us : List Cell) → ((u : Cell) → Memᴰ u us → InBox eight u) → InBox eight (origin us)
unfolding origin
origin-in [] f = (omega arith, omega arith, omega arith)
origin-in (u ∷ us) f = f u (Memᴰ.head refl)

-- as the code writes the pose of a grid: the codes of its filled cells, and that of their first
module _ (order : List ℕ) (g : Grid) (short : ShortSides g.sides) (pose : Pose) (long : length pose.codes ≡ 512) (n : ℕ) (many : n ≡ length (filled_cells g)) (codes : List ℕ)
    (written : codes ≡ paste pose.codes 0 (map code_of (filled_cells g)) n) (first : ℕ)
    (found : cell_of first ≡ origin (sort (cell_ahead order) (map cell_of (take n codes)))) where
  abbrev written_pose : Pose
  written_pose = record { size = n; codes = codes; origin = first }

  codes_cells : map cell_of (take n codes) ≡ filled_cells g
  codes_cells =
      let us = filled_cells g in
      let long-codes = length-map us code_of in
      let few = filled_small g short in
      ap (λ (xs : List ℕ). map cell_of (take n xs)) written
      ∙ ap (map cell_of) (pasted_there pose.codes (map code_of us) 0 n (omega arith) (omega arith) ∙ take_all n (map code_of us) (omega arith))
      ∙ codes_back us (filled_eight g short)

  first_is : cell_of first ≡ origin (sort (cell_ahead order) (filled_cells g))
  first_is = found ∙ ap (λ (us : List Cell). origin (sort (cell_ahead order) us)) codes_cells

  pub pose_of : PoseOf order g written_pose
  unfolding cells_in origin_in variant_in
  pose_of =
      record {
        stands = record { small = (let few = filled_small g short in omega arith); origin_is = found };
        cells = codes_cells;
      }

  pub pose_written : written_pose ≡ with_pose order (filled_cells g) pose
  unfolding with_pose
  pose_written =
      ap (λ (k : ℕ). record { size = k; codes = codes; origin = first }) many
      ∙ ap₂ (λ (xs : List ℕ) (x : ℕ). record { size = length (filled_cells g); codes = xs; origin = x })
      (written ∙ ap (paste pose.codes 0 (map code_of (filled_cells g))) many) (sym (code_of_cell first) ∙ ap code_of first_is)

-- ---- the turned grids of a grid as poses
-- grids with the same bytes in their boxes have the same filled cells
same_filled : (s : Sides) (xs ys : List ℕ) → ((i : ℕ) → i < volume s → get_or xs i 0 ≡ get_or ys i 0)
    → filled_cells (record { sides = s; cells = xs }) ≡ filled_cells (record { sides = s; cells = ys })
unfolding filled_cells byte_at
same_filled s xs ys f = keep_same _ _ (box s) (λ u m. ap (λ (b : ℕ). eqb b 1) (f (place_of s u) (place_lt s u (box_at s u m))))

-- a turned grid in front of a list has its filled cells
pub turned_filled : (n : ℕ) (g : Grid) (old new : List ℕ) (t : Sides) → volume g.sides ≤ length old → new ≡ paste old 0 (map_grid (map_of n) g).cells (volume g.sides)
    → t ≡ map_sides (map_of n) g.sides → filled_cells (record { sides = t; cells = new }) ≡ filled_cells (map_grid (map_of n) g)
turned_filled n g old new t room is e =
    ap (λ (s : Sides). filled_cells (record { sides = s; cells = new })) (e ∙ sym (mapped_sides (map_of n) g))
    ∙ same_filled (map_grid (map_of n) g).sides new (map_grid (map_of n) g).cells bytes
  where
    bytes : (i : ℕ) → i < volume (map_grid (map_of n) g).sides → get_or new i 0 ≡ get_or (map_grid (map_of n) g).cells i 0
    bytes i h =
        let long = turned_length n g in
        let a : i < volume g.sides = omega (arith, ap volume (mapped_sides (map_of n) g), map_volume n g.sides) in
        let there : take (volume g.sides) new ≡ take (volume g.sides) (map_grid (map_of n) g).cells =
        ap (take (volume g.sides)) is ∙ pasted_there old (map_grid (map_of n) g).cells 0 (volume g.sides) (omega arith) (omega arith) in
        sym (get_or-take (volume g.sides) new i 0 a) ∙ ap (λ (xs : List ℕ). get_or xs i 0) there ∙ get_or-take (volume g.sides) (map_grid (map_of n) g).cells i 0 a

-- the grid that number j makes of a grid
abbrev pub made_at : Grid → List ℕ → ℕ → Grid
made_at g turnings j = map_grid (map_of (get_or turnings j 0)) g

-- the poses of the grids that the first i numbers make
pub record PosedTo (order : List ℕ) (g : Grid) (turnings : List ℕ) (list : List Pose) (i : ℕ) : Type 0 where
  pub long : length list ≡ 24
  pub each : (j : ℕ) → j < i → PoseOf order (made_at g turnings j) (get_or list j no_pose)

pub posed_none : (order : List ℕ) (g : Grid) (turnings : List ℕ) (list : List Pose) → length list ≡ 24 → PosedTo order g turnings list 0
posed_none order g turnings list long = record { long = long; each = λ j h. absurd (omega arith) }

module _ (order : List ℕ) (g : Grid) (turnings : List ℕ) where
  pub posed_next : (list : List Pose) (i : ℕ) → i < 24 → PosedTo order g turnings list i → (h : Grid) → filled_cells h ≡ filled_cells (made_at g turnings i)
      → (new : Pose) → PoseOf order h new → PosedTo order g turnings (set list i new) (i + 1)
  posed_next list i l p h e new q = record {
    long = length-set list i new ∙ p.long;
    each = below_more (λ j. PoseOf order (made_at g turnings j) (get_or (set list i new) j no_pose)) i
        (λ j k. subst (PoseOf order (made_at g turnings j)) (sym (get_or-set_other list i j new no_pose (λ e. omega arith))) (p.each j k))
        (subst (PoseOf order (made_at g turnings i)) (sym (get_or-set_same list i new no_pose (let long = p.long in omega arith)))
        (record { stands = q.stands; cells = q.cells ∙ e }));
  }

  pub posed_all : (poses : Poses) → PosedTo order g turnings poses.list (length turnings) → length turnings ≤ 24 → poses.count ≡ length turnings
      → Posed order (turned_by g turnings) poses
  unfolding turned_by
  posed_all poses p most many = record {
    stand = record { few = omega arith; each = λ j h. (p.each j (omega arith)).stands };
    many = many ∙ sym (length-map turnings make);
    cells = sym (map_entries cells_in no_pose listed)
        ∙ ap (λ (k : ℕ). map (λ j. cells_in (get_or listed j no_pose)) (below k)) (length-take-le poses.count poses.list (let long = p.long in omega arith) ∙ many)
        ∙ map_same (λ j. cells_in (get_or listed j no_pose)) (λ j. filled_cells (make (get_or turnings j 0))) (below (length turnings))
        (λ j m. let h = below_at (length turnings) m in ap cells_in (get_or-take poses.count poses.list j no_pose (omega arith)) ∙ (p.each j h).cells)
        ∙ map_entries (λ k. filled_cells (make k)) 0 turnings
        ∙ sym (map-map filled_cells make turnings);
  }
    where
      make : ℕ → Grid
      make k = map_grid (map_of k) g

      listed : List Pose
      listed = take poses.count poses.list

-- all that stands there then
pub poses_none : (order : List ℕ) (f : ℕ → List Cell) (old : Poses) → old ≡ with_poses order f 0 old
unfolding with_poses
poses_none order f old = refl

pub poses_next : (order : List ℕ) (f : ℕ → List Cell) (old poses : Poses) (i : ℕ) → poses ≡ with_poses order f i old → (us : List Cell) → us ≡ f i
    → (new : Pose) → new ≡ with_pose order us (get_or poses.list i no_pose) → record poses { list = set poses.list i new } ≡ with_poses order f (i + 1) old
unfolding with_poses
poses_next order f old poses i p us e new is =
    ap (λ (q : Pose). record poses { list = set poses.list i q }) (is ∙ ap (λ (vs : List Cell). with_pose order vs (get_or poses.list i no_pose)) e)
    ∙ ap (λ (l : Poses). record l { list = set l.list i (with_pose order (f i) (get_or l.list i no_pose)) }) p
    ∙ ap (λ (n : ℕ). with_poses order f n old) (sym (add-one i))

-- the variants that poses of grids stand for, in an order of the axes that the code knows under another name
module _ (order o : List ℕ) (gs : List Grid) (poses : Poses) (same : o ≡ order) (p : Posed order gs poses) where
  pub posed_stand : Standing o poses
  posed_stand = subst (λ (l : List ℕ). Standing l poses) (sym same) p.stand

  pub posed_make : variants_in o poses ≡ map (scan order) gs
  unfolding variants_in variant_in scan
  posed_make =
      let listed = take poses.count poses.list in
      ap (λ (l : List ℕ). map (λ pose. sort (cell_ahead l) (cells_in pose)) listed) same
      ∙ sym (map-map (sort (cell_ahead order)) cells_in listed) ∙ ap (map (sort (cell_ahead order))) p.cells
      ∙ map-map (sort (cell_ahead order)) filled_cells gs

-- ---- the filled cells of a pose by their numbers
pub cells_numbered : (pose : Pose) → pose.size ≤ length pose.codes → cells_in pose ≡ map (λ k. cell_of (get_or pose.codes k 0)) (below pose.size)
unfolding cells_in
cells_numbered pose room =
    let xs = take pose.size pose.codes in
    sym (map_entries cell_of 0 xs)
    ∙ ap (λ (n : ℕ). map (λ k. cell_of (get_or xs k 0)) (below n)) (length-take-le pose.size pose.codes room)
    ∙ map_same (λ k. cell_of (get_or xs k 0)) (λ k. cell_of (get_or pose.codes k 0)) (below pose.size)
    (λ k m. ap cell_of (get_or-take pose.size pose.codes k 0 (below_at pose.size m)))
