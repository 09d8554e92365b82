-- A grid without its empty outer layers: the stripped grid is tight and has the grid's filled cells, moved by the corner; bits, whole cells and the number of filled
-- cells stay. Assumes nothing.
use Prim.Native.Nat.{ℕ, zero, suc, ◌+◌, ◌≤◌, ◌<◌, min, max}
use mathlib.Core.Bool.{Bool, true, false, cond, not, ◌&&◌}
use mathlib.Core.List.Memᴰ
use mathlib.Core.List.{List, [], ◌∷◌, map, Memᴰ}
use mathlib.Core.Path.{◌≡◌, refl, sym, ap, ◌∙◌, subst}
use mathlib.Core.Logic.{◌⊎◌, inl, inr}
use native.Mathlib.Omega.{arith}
use lib.Dec.{T, leb, ltb, eqb, eqb→eq, leb→le, le→leb, ltb→lt, lt→ltb}
use lib.ListN.{length, length-map}
use Rattle.lists.specs.Lists.{cons_if, keep, each, below, is_empty, sum}
use Rattle.lists.proofs.TestLaws.{and_left, and_right, and_both, is_false, eqb_of, decide, clash}
use Rattle.lists.proofs.ListLaws.{each_empty, keep_one_each, keep_same, keep_each, all_of, any_of, any_at, map_each, each_same}
use Rattle.lists.proofs.RangeLaws.{each_window}
use Rattle.lists.proofs.CountLaws.{total_same, how_many_total, how_many_length, sum_map}
use Rattle.definitions.specs.Grid.{set_down, Sides, Cell, Grid, box, volume, byte_at, grid_with, filled_cells, InBox}
use Rattle.definitions.specs.Maps.{coordinate}
use Rattle.theorems.proofs.MapLaws.{box_at, byte_with, filled_at, filled_of}
use Rattle.theorems.proofs.GroupLaws.{bytes_whole}
use Rattle.theorems.proofs.GridLaws.{length_box, byte_bit}
use Rattle.definitions.specs.Refusals.{are_bits, some_filled, filled_where, is_tight}
use Rattle.definitions.specs.EmptyLayers.{Stripped}
use Rattle.definitions.specs.Stripping.{least_of, largest_of, along, corner, span, spanned, strip, FitsIn, frame_of}

-- ---- the least and the largest of some numbers
pub least_in : (xs : List ℕ) → T (not (is_empty xs)) → Memᴰ (least_of xs) xs
least_in [] t = absurd t
least_in (x ∷ []) t = Memᴰ.head refl
least_in (x ∷ y ∷ xs) t = go (least_in (y ∷ xs) tt) (decide (leb x (least_of (y ∷ xs))))
  where
    go : Memᴰ (least_of (y ∷ xs)) (y ∷ xs) → T (leb x (least_of (y ∷ xs))) ⊎ T (not (leb x (least_of (y ∷ xs)))) → Memᴰ (min x (least_of (y ∷ xs))) (x ∷ y ∷ xs)
    go m (inl s) = let h = leb→le x (least_of (y ∷ xs)) s in let e : min x (least_of (y ∷ xs)) ≡ x = omega arith in Memᴰ.head e
    go m (inr s) =
        let h : x ≤ least_of (y ∷ xs) → ⊥ = λ p. clash (leb x (least_of (y ∷ xs))) (le→leb x (least_of (y ∷ xs)) p) s in
        let e : min x (least_of (y ∷ xs)) ≡ least_of (y ∷ xs) = omega (arith, h) in
        Memᴰ.tail (Memᴰ.cast e m)

pub least_le : (xs : List ℕ) {x : ℕ} → Memᴰ x xs → least_of xs ≤ x
least_le [] m = absurd (Memᴰ.not-nil m)
least_le (y ∷ []) {x} m = go (Memᴰ.cases_cons m)
  where
    go : (x ≡ y) ⊎ Memᴰ x [] → y ≤ x
    go (inl e) = omega arith
    go (inr k) = absurd (Memᴰ.not-nil k)
least_le (y ∷ z ∷ xs) {x} m = go (Memᴰ.cases_cons m) (λ (k : Memᴰ x (z ∷ xs)). least_le (z ∷ xs) k)
  where
    go : (x ≡ y) ⊎ Memᴰ x (z ∷ xs) → (Memᴰ x (z ∷ xs) → least_of (z ∷ xs) ≤ x) → min y (least_of (z ∷ xs)) ≤ x
    go (inl e) f = omega arith
    go (inr k) f = let h = f k in omega arith

pub largest_in : (xs : List ℕ) → T (not (is_empty xs)) → Memᴰ (largest_of xs) xs
largest_in [] t = absurd t
largest_in (x ∷ []) t = let e : max x 0 ≡ x = omega arith in Memᴰ.head e
largest_in (x ∷ y ∷ xs) t = go (largest_in (y ∷ xs) tt) (decide (leb (largest_of (y ∷ xs)) x))
  where
    go : Memᴰ (largest_of (y ∷ xs)) (y ∷ xs) → T (leb (largest_of (y ∷ xs)) x) ⊎ T (not (leb (largest_of (y ∷ xs)) x)) → Memᴰ (max x (largest_of (y ∷ xs))) (x ∷ y ∷ xs)
    go m (inl s) = let h = leb→le (largest_of (y ∷ xs)) x s in let e : max x (largest_of (y ∷ xs)) ≡ x = omega arith in Memᴰ.head e
    go m (inr s) =
        let h : largest_of (y ∷ xs) ≤ x → ⊥ = λ p. clash (leb (largest_of (y ∷ xs)) x) (le→leb (largest_of (y ∷ xs)) x p) s in
        let e : max x (largest_of (y ∷ xs)) ≡ largest_of (y ∷ xs) = omega (arith, h) in
        Memᴰ.tail (Memᴰ.cast e m)

pub largest_ge : (xs : List ℕ) {x : ℕ} → Memᴰ x xs → x ≤ largest_of xs
largest_ge [] m = absurd (Memᴰ.not-nil m)
largest_ge (y ∷ xs) {x} m = go (Memᴰ.cases_cons m) (λ (k : Memᴰ x xs). largest_ge xs k)
  where
    go : (x ≡ y) ⊎ Memᴰ x xs → (Memᴰ x xs → x ≤ largest_of xs) → x ≤ max y (largest_of xs)
    go (inl e) f = omega arith
    go (inr k) f = let h = f k in omega arith

-- ---- along one axis: the numbers f takes on the cells us begin at `least_of` and span `span`
module _ (f : Cell → ℕ) (us : List Cell) (some : T (not (is_empty us))) where
  map_some : T (not (is_empty (map f us)))
  map_some = go us some
    where
      go : (xs : List Cell) → T (not (is_empty xs)) → T (not (is_empty (map f xs)))
      go [] t = t
      go (x ∷ xs) t = tt

  axis_low : (u : Cell) × Memᴰ u us × (f u ≡ least_of (map f us))
  axis_low = Memᴰ.of_map f us (least_in (map f us) map_some)

  axis_high : (u : Cell) × Memᴰ u us × (f u ≡ largest_of (map f us))
  axis_high = Memᴰ.of_map f us (largest_in (map f us) map_some)

  axis_from : (u : Cell) → Memᴰ u us → least_of (map f us) ≤ f u
  axis_from u m = least_le (map f us) (Memᴰ.map f m)

  axis_to : (u : Cell) → Memᴰ u us → f u < least_of (map f us) + span (map f us)
  unfolding span
  axis_to u m = let a = axis_from u m in let b = largest_ge (map f us) (Memᴰ.map f m) in omega arith

  axis_end : largest_of (map f us) + 1 ≡ least_of (map f us) + span (map f us)
  unfolding span
  axis_end = let r = axis_low in let b = axis_high.2 in let a = largest_ge (map f us) (Memᴰ.map f r.1) in let e = r.2 in omega arith

  axis_fits : (n : ℕ) → ((u : Cell) → Memᴰ u us → f u < n) → least_of (map f us) + span (map f us) ≤ n
  axis_fits n h = let r = axis_high in let a = h r.0 r.1 in let b = r.2 in let e = axis_end in omega arith

  axis_some : 1 ≤ span (map f us)
  axis_some = let r = axis_low in let a = axis_to r.0 r.1 in let b = r.2 in omega arith

-- ---- the filled cells of a grid, axis by axis
cell_of : ℕ → ℕ → ℕ → Cell
cell_of i j k = record { x = i; y = j; z = k }

-- the cells of a box that pass a test
module _ (p : Cell → Bool) where
  spot : ℕ → ℕ → ℕ → List Cell
  spot i j k = cons_if (p (cell_of i j k)) (cell_of i j k) []

  by_axes : (s : Sides) → keep p (box s) ≡ each (below s.a) (λ i. each (below s.b) (λ j. each (below s.c) (spot i j)))
  unfolding box cell_of spot
  by_axes s =
      keep_each p (λ i. each (below s.b) (λ j. map (cell_of i j) (below s.c))) (below s.a)
      ∙ each_same (λ i. keep p (each (below s.b) (λ j. map (cell_of i j) (below s.c)))) (λ i. each (below s.b) (λ j. each (below s.c) (spot i j))) (below s.a)
      (λ i. keep_each p (λ j. map (cell_of i j) (below s.c)) (below s.b)
      ∙ each_same (λ j. keep p (map (cell_of i j) (below s.c))) (λ j. each (below s.c) (spot i j)) (below s.b) (λ j. keep_one_each p (cell_of i j) (below s.c)))

  none_there : (i j k : ℕ) → (T (p (cell_of i j k)) → ⊥) → spot i j k ≡ []
  unfolding spot
  none_there i j k h = ap (λ (b : Bool). cons_if b (cell_of i j k) []) (is_false (p (cell_of i j k)) h)

-- a box of which only a window has cells that pass: they are those of the window, set down
keep_window : (p : Cell → Bool) (n m : Sides) (at : Cell) → at.x + m.a ≤ n.a → at.y + m.b ≤ n.b → at.z + m.c ≤ n.c
    → ((u : Cell) → T (p u) → ((at.x ≤ u.x) × (u.x < at.x + m.a)) × ((at.y ≤ u.y) × (u.y < at.y + m.b)) × ((at.z ≤ u.z) × (u.z < at.z + m.c)))
    → keep p (box n) ≡ map (set_down at) (keep (λ u. p (set_down at u)) (box m))
unfolding set_down cell_of spot
keep_window p n m at ha hb hc inside =
    by_axes p n
    ∙ each_window (λ i. each (below n.b) (λ j. each (below n.c) (spot p i j))) at.x m.a n.a ha
    (λ i o. each_empty (λ j. each (below n.c) (spot p i j)) (below n.b) (λ j. each_empty (spot p i j) (below n.c) (λ k. none_there p i j k (λ t. out at.x m.a i o (inside (cell_of i j k) t).0))))
    ∙ each_same (λ i. each (below n.b) (λ j. each (below n.c) (spot p (at.x + i) j))) (λ i. each (below m.b) (λ j. each (below n.c) (spot p (at.x + i) (at.y + j)))) (below m.a)
    (λ i. each_window (λ j. each (below n.c) (spot p (at.x + i) j)) at.y m.b n.b hb
    (λ j o. each_empty (spot p (at.x + i) j) (below n.c) (λ k. none_there p (at.x + i) j k (λ t. out at.y m.b j o (inside (cell_of (at.x + i) j k) t).1))))
    ∙ each_same (λ i. each (below m.b) (λ j. each (below n.c) (spot p (at.x + i) (at.y + j)))) (λ i. each (below m.b) (λ j. each (below m.c) (λ k. map (set_down at) (spot q i j k)))) (below m.a)
    (λ i. each_same (λ j. each (below n.c) (spot p (at.x + i) (at.y + j))) (λ j. each (below m.c) (λ k. map (set_down at) (spot q i j k))) (below m.b)
    (λ j. each_window (spot p (at.x + i) (at.y + j)) at.z m.c n.c hc
    (λ k o. none_there p (at.x + i) (at.y + j) k (λ t. out at.z m.c k o (inside (cell_of (at.x + i) (at.y + j) k) t).2))
    ∙ each_same (λ k. spot p (at.x + i) (at.y + j) (at.z + k)) (λ k. map (set_down at) (spot q i j k)) (below m.c) (λ k. moved i j k)))
    ∙ sym (
    ap (map (set_down at)) (by_axes q m)
    ∙ map_each (set_down at) (λ i. each (below m.b) (λ j. each (below m.c) (spot q i j))) (below m.a)
    ∙ each_same (λ i. map (set_down at) (each (below m.b) (λ j. each (below m.c) (spot q i j)))) (λ i. each (below m.b) (λ j. each (below m.c) (λ k. map (set_down at) (spot q i j k)))) (below m.a)
    (λ i. map_each (set_down at) (λ j. each (below m.c) (spot q i j)) (below m.b)
    ∙ each_same (λ j. map (set_down at) (each (below m.c) (spot q i j))) (λ j. each (below m.c) (λ k. map (set_down at) (spot q i j k))) (below m.b) (λ j. map_each (set_down at) (spot q i j) (below m.c))))
  where
    q : Cell → Bool
    q u = p (set_down at u)

    out : (lo w i : ℕ) → (i < lo) ⊎ (lo + w ≤ i) → (lo ≤ i) × (i < lo + w) → ⊥
    out lo w i (inl h) r = omega arith
    out lo w i (inr h) r = omega arith

    moved : (i j k : ℕ) → spot p (at.x + i) (at.y + j) (at.z + k) ≡ map (set_down at) (spot q i j k)
    moved i j k = go (q (cell_of i j k))
      where
        go : (b : Bool) → cons_if b (cell_of (at.x + i) (at.y + j) (at.z + k)) [] ≡ map (set_down at) (cons_if b (cell_of i j k) [])
        go true = refl
        go false = refl

-- the same where the test is known for the cells of the box alone
pub keep_within : (p : Cell → Bool) (n m : Sides) (at : Cell) → at.x + m.a ≤ n.a → at.y + m.b ≤ n.b → at.z + m.c ≤ n.c
    → ((u : Cell) → InBox n u → T (p u) → ((at.x ≤ u.x) × (u.x < at.x + m.a)) × ((at.y ≤ u.y) × (u.y < at.y + m.b)) × ((at.z ≤ u.z) × (u.z < at.z + m.c)))
    → keep p (box n) ≡ map (set_down at) (keep (λ u. p (set_down at u)) (box m))
unfolding set_down
keep_within p n m at ha hb hc inside =
    keep_same p p' (box n) (λ u k. both (p u) (within u) (there u (box_at n u k)))
    ∙ keep_window p' n m at ha hb hc (λ u t. inside u (in_there u (and_right (p u) (within u) t)) (and_left (p u) (within u) t))
    ∙ ap (map (set_down at)) (keep_same (λ u. p' (set_down at u)) (λ u. p (set_down at u)) (box m)
    (λ u k. let r = box_at m u k in let x = r.0 in let y = r.1 in let z = r.2 in
    sym (both (p (set_down at u)) (within (set_down at u)) (there (set_down at u) (omega arith, omega arith, omega arith)))))
  where
    within : Cell → Bool
    within u = ltb u.x n.a && (ltb u.y n.b && ltb u.z n.c)

    p' : Cell → Bool
    p' u = p u && within u

    there : (u : Cell) → InBox n u → T (within u)
    there u b = and_both (ltb u.x n.a) (ltb u.y n.b && ltb u.z n.c) (lt→ltb u.x n.a b.0) (and_both (ltb u.y n.b) (ltb u.z n.c) (lt→ltb u.y n.b b.1) (lt→ltb u.z n.c b.2))

    in_there : (u : Cell) → T (within u) → InBox n u
    in_there u t =
        let r = and_right (ltb u.x n.a) (ltb u.y n.b && ltb u.z n.c) t in
        (ltb→lt u.x n.a (and_left (ltb u.x n.a) (ltb u.y n.b && ltb u.z n.c) t), ltb→lt u.y n.b (and_left (ltb u.y n.b) (ltb u.z n.c) r), ltb→lt u.z n.c (and_right (ltb u.y n.b) (ltb u.z n.c) r))

    both : (a b : Bool) → T b → a ≡ a && b
    both true true t = refl
    both false true t = refl
    both a false t = absurd t

-- ---- a grid given by its bytes
pub with_whole : (s : Sides) (f : Cell → ℕ) → length (grid_with s f).cells ≡ volume (grid_with s f).sides
unfolding grid_with
with_whole s f = length-map (box s) f ∙ length_box s

pub with_bits : (s : Sides) (f : Cell → ℕ) → ((u : Cell) → f u ≤ 1) → T (are_bits (grid_with s f))
unfolding grid_with are_bits
with_bits s f h = all_of (λ n. leb n 1) (map f (box s)) (λ n k. let r = Memᴰ.of_map f (box s) k in subst (λ (i : ℕ). T (leb i 1)) r.2 (le→leb (f r.0) 1 (h r.0)))

-- ---- a grid with a filled cell, stripped
module _ (g : Grid) (some : T (not (is_empty (filled_cells g)))) where
  abbrev us : List Cell
  us = filled_cells g

  abbrev X : Cell → ℕ
  X u = u.x

  abbrev Y : Cell → ℕ
  Y u = u.y

  abbrev Z : Cell → ℕ
  Z u = u.z

  -- each filled cell lies in the window, and the window in the box
  in_window : (u : Cell) → Memᴰ u us
      → (((corner g).x ≤ u.x) × (u.x < (corner g).x + (spanned g).a)) × (((corner g).y ≤ u.y) × (u.y < (corner g).y + (spanned g).b)) × (((corner g).z ≤ u.z) × (u.z < (corner g).z + (spanned g).c))
  unfolding corner spanned along coordinate
  in_window u m = ((axis_from X us some u m, axis_to X us some u m), (axis_from Y us some u m, axis_to Y us some u m), (axis_from Z us some u m, axis_to Z us some u m))

  window_fits : ((corner g).x + (spanned g).a ≤ g.sides.a) × ((corner g).y + (spanned g).b ≤ g.sides.b) × ((corner g).z + (spanned g).c ≤ g.sides.c)
  unfolding corner spanned along coordinate
  window_fits = (axis_fits X us some g.sides.a (λ u m. (filled_at g u m).0.0), axis_fits Y us some g.sides.b (λ u m. (filled_at g u m).0.1), axis_fits Z us some g.sides.c (λ u m. (filled_at g u m).0.2))

  spans_some : (1 ≤ (spanned g).a) × (1 ≤ (spanned g).b) × (1 ≤ (spanned g).c)
  unfolding spanned along coordinate
  spans_some = (axis_some X us some, axis_some Y us some, axis_some Z us some)

  abbrev h : Grid
  h = grid_with (spanned g) (λ u. byte_at g (set_down (corner g) u))

  pub strip_is : strip g ≡ h
  unfolding strip
  strip_is = ap (λ (b : Bool). cond b g h) (is_false (is_empty us) (λ t. clash (is_empty us) t some))

  cells_moved : filled_cells g ≡ map (set_down (corner g)) (filled_cells h)
  unfolding filled_cells grid_with
  cells_moved =
      keep_within (λ u. eqb (byte_at g u) 1) g.sides (spanned g) (corner g) window_fits.0 window_fits.1 window_fits.2 (λ u b t. in_window u (filled_of g u b (eqb→eq (byte_at g u) 1 t)))
      ∙ ap (map (set_down (corner g))) (keep_same (λ u. eqb (byte_at g (set_down (corner g) u)) 1) (λ u. eqb (byte_at h u) 1) (box (spanned g))
      (λ u k. ap (λ (n : ℕ). eqb n 1) (sym (byte_with (spanned g) (λ v. byte_at g (set_down (corner g) v)) u (box_at (spanned g) u k)))))

  -- each axis has a filled cell at both ends
  back_in : (u : Cell) → Memᴰ u us → (v : Cell) × Memᴰ v (filled_cells h) × (set_down (corner g) v ≡ u)
  back_in u m = Memᴰ.of_map (set_down (corner g)) (filled_cells h) (subst (λ (l : List Cell). Memᴰ u l) cells_moved m)

  low_end : (f : Cell → ℕ) → ((v : Cell) → f (set_down (corner g) v) ≡ f (corner g) + f v) → f (corner g) ≡ least_of (map f us) → T (filled_where h (λ u. eqb (f u) 0))
  unfolding filled_where
  low_end f add e =
      let r = axis_low f us some in
      let b = back_in r.0 r.1 in
      let w = add b.0 in
      let x = r.2 in
      let y = ap f b.2 in
      let z : f b.0 ≡ 0 = omega arith in
      any_of (λ u. eqb (f u) 0) (filled_cells h) b.1 (eqb_of z)

  high_end : (f : Cell → ℕ) → ((v : Cell) → f (set_down (corner g) v) ≡ f (corner g) + f v) → f (corner g) ≡ least_of (map f us) → T (filled_where h (λ u. eqb (f u + 1) (span (map f us))))
  unfolding filled_where
  high_end f add e =
      let r = axis_high f us some in
      let b = back_in r.0 r.1 in
      let w = add b.0 in
      let x = r.2 in
      let y = ap f b.2 in
      let q = axis_end f us some in
      let z : f b.0 + 1 ≡ span (map f us) = omega arith in
      any_of (λ u. eqb (f u + 1) (span (map f us))) (filled_cells h) b.1 (eqb_of z)

  is-tight : T (is_tight h)
  unfolding is_tight set_down corner spanned along coordinate grid_with
  is-tight =
      six (filled_where h (λ u. eqb u.x 0)) (filled_where h (λ u. eqb (u.x + 1) h.sides.a)) (filled_where h (λ u. eqb u.y 0)) (filled_where h (λ u. eqb (u.y + 1) h.sides.b)) (filled_where h (λ u. eqb u.z 0)) (filled_where h (λ u. eqb (u.z + 1) h.sides.c))
      (low_end X (λ v. refl) refl) (high_end X (λ v. refl) refl) (low_end Y (λ v. refl) refl) (high_end Y (λ v. refl) refl) (low_end Z (λ v. refl) refl) (high_end Z (λ v. refl) refl)
    where
      six : (a b c d e f : Bool) → T a → T b → T c → T d → T e → T f → T (a && (b && (c && (d && (e && f)))))
      six a b c d e f p q r s t u = and_both a (b && (c && (d && (e && f)))) p (and_both b (c && (d && (e && f))) q (and_both c (d && (e && f)) r (and_both d (e && f) s (and_both e f t u))))

  stripped_h : T (are_bits g) → Stripped g h (corner g)
  stripped_h bits = record { cells = cells_moved; tight = is-tight; bits = with_bits (spanned g) (λ u. byte_at g (set_down (corner g) u)) (λ u. byte_bit g bits (set_down (corner g) u)); whole = with_whole (spanned g) (λ u. byte_at g (set_down (corner g) u)) }

-- ---- what the stripped grid is
-- a filled byte is a filled cell, and the other way round
pub some_cell : (g : Grid) → length g.cells ≡ volume g.sides → T (some_filled g) → T (not (is_empty (filled_cells g)))
unfolding some_filled
some_cell g whole t =
    let r = any_at (eqb 1) g.cells t in
    let m = Memᴰ.of_map (byte_at g) (box g.sides) (subst (λ (l : List ℕ). Memᴰ r.0 l) (sym (bytes_whole g whole)) r.1) in
    has (filled_cells g) (filled_of g m.0 (box_at g.sides m.0 m.1) (m.2 ∙ sym (eqb→eq 1 r.0 r.2)))
  where
    has : (xs : List Cell) {x : Cell} → Memᴰ x xs → T (not (is_empty xs))
    has [] k = absurd (Memᴰ.not-nil k)
    has (y ∷ ys) k = tt

pub strip_right : (g : Grid) → T (are_bits g) → length g.cells ≡ volume g.sides → T (some_filled g) → Stripped g (strip g) (corner g)
strip_right g bits whole t = let some = some_cell g whole t in subst (λ (k : Grid). Stripped g k (corner g)) (sym (strip_is g some)) (stripped_h g some bits)

pub strip_empty : (g : Grid) → filled_cells g ≡ [] → strip g ≡ g
unfolding strip
strip_empty g e = ap (λ (l : List Cell). cond (is_empty l) g (grid_with (spanned g) (λ u. byte_at g (set_down (corner g) u)))) e

-- ---- with or without a filled cell
-- some filled cell, or none
pub some_or_none : (g : Grid) → T (not (is_empty (filled_cells g))) ⊎ (filled_cells g ≡ [])
some_or_none g = go (filled_cells g)
  where
    go : (xs : List Cell) → T (not (is_empty xs)) ⊎ (xs ≡ [])
    go [] = inr refl
    go (x ∷ xs) = inl tt

pub stripped_of : (g : Grid) → T (are_bits g) → T (not (is_empty (filled_cells g))) → Stripped g (strip g) (corner g)
stripped_of g bits some = subst (λ (k : Grid). Stripped g k (corner g)) (sym (strip_is g some)) (stripped_h g some bits)

-- bits stay bits, whole cells stay whole, and as many are filled, whether or not any is
pub strip_bits : (g : Grid) → T (are_bits g) → T (are_bits (strip g))
strip_bits g bits = go (some_or_none g)
  where
    go : T (not (is_empty (filled_cells g))) ⊎ (filled_cells g ≡ []) → T (are_bits (strip g))
    go (inl some) = (stripped_of g bits some).bits
    go (inr e) = subst (λ (k : Grid). T (are_bits k)) (sym (strip_empty g e)) bits

pub strip_whole : (g : Grid) → length g.cells ≡ volume g.sides → length (strip g).cells ≡ volume (strip g).sides
strip_whole g whole = go (some_or_none g)
  where
    go : T (not (is_empty (filled_cells g))) ⊎ (filled_cells g ≡ []) → length (strip g).cells ≡ volume (strip g).sides
    go (inl some) =
        subst (λ (k : Grid). length k.cells ≡ volume k.sides) (sym (strip_is g some)) (with_whole (spanned g) (λ u. byte_at g (set_down (corner g) u)))
    go (inr e) = subst (λ (k : Grid). length k.cells ≡ volume k.sides) (sym (strip_empty g e)) whole

pub strip_count : (g : Grid) → length (filled_cells (strip g)) ≡ length (filled_cells g)
strip_count g = go (some_or_none g)
  where
    go : T (not (is_empty (filled_cells g))) ⊎ (filled_cells g ≡ []) → length (filled_cells (strip g)) ≡ length (filled_cells g)
    go (inl some) =
        ap (λ (k : Grid). length (filled_cells k)) (strip_is g some)
        ∙ sym (ap length (cells_moved g some) ∙ length-map (filled_cells (grid_with (spanned g) (λ u. byte_at g (set_down (corner g) u)))) (set_down (corner g)))
    go (inr e) = ap (λ (k : Grid). length (filled_cells k)) (strip_empty g e)

-- and so none is filled exactly if none was
pub strip_none : (g : Grid) → is_empty (filled_cells (strip g)) ≡ is_empty (filled_cells g)
strip_none g = go (filled_cells (strip g)) (filled_cells g) (strip_count g)
  where
    go : (us vs : List Cell) → length us ≡ length vs → is_empty us ≡ is_empty vs
    go [] [] e = refl
    go [] (v ∷ vs) e = absurd (omega arith)
    go (u ∷ us) [] e = absurd (omega arith)
    go (u ∷ us) (v ∷ vs) e = refl

-- a grid of bits adds up to its filled cells; so stripping keeps the sum (refusal 9)
pub sum_bits : (g : Grid) → T (are_bits g) → length g.cells ≡ volume g.sides → sum g.cells ≡ length (filled_cells g)
unfolding filled_cells
sum_bits g t whole =
    ap sum (sym (bytes_whole g whole)) ∙ sum_map (byte_at g) (box g.sides) ∙ total_same (byte_at g) (λ u. cond (eqb (byte_at g u) 1) 1 0) (box g.sides) (λ u k. bit (byte_at g u) (byte_bit g t u))
    ∙ sym (how_many_total (λ u. eqb (byte_at g u) 1) (box g.sides)) ∙ how_many_length (λ u. eqb (byte_at g u) 1) (box g.sides)
  where
    bit : (n : ℕ) → n ≤ 1 → n ≡ cond (eqb n 1) 1 0
    bit zero h = refl
    bit (suc zero) h = refl
    bit (suc (suc n)) h = absurd (omega arith)

pub strip_sum : (g : Grid) → T (are_bits g) → length g.cells ≡ volume g.sides → sum (strip g).cells ≡ sum g.cells
strip_sum g t whole = sum_bits (strip g) (strip_bits g t) (strip_whole g whole) ∙ strip_count g ∙ sym (sum_bits g t whole)

-- ---- the stripped grid lies in the lent box, and no side becomes 0
pub corner_none : (g : Grid) → filled_cells g ≡ [] → corner g ≡ record { x = 0; y = 0; z = 0 }
unfolding corner along
corner_none g e = ap of_cells e
  where
    of_cells : List Cell → Cell
    of_cells us = record { x = least_of (map (λ u. coordinate u 0) us); y = least_of (map (λ u. coordinate u 1) us); z = least_of (map (λ u. coordinate u 2) us) }

pub strip_fits : (g : Grid) → FitsIn (frame_of g) (strip g).sides
unfolding frame_of grid_with
strip_fits g = go (some_or_none g)
  where
    go : T (not (is_empty (filled_cells g))) ⊎ (filled_cells g ≡ []) → FitsIn (frame_of g) (strip g).sides
    go (inl some) =
        let w = window_fits g some in
        subst (λ (k : Grid). FitsIn (frame_of g) k.sides) (sym (strip_is g some)) (record { along_x = w.0; along_y = w.1; along_z = w.2 })
    go (inr e) =
        let z = corner_none g e in
        let x = ap (λ (u : Cell). u.x) z in
        let y = ap (λ (u : Cell). u.y) z in
        let w = ap (λ (u : Cell). u.z) z in
        subst (λ (k : Grid). FitsIn (frame_of g) k.sides) (sym (strip_empty g e)) (record { along_x = omega arith; along_y = omega arith; along_z = omega arith })

pub strip_some : (g : Grid) → (1 ≤ g.sides.a) × (1 ≤ g.sides.b) × (1 ≤ g.sides.c) → (1 ≤ (strip g).sides.a) × (1 ≤ (strip g).sides.b) × (1 ≤ (strip g).sides.c)
unfolding grid_with
strip_some g h = go (some_or_none g)
  where
    go : T (not (is_empty (filled_cells g))) ⊎ (filled_cells g ≡ []) → (1 ≤ (strip g).sides.a) × (1 ≤ (strip g).sides.b) × (1 ≤ (strip g).sides.c)
    go (inl some) = subst (λ (k : Grid). (1 ≤ k.sides.a) × (1 ≤ k.sides.b) × (1 ≤ k.sides.c)) (sym (strip_is g some)) (spans_some g some)
    go (inr e) = subst (λ (k : Grid). (1 ≤ k.sides.a) × (1 ≤ k.sides.b) × (1 ≤ k.sides.c)) (sym (strip_empty g e)) h
