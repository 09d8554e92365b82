-- Numbering the places of a box, and the fit test cell by cell. Assumes nothing.
use Prim.Native.Nat.{ℕ, suc, ◌+◌, ◌-◌, ◌≤◌, ◌<◌}
use mathlib.Core.Bool.{Bool, true, false, cond, ◌&&◌}
use mathlib.Core.List.Memᴰ
use mathlib.Core.List.{List, [], ◌∷◌, map, Memᴰ}
use mathlib.Core.Path.{◌≡◌, refl, sym, ap, ap₂, ◌∙◌, subst}
use native.Mathlib.Nat.{zero-add}
use native.Mathlib.Omega.{arith}
use borrow.Author.Rules.{get_or_read}
use borrow.Author.Tests.{eqb-true, eqb-false}
use lib.Dec.{T, eqb, ltb, leb, eqb→eq, ltb→lt, leb→le}
use lib.ListN.{length, get_or, take, drop, set, replicate, length-set, length-map, length-replicate, get_or-replicate, drop_of_length-le}
use lib.Seq.{drop-cons, get_or-set_same, get_or-set_other, get_or-take, ext_get_or}
use Rattle.std.specs.List.{count_by}
use Rattle.std.proofs.lemmas.List.{length-take}
use Rattle.lists.specs.Lists.{all, any, how_many, sort, before, below}
use Rattle.lists.proofs.TestLaws.{tests_same, and_left, and_right, is_false, eqb_of}
use Rattle.lists.proofs.ListLaws.{how_many_map, all_at, all_of, any_at, any_of, all_get_or, get_or_map}
use Rattle.lists.proofs.RangeLaws.{length_below, get_or_number}
use Rattle.lists.proofs.SortLaws.{sort_at, sort_of}
use Rattle.definitions.specs.Grid.{Sides, Cell, Grid, InBox, place_of, byte_at, same_cell, filled_cells}
use Rattle.definitions.specs.Scan.{cell_ahead, scan, scan_number}
use Rattle.definitions.specs.Placements.{origin, lies, reaches, fits}
use Rattle.theorems.proofs.MapLaws.{filled_at, filled_of}
use Rattle.theorems.proofs.WellMadeLaws.{same_cell→eq, same_cell_refl}
use Rattle.shape.specs.Places.{cell_at}
use Rattle.shape.specs.Scans.{IsOrder}
use Rattle.shape.proofs.GridLaws.{how_many_is}
use Rattle.shape.proofs.PlaceLaws.{cell_at_place, place_of_cell}
use Rattle.shape.proofs.VariantLaws.{scan_has, scan_from}
use Rattle.shape.proofs.ScanLaws.{cell_tied}
use Rattle.placements.specs.declared.poses.Pose.{Pose}
use Rattle.placements.specs.declared.poses.Poses.{Poses}
use Rattle.placements.specs.Poses.{cells_in, origin_in, variant_in, variants_in, no_pose, Stands, Standing}
use Rattle.placements.specs.Fitting.{fits_on, fits_pose}

-- ---- numbering places
module _ (ps : List ℕ) where
  -- what stands at each place once the places from number k on are written
  unfoldable pub NumberedFrom : ℕ → List ℕ → Type 0
  NumberedFrom k xs = (i : ℕ) → i < length xs → get_or xs i 0 ≡ k + before (eqb i) (drop k ps)

  numbered_none : (n size : ℕ) (xs : List ℕ) → length ps ≡ n → xs ≡ replicate size n → NumberedFrom n xs
  unfolding NumberedFrom
  numbered_none n size xs l e i h =
      let k : i < size = omega (arith, ap length e, length-replicate size n) in
      ap (λ (d : List ℕ). get_or d i 0) e ∙ get_or-replicate size i n 0 k ∙ omega (arith, ap (before (eqb i)) (drop_of_length-le ps {i = n} (omega arith)))

  numbered_more : (k : ℕ) (xs : List ℕ) → 0 < k → k ≤ length ps → get_or ps (k - 1) 0 < length xs → NumberedFrom k xs
      → NumberedFrom (k - 1) (set xs (get_or ps (k - 1) 0) (k - 1))
  unfolding NumberedFrom
  numbered_more k xs h l b f i m = go (eqb i p) refl ∙ ap (λ (l : List ℕ). n + before (eqb i) l) (sym (drop-cons ps n 0 (omega arith)))
    where
      n : ℕ
      n = k - 1

      p : ℕ
      p = get_or ps n 0

      go : (b : Bool) → eqb i p ≡ b → get_or (set xs p n) i 0 ≡ n + cond b 0 (suc (before (eqb i) (drop (suc n) ps)))
      go true e = ap (λ (j : ℕ). get_or (set xs p n) j 0) (eqb-true i p e) ∙ get_or-set_same xs p n 0 b ∙ omega arith
      go false e =
          let s : k ≡ suc n = omega arith in
          get_or-set_other xs p i n 0 (eqb-false i p e) ∙ f i (subst (λ (j : ℕ). i < j) (length-set xs p n) m)
          ∙ ap (λ (j : ℕ). j + before (eqb i) (drop j ps)) s ∙ omega arith

  numbered_all : (xs : List ℕ) → NumberedFrom 0 xs → xs ≡ map (λ i. before (eqb i) ps) (below (length xs))
  unfolding NumberedFrom
  numbered_all xs f =
      ext_get_or 0 xs (map (λ i. before (eqb i) ps) (below (length xs))) (sym (length-map (below (length xs)) (λ i. before (eqb i) ps) ∙ length_below (length xs)))
      (λ i h. f i h ∙ zero-add (before (eqb i) ps)
      ∙ sym (get_or_map 0 0 (λ j. before (eqb j) ps) (below (length xs)) i (subst (λ (k : ℕ). i < k) (sym (length_below (length xs))) h)
      ∙ ap (λ (j : ℕ). before (eqb j) ps) (get_or_number 0 (length xs) i 0 h ∙ zero-add i)))

module _ (places : List ℕ) (size : ℕ) (t : T (all (λ i. ltb i size) places)) where
  pub place_in : (k : ℕ) → k < length places → get_or places k 0 < size
  place_in k h = ltb→lt (get_or places k 0) size (all_get_or (λ i. ltb i size) 0 places t k h)

  pub number_start : (xs : List ℕ) → xs ≡ replicate size (length places) → NumberedFrom places (length places) xs
  number_start xs e = numbered_none places (length places) size xs refl e

  pub number_next : (k : ℕ) (xs : List ℕ) → length xs ≡ size → 0 < k → k ≤ length places → NumberedFrom places k xs
      → NumberedFrom places (k - 1) (set xs (get_or places (k - 1) 0) (k - 1))
  number_next k xs l some most f = numbered_more places k xs some most (let b = place_in (k - 1) (omega arith) in omega arith) f

  pub number_end : (xs : List ℕ) → length xs ≡ size → NumberedFrom places 0 xs → xs ≡ map (λ i. before (eqb i) places) (below size)
  number_end xs l f = numbered_all places xs f ∙ ap (λ (j : ℕ). map (λ i. before (eqb i) places) (below j)) l

-- ---- the fit test
pub reach_parts : (v o : Cell) → T (reaches v o) → (o.x ≤ v.x) × (o.y ≤ v.y) × (o.z ≤ v.z)
unfolding reaches
reach_parts v o t =
    let s = and_left (leb o.x v.x && leb o.y v.y) (leb o.z v.z) t in (
      leb→le o.x v.x (and_left (leb o.x v.x) (leb o.y v.y) s),
      leb→le o.y v.y (and_right (leb o.x v.x) (leb o.y v.y) s),
      leb→le o.z v.z (and_right (leb o.x v.x && leb o.y v.y) (leb o.z v.z) t),
    )

filled_there : (g : Grid) (u : Cell) → T (any (same_cell u) (filled_cells g)) → Memᴰ u (filled_cells g)
filled_there g u t = let r = any_at (same_cell u) (filled_cells g) t in Memᴰ.cast (same_cell→eq u r.0 r.2) r.1

-- a cell is filled: its box has it, and its byte is 1
pub filled_in : (g : Grid) (u : Cell) → InBox g.sides u → eqb (byte_at g u) 1 ≡ any (same_cell u) (filled_cells g)
filled_in g u b =
    tests_same (eqb (byte_at g u) 1) (any (same_cell u) (filled_cells g))
    (λ t. any_of (same_cell u) (filled_cells g) (filled_of g u b (eqb→eq (byte_at g u) 1 t)) (same_cell_refl u))
    (λ t. eqb_of (filled_at g u (filled_there g u t)).1)

pub filled_out : (g : Grid) (u : Cell) → (InBox g.sides u → ⊥) → false ≡ any (same_cell u) (filled_cells g)
filled_out g u b = sym (is_false (any (same_cell u) (filled_cells g)) (λ t. b (filled_at g u (filled_there g u t)).0))

-- an origin that reaches further than the cell at which it lies
pub fits_not : (g : Grid) (v : Cell) (pose : Pose) → reaches v (origin_in pose) ≡ false → false ≡ fits_pose g v pose
unfolding fits_pose fits_on
fits_not g v pose e = rw e

-- cells in scan order or as they come
module _ (order : List ℕ) (o : IsOrder order) where
  module _ (g : Grid) (v : Cell) where
    fits_cells : (us : List Cell) → fits (scan order g) v (sort (cell_ahead order) us) ≡ fits_on g v (origin (sort (cell_ahead order) us)) us
    unfolding fits fits_on
    fits_cells us =
        ap (λ (b : Bool). reaches v (origin (sort (cell_ahead order) us)) && b)
        (tests_same (all p (sort (cell_ahead order) us)) (all q us)
        (λ t. all_of q us (λ u m. subst T (same u) (all_at p (sort (cell_ahead order) us) t (sort_of (cell_ahead order) (cell_tied order o) us m))))
        (λ t. all_of p (sort (cell_ahead order) us) (λ u m. subst T (sym (same u)) (all_at q us t (sort_at (cell_ahead order) us m)))))
      where
        to : Cell → Cell
        to u = lies v (origin (sort (cell_ahead order) us)) u

        p : Cell → Bool
        p u = any (same_cell (to u)) (scan order g)

        q : Cell → Bool
        q u = any (same_cell (to u)) (filled_cells g)

        same : (u : Cell) → p u ≡ q u
        same u =
            tests_same (p u) (q u)
            (λ t. let r = any_at (same_cell (to u)) (scan order g) t in any_of (same_cell (to u)) (filled_cells g) (scan_from order o g r.0 r.1) r.2)
            (λ t. let r = any_at (same_cell (to u)) (filled_cells g) t in any_of (same_cell (to u)) (scan order g) (scan_has order o g r.0 r.1) r.2)

    pub fits_variant : (pose : Pose) → Stands order pose → fits (scan order g) v (variant_in order pose) ≡ fits_pose g v pose
    unfolding fits_pose variant_in
    fits_variant pose p = fits_cells (cells_in pose) ∙ ap (λ (u : Cell). fits_on g v u (cells_in pose)) (sym p.origin_is)

-- the variants that fit, counted one by one
many_same : (p q : Pose → Bool) (ps : List Pose) → ((i : ℕ) → i < length ps → p (get_or ps i no_pose) ≡ q (get_or ps i no_pose)) → how_many p ps ≡ how_many q ps
many_same p q [] h = refl
many_same p q (x ∷ xs) h =
    ap₂ {C = ℕ} (λ (b : Bool) (k : ℕ). cond b 1 0 + k) (h 0 (omega arith)) (many_same p q xs (λ i l. h (suc i) (omega arith)))

-- each variant that stands in front of the list, by its place there
module _ (order : List ℕ) (poses : Poses) (p : Standing order poses) (i : ℕ) (h : i < length (take poses.count poses.list)) where
  pub stands_at : Stands order (get_or (take poses.count poses.list) i no_pose)
  stands_at =
      let l : i < poses.count = omega (arith, length-take poses.count poses.list) in
      subst (Stands order) (sym (get_or-take poses.count poses.list i no_pose l)) (p.each i l)

  pub pose_stands : (pose : Pose) → pose ≡ get_or (take poses.count poses.list) i pose → Stands order pose
  pose_stands pose e = subst (Stands order) (sym (get_or_read (take poses.count poses.list) i pose h e no_pose)) stands_at

pub variants_fit : (order : List ℕ) → IsOrder order → (g : Grid) (v : Cell) (poses : Poses) → Standing order poses
    → how_many (fits (scan order g) v) (variants_in order poses) ≡ count_by (fits_pose g v) (take poses.count poses.list)
unfolding variants_in
variants_fit order o g v poses p =
    how_many_map (fits (scan order g) v) (variant_in order) (take poses.count poses.list)
    ∙ many_same (λ pose. fits (scan order g) v (variant_in order pose)) (fits_pose g v) (take poses.count poses.list)
    (λ i l. fits_variant order o g v _ (stands_at order poses p i l))
    ∙ how_many_is (fits_pose g v) (take poses.count poses.list)

pub scan_number_place : (s : Sides) (ps : List ℕ) (u : Cell) → InBox s u → scan_number (map (cell_at s) ps) u ≡ before (eqb (place_of s u)) ps
unfolding scan_number
scan_number_place s [] u b = refl
scan_number_place s (p ∷ ps) u b =
    ap₂ (λ (t : Bool) (n : ℕ). cond t 0 (suc n))
    (tests_same (same_cell u (cell_at s p)) (eqb (place_of s u) p) (λ t. eqb_of (ap (place_of s) (same_cell→eq u (cell_at s p) t) ∙ place_of_cell s p))
    (λ t. subst (λ (w : Cell). T (same_cell u w)) (sym (cell_at_place s u b) ∙ ap (cell_at s) (eqb→eq (place_of s u) p t)) (same_cell_refl u)))
    (scan_number_place s ps u b)
