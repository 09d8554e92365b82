-- Both engines' lists of packings are the exact covers within the copies, for a compiled tray that is well made. Assumes nothing.
use Prim.Native.Nat.{ℕ, ◌<◌}
use mathlib.Core.Bool.{not}
use mathlib.Core.List.Memᴰ
use mathlib.Core.List.Pairwise
use mathlib.Core.List.{List, [], ◌∷◌, Perm, perm_ext_iff_of_Nodup, Nodup, Memᴰ}
use mathlib.Core.Path.{◌≡◌, sym, ap, ◌∙◌, subst}
use mathlib.Core.Logic.{◌⊎◌, inl, inr, ∥∥₁_map, ∥∥₁_elim}
use mathlib.Core.HLevel.{⊥_prop}
use native.Mathlib.Nat.{le_antisymm}
use native.Mathlib.Omega.{arith}
use lib.Dec.{T, ltb, eqb, eqb→eq, ltb→lt, lt→ltb, nltb→le, eqb_refl}
use lib.ListN.{length, get_or, length-map, get_or-map}
use Rattle.lists.specs.Lists.{all, any, how_many, keep, below, member, ascending, Apart}
use Rattle.lists.proofs.TestLaws.{eqb_of, decide, ltb_trans, ltb_irrefl}
use Rattle.lists.proofs.ListLaws.{how_many_same, how_many_map, all_at, all_of, any_at, any_of, keep_at, keep_of, how_many_pos, apart_keep, get_or_mem, mem_get_or}
use Rattle.lists.proofs.SortLaws.{get_or_ahead, keep_ascending, ascending_unique, pick_ascending}
use Rattle.lists.proofs.RangeLaws.{below_at, below_of, from_ascending}
use Rattle.definitions.specs.Placements.{Placement, Compiled}
use Rattle.definitions.specs.Packing.{ahead, same_placement, covering, used, limits, placed, covers_once, within_copies, Packing}
use Rattle.theorems.proofs.PackingLaws.{ahead_trans, ahead_irrefl, same_placement_refl, same_placement→eq, packing_placed, packing_covers, packing_within}
use Rattle.definitions.specs.Kept.{Identify, images, kept}
use Rattle.definitions.specs.Kept.Identify.{None}
use Rattle.definitions.specs.Orders.{listed, packings, fast_list, knuth_list}
use Rattle.definitions.specs.Refusals.{rows_of}
use Rattle.theorems.proofs.SearchLaws.{WellMade}
use Rattle.theorems.proofs.EngineLaws.{Exactly, fast_exact, knuth_exact}
use Rattle.definitions.specs.Demands.{ExactCover, CoverWithin, matrix_of, placements_in, nowhere}
use Rattle.definitions.specs.declared.SolverKind.TheVariants.{Fast, KnuthAlgorithm}

-- ---- lists
nodup_of : {A : Type 0} (xs : List A) → Apart xs → Nodup xs
nodup_of [] h = Pairwise.nil
nodup_of (x ∷ xs) h = Pairwise.cons (λ y m e. ∥∥₁_elim m ⊥_prop (λ k. h.0 (Memᴰ.cast e k))) (nodup_of xs h.1)

pub perm_of : {A : Type 0} (xs ys : List A) → Apart xs → Apart ys → ((z : A) → Memᴰ z xs → Memᴰ z ys) → ((z : A) → Memᴰ z ys → Memᴰ z xs) → Perm xs ys
perm_of xs ys h k f g = (perm_ext_iff_of_Nodup (nodup_of xs h) (nodup_of ys k)).1 (λ z. (λ m. ∥∥₁_map m (f z), λ m. ∥∥₁_map m (g z)))

-- ---- rows
module _ (c : Compiled) (w : WellMade c) where
  rows_order : T (ascending ahead (rows_of c))
  unfolding rows_of
  rows_order = keep_ascending ahead (λ (q : Placement). ltb 0 (get_or (limits c) q.kind 0)) c.placements w.in_order

  rows_placed : (q : Placement) → Memᴰ q (rows_of c) → Memᴰ q c.placements
  unfolding rows_of
  rows_placed q m = (keep_at (λ (q : Placement). ltb 0 (get_or (limits c) q.kind 0)) c.placements m).0

  matrix_length : length (matrix_of c) ≡ length (rows_of c)
  unfolding matrix_of
  matrix_length = length-map (rows_of c) (λ q. q.cells)

  matrix_at : (r n : ℕ) → member n (get_or (matrix_of c) r []) ≡ member n (get_or (rows_of c) r nowhere).cells
  unfolding matrix_of nowhere
  matrix_at r n = ap (λ (l : List ℕ). member n l) (get_or-map (λ (q : Placement). q.cells) (rows_of c) r nowhere)

  covering_in : (rows : List ℕ) (n : ℕ) → covering (placements_in c rows) n ≡ how_many (λ r. member n (get_or (matrix_of c) r [])) rows
  unfolding covering placements_in
  covering_in rows n =
      how_many_map (λ (q : Placement). member n q.cells) (λ (r : ℕ). get_or (rows_of c) r nowhere) rows
      ∙ how_many_same (λ (r : ℕ). member n (get_or (rows_of c) r nowhere).cells) (λ (r : ℕ). member n (get_or (matrix_of c) r [])) rows (λ r. sym (matrix_at r n))

  in_rows : (rows : List ℕ) → T (all (λ r. ltb r (length (matrix_of c))) rows) → (q : Placement) → Memᴰ q (placements_in c rows) → Memᴰ q (rows_of c)
  unfolding placements_in
  in_rows rows t q m =
      let r = Memᴰ.of_map (λ (i : ℕ). get_or (rows_of c) i nowhere) rows m in
      let l = ltb→lt r.0 (length (matrix_of c)) (all_at (λ (i : ℕ). ltb i (length (matrix_of c))) rows t r.1) in
      let e = matrix_length in
      Memᴰ.cast (sym r.2) (get_or_mem nowhere (rows_of c) r.0 (omega arith))

  in-order : (rows : List ℕ) → ExactCover (length c.cells) (matrix_of c) rows → T (ascending ahead (placements_in c rows))
  unfolding placements_in
  in-order rows x = pick_ascending nowhere ahead (rows_of c) rows_order rows x.a_set (subst (λ (n : ℕ). T (all (λ r. ltb r n) rows)) matrix_length x.of_rows)

  -- an exact cover within the copies is a packing
  pub cover_packing : (rows : List ℕ) → CoverWithin c rows → Packing c (placements_in c rows)
  unfolding placed covers_once
  cover_packing rows x =
      record {
        a_set = in-order rows x.cover;
        of_placements =
            all_of (λ q. any (same_placement q) c.placements) (placements_in c rows)
            (λ q m. any_of (same_placement q) c.placements (rows_placed q (in_rows rows x.cover.of_rows q m)) (same_placement_refl q));
        covers =
            all_of (λ n. eqb (covering (placements_in c rows) n) 1) (below (length c.cells))
            (λ n m. eqb_of (covering_in rows n ∙ eqb→eq (how_many (λ r. member n (get_or (matrix_of c) r [])) rows) 1 (all_at (λ i. eqb (how_many (λ r. member i (get_or (matrix_of c) r [])) rows) 1) (below (length c.cells)) x.cover.covers m)));
        within = x.within;
      }

  -- and every packing is one
  unfoldable pub its_rows : List Placement → List ℕ
  its_rows P = keep (λ r. any (same_placement (get_or (rows_of c) r nowhere)) P) (below (length (matrix_of c)))

  in_its_rows : (P : List Placement) (r : ℕ) → Memᴰ r (its_rows P) → (r < length (matrix_of c)) × T (any (same_placement (get_or (rows_of c) r nowhere)) P)
  unfolding its_rows
  in_its_rows P r m = let k = keep_at (λ (i : ℕ). any (same_placement (get_or (rows_of c) i nowhere)) P) (below (length (matrix_of c))) m in (below_at (length (matrix_of c)) k.0, k.1)

  module _ (P : List Placement) (g : Packing c P) where
    row_of : (q : Placement) → Memᴰ q P → Memᴰ q (rows_of c)
    unfolding rows_of used
    row_of q m =
        let row = packing_placed c P g q m in
        let a = how_many_pos (λ (z : Placement). eqb z.kind q.kind) P m (eqb_refl q.kind) in
        let b = packing_within c P g q.kind (w.of_kinds q row) in
        keep_of (λ (z : Placement). ltb 0 (get_or (limits c) z.kind 0)) c.placements row (lt→ltb 0 (get_or (limits c) q.kind 0) (omega arith))

    rows_ascend : T (ascending ltb (its_rows P))
    unfolding its_rows
    rows_ascend = keep_ascending ltb (λ (r : ℕ). any (same_placement (get_or (rows_of c) r nowhere)) P) (below (length (matrix_of c))) (from_ascending 0 (length (matrix_of c)))

    rows_below : T (all (λ r. ltb r (length (matrix_of c))) (its_rows P))
    rows_below = all_of (λ r. ltb r (length (matrix_of c))) (its_rows P) (λ r m. lt→ltb r (length (matrix_of c)) (in_its_rows P r m).0)

    rows_order_P : T (ascending ahead (placements_in c (its_rows P)))
    unfolding placements_in
    rows_order_P = pick_ascending nowhere ahead (rows_of c) rows_order (its_rows P) rows_ascend (subst (λ (n : ℕ). T (all (λ r. ltb r n) (its_rows P))) matrix_length rows_below)

    there : (z : Placement) → Memᴰ z (placements_in c (its_rows P)) → Memᴰ z P
    unfolding placements_in
    there z m =
        let r = Memᴰ.of_map (λ (i : ℕ). get_or (rows_of c) i nowhere) (its_rows P) m in
        let q = any_at (same_placement (get_or (rows_of c) r.0 nowhere)) P (in_its_rows P r.0 r.1).1 in
        Memᴰ.cast (sym r.2 ∙ same_placement→eq (get_or (rows_of c) r.0 nowhere) q.0 q.2) q.1

    back : (z : Placement) → Memᴰ z P → Memᴰ z (placements_in c (its_rows P))
    unfolding placements_in its_rows
    back z m =
        let r = mem_get_or nowhere (rows_of c) (row_of z m) in
        let e = matrix_length in
        let l = r.1 in
        Memᴰ.cast (sym r.2) (Memᴰ.map (λ (i : ℕ). get_or (rows_of c) i nowhere)
        (keep_of (λ (i : ℕ). any (same_placement (get_or (rows_of c) i nowhere)) P) (below (length (matrix_of c))) (below_of (length (matrix_of c)) (omega arith))
        (any_of (same_placement (get_or (rows_of c) r.0 nowhere)) P (Memᴰ.cast r.2 m) (same_placement_refl (get_or (rows_of c) r.0 nowhere)))))

    pub rows_give : placements_in c (its_rows P) ≡ P
    rows_give = ascending_unique ahead ahead_trans ahead_irrefl (placements_in c (its_rows P)) P rows_order_P g.a_set there back

    pub packing_cover : CoverWithin c (its_rows P)
    packing_cover =
        record {
          cover =
              record {
                a_set = rows_ascend;
                of_rows = rows_below;
                covers = all_of (λ n. eqb (how_many (λ r. member n (get_or (matrix_of c) r [])) (its_rows P)) 1) (below (length c.cells)) (λ n m. eqb_of (sym (covering_in (its_rows P) n) ∙ ap (λ (Q : List Placement). covering Q n) rows_give ∙ packing_covers c P g n (below_at (length c.cells) m)));
              };
          within = subst (λ (Q : List Placement). T (within_copies c Q)) (sym rows_give) g.within;
        }

  -- with nothing identified every packing is listed
  kept_all : (P : List Placement) → T (kept c None P)
  unfolding kept images
  kept_all P = tt

  -- the packings of a list are the exact covers within the copies, and only those
  pub record CoverList (L : List (List Placement)) : Type 0 where
    pub all_of_them : (rows : List ℕ) → CoverWithin c rows → Memᴰ (placements_in c rows) L
    pub only_those : (P : List Placement) → Memᴰ P L → (rows : List ℕ) × CoverWithin c rows × (placements_in c rows ≡ P)

  covers_of : (L : List (List Placement)) → Exactly c w L → CoverList (keep (kept c None) L)
  covers_of L x =
      record {
        all_of_them = λ rows h. keep_of (kept c None) L (x.every (placements_in c rows) (cover_packing rows h)) (kept_all (placements_in c rows));
        only_those = λ P m. let g = x.only P (keep_at (kept c None) L m).0 in (its_rows P, packing_cover P g, rows_give P g);
      }

  pub fast_covers : CoverList (listed c None Fast)
  unfolding listed packings
  fast_covers = covers_of (fast_list c None) (fast_exact c w None)

  pub knuth_covers : CoverList (listed c None KnuthAlgorithm)
  unfolding listed packings
  knuth_covers = covers_of (knuth_list c) (knuth_exact c w)

  -- under each identification both engines list the same packings, each once
  across : (i : Identify) (L M : List (List Placement)) → Exactly c w L → Exactly c w M → (P : List Placement) → Memᴰ P (keep (kept c i) L) → Memᴰ P (keep (kept c i) M)
  across i L M x y P m = let r = keep_at (kept c i) L m in keep_of (kept c i) M (y.every P (x.only P r.0)) r.1

  pub fast_knuth : (i : Identify) (P : List Placement) → Memᴰ P (listed c i Fast) → Memᴰ P (listed c i KnuthAlgorithm)
  unfolding listed packings
  fast_knuth i = across i (fast_list c i) (knuth_list c) (fast_exact c w i) (knuth_exact c w)

  pub knuth_fast : (i : Identify) (P : List Placement) → Memᴰ P (listed c i KnuthAlgorithm) → Memᴰ P (listed c i Fast)
  unfolding listed packings
  knuth_fast i = across i (knuth_list c) (fast_list c i) (knuth_exact c w) (fast_exact c w i)

  pub fast_apart : (i : Identify) → Apart (listed c i Fast)
  unfolding listed packings
  fast_apart i = apart_keep (kept c i) (fast_list c i) (fast_exact c w i).apart

  pub knuth_apart : (i : Identify) → Apart (listed c i KnuthAlgorithm)
  unfolding listed packings
  knuth_apart i = apart_keep (kept c i) (knuth_list c) (knuth_exact c w).apart

  -- two sets of rows with the same placements are the same
  row_apart : (r s : ℕ) → r < length (rows_of c) → s < length (rows_of c) → get_or (rows_of c) r nowhere ≡ get_or (rows_of c) s nowhere → r ≡ s
  row_apart r s h k e = go (decide (ltb r s)) (decide (ltb s r))
    where
      go : T (ltb r s) ⊎ T (not (ltb r s)) → T (ltb s r) ⊎ T (not (ltb s r)) → r ≡ s
      go (inl t) y = absurd (ahead_irrefl (get_or (rows_of c) s nowhere) (subst (λ (q : Placement). T (ahead q (get_or (rows_of c) s nowhere))) e (get_or_ahead nowhere ahead (rows_of c) rows_order r s (ltb→lt r s t) k)))
      go (inr t) (inl u) = absurd (ahead_irrefl (get_or (rows_of c) r nowhere) (subst (λ (q : Placement). T (ahead q (get_or (rows_of c) r nowhere))) (sym e) (get_or_ahead nowhere ahead (rows_of c) rows_order s r (ltb→lt s r u) h)))
      go (inr t) (inr u) = le_antisymm (nltb→le s r u) (nltb→le r s t)

  half_rows : (rows others : List ℕ) → CoverWithin c rows → CoverWithin c others → placements_in c rows ≡ placements_in c others → (r : ℕ) → Memᴰ r rows → Memᴰ r others
  unfolding placements_in
  half_rows rows others x y e r m =
      let k = Memᴰ.map (λ (i : ℕ). get_or (rows_of c) i nowhere) m in
      let s = Memᴰ.of_map (λ (i : ℕ). get_or (rows_of c) i nowhere) others (subst (λ (l : List Placement). Memᴰ (get_or (rows_of c) r nowhere) l) e k) in
      let f = matrix_length in
      let a = ltb→lt r (length (matrix_of c)) (all_at (λ (i : ℕ). ltb i (length (matrix_of c))) rows x.cover.of_rows m) in
      let b = ltb→lt s.0 (length (matrix_of c)) (all_at (λ (i : ℕ). ltb i (length (matrix_of c))) others y.cover.of_rows s.1) in
      Memᴰ.cast (sym (row_apart s.0 r (omega arith) (omega arith) s.2)) s.1

  pub rows_same : (rows others : List ℕ) → CoverWithin c rows → CoverWithin c others → placements_in c rows ≡ placements_in c others → rows ≡ others
  rows_same rows others x y e =
      ascending_unique ltb ltb_trans ltb_irrefl rows others x.cover.a_set y.cover.a_set (half_rows rows others x y e) (half_rows others rows y x (sym e))
