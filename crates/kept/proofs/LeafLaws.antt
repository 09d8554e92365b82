-- Rows chosen in any order are the packing of the same rows in ascending order, and this packing's rows have the same numbers. Assumes nothing.
use Prim.Native.Nat.{ℕ, zero, suc, ◌<◌}
use mathlib.Core.Bool.{Bool, true, false, cond}
use mathlib.Core.List.Memᴰ
use mathlib.Core.List.{List, [], ◌∷◌, ◌++◌, map, Memᴰ, map-map}
use mathlib.Core.Path.{◌≡◌, refl, sym, ap, ◌∙◌}
use mathlib.Core.Logic.{◌⊎◌, inl, inr}
use native.Mathlib.Omega.{arith}
use lib.Dec.{T, ltb, ltb→lt, lt→ltb}
use lib.ListN.{length, get_or}
use Rattle.lists.specs.Lists.{cons_if, all, before, put, ascending, Apart}
use Rattle.lists.proofs.TestLaws.{and_right, is_true, is_false}
use Rattle.lists.proofs.ListLaws.{get_or_mem, all_at, all_of, map_still}
use Rattle.lists.proofs.SortLaws.{put_at, put_tail, put_ascending, not_again, ascending_unique, ascending_apart}
use Rattle.definitions.specs.Placements.{Placement}
use Rattle.definitions.specs.Packing.{ahead, same_placement}
use Rattle.definitions.specs.Kept.{Identify}
use Rattle.definitions.specs.Emission.{Emitted, emit, emits}
use Rattle.theorems.proofs.EmissionLaws.{emits_none, emits_one}
use Rattle.theorems.proofs.PackingLaws.{ahead_trans, ahead_irrefl, same_placement_refl, same_placement→eq}
use Rattle.rows.specs.Systems.{System}
use Rattle.rows.specs.Lawful.{Lawful}
use Rattle.kept.specs.Normal.{sort_rows, row_of, no_row, normal}
use Rattle.kept.specs.Emission.{emit_kept, entry_of}
use Rattle.kept.specs.Entries.{numbers_of, entries, entry_by, put_all}
use Rattle.kept.proofs.NormalLaws.{rows_ascend}
use Rattle.kept.proofs.NormalRowLaws.{row_of_in}
use Rattle.kept.proofs.SortingLaws.{sort_rows_at, sort_rows_of, sort_rows_ascending}

-- ---- a row has its number
number_at : (d : Placement) (qs : List Placement) → T (ascending ahead qs) → (r : ℕ) → r < length qs → before (same_placement (get_or qs r d)) qs ≡ r
number_at d [] t r h = absurd (omega arith)
number_at d (q ∷ qs) t zero h = ap {B = ℕ} (λ (b : Bool). cond b 0 (suc (before (same_placement q) qs))) (is_true (same_placement q q) (same_placement_refl q))
number_at d (q ∷ qs) t (suc r) h =
    let x = get_or qs r d in
    ap {B = ℕ} (λ (b : Bool). cond b 0 (suc (before (same_placement x) qs)))
    (is_false (same_placement x q) (λ u. not_again ahead ahead_trans ahead_irrefl q qs t (get_or_mem d qs r (omega arith)) (same_placement→eq x q u)))
    ∙ ap suc (number_at d qs (and_right (all (ahead q) qs) (ascending ahead qs) t) r (omega arith))

pub numbers_back : (s : System) → Lawful s → (rs : List ℕ) → T (all (λ r. ltb r (length s.rows)) rs) → numbers_of s (map (row_of s) rs) ≡ rs
unfolding numbers_of row_of
numbers_back s law rs t =
    map-map (λ q. before (same_placement q) s.rows) (row_of s) rs
    ∙ map_still (λ r. before (same_placement (row_of s r)) s.rows) rs
    (λ r m. number_at no_row s.rows law.in_order r (ltb→lt r (length s.rows) (all_at (λ i. ltb i (length s.rows)) rs t m)))

-- ---- placements put one after the other
pub put_all_last : (P : List Placement) (qs : List Placement) (q : Placement) → put_all P (qs ++ (q ∷ [])) ≡ put ahead q (put_all P qs)
put_all_last P [] q = refl
put_all_last P (r ∷ qs) q = put_all_last (put ahead r P) qs q

put_all_ascending : (P qs : List Placement) → T (ascending ahead P) → T (ascending ahead (put_all P qs))
put_all_ascending P [] t = t
put_all_ascending P (q ∷ qs) t = put_all_ascending (put ahead q P) qs (put_ascending ahead ahead_trans q P t)

put_all_at : (P qs : List Placement) {z : Placement} → Memᴰ z (put_all P qs) → Memᴰ z P ⊎ Memᴰ z qs
put_all_at P [] m = inl m
put_all_at P (q ∷ qs) {z} m = go (put_all_at (put ahead q P) qs m)
  where
    one : (z ≡ q) ⊎ Memᴰ z P → Memᴰ z P ⊎ Memᴰ z (q ∷ qs)
    one (inl e) = inr (Memᴰ.head e)
    one (inr k) = inl k

    go : Memᴰ z (put ahead q P) ⊎ Memᴰ z qs → Memᴰ z P ⊎ Memᴰ z (q ∷ qs)
    go (inl k) = one (put_at ahead q P k)
    go (inr k) = inr (Memᴰ.tail k)

module _ (rows : List Placement) (up : T (ascending ahead rows)) where
  put_here : (x : Placement) (ys : List Placement) → Memᴰ x rows → ((y : Placement) → Memᴰ y ys → Memᴰ y rows) → Memᴰ x (put ahead x ys)
  put_here x [] m f = Memᴰ.head refl
  put_here x (y ∷ ys) m f =
      go (ahead x y) (ahead y x) (ascending_apart ahead ahead_trans ahead_irrefl rows up m (f y (Memᴰ.head refl))) (put_here x ys m (λ z k. f z (Memᴰ.tail k)))
    where
      go : (b c : Bool) → (x ≡ y) ⊎ (T b ⊎ T c) → Memᴰ x (put ahead x ys) → Memᴰ x (cond b (x ∷ y ∷ ys) (cond c (y ∷ put ahead x ys) (y ∷ ys)))
      go true c k l = Memᴰ.head refl
      go false true k l = Memᴰ.tail l
      go false false (inl e) l = Memᴰ.head e
      go false false (inr (inl k)) l = absurd k
      go false false (inr (inr k)) l = absurd k

  put_all_of : (P qs : List Placement) → ((y : Placement) → Memᴰ y P → Memᴰ y rows) → ((y : Placement) → Memᴰ y qs → Memᴰ y rows)
      → {z : Placement} → Memᴰ z P ⊎ Memᴰ z qs → Memᴰ z (put_all P qs)
  put_all_of P [] f g (inl m) = m
  put_all_of P [] f g (inr m) = absurd (Memᴰ.not-nil m)
  put_all_of P (q ∷ qs) f g {z} k = put_all_of (put ahead q P) qs (λ y m. in_rows y (put_at ahead q P m)) (λ y m. g y (Memᴰ.tail m)) (step k)
    where
      in_rows : (y : Placement) → (y ≡ q) ⊎ Memᴰ y P → Memᴰ y rows
      in_rows y (inl e) = Memᴰ.cast e (g q (Memᴰ.head refl))
      in_rows y (inr m) = f y m

      later : (z ≡ q) ⊎ Memᴰ z qs → Memᴰ z (put ahead q P) ⊎ Memᴰ z qs
      later (inl e) = inl (Memᴰ.cast e (put_here q P (g q (Memᴰ.head refl)) f))
      later (inr m) = inr m

      step : Memᴰ z P ⊎ Memᴰ z (q ∷ qs) → Memᴰ z (put ahead q P) ⊎ Memᴰ z qs
      step (inl m) = inl (put_tail ahead q P m)
      step (inr m) = later (Memᴰ.cases_cons m)

-- ---- the packing of rows
module _ (s : System) (law : Lawful s) (rs : List ℕ) (rows : T (all (λ r. ltb r (length s.rows)) rs)) (apart : Apart rs) where
  row_below : {r : ℕ} → Memᴰ r rs → r < length s.rows
  row_below {r} m = ltb→lt r (length s.rows) (all_at (λ i. ltb i (length s.rows)) rs rows m)

  sorted_rows : T (all (λ r. ltb r (length s.rows)) (sort_rows rs))
  sorted_rows = all_of (λ r. ltb r (length s.rows)) (sort_rows rs) (λ r m. lt→ltb r (length s.rows) (row_below (sort_rows_at rs m)))

  all_rows : (q : Placement) → Memᴰ q (map (row_of s) rs) → Memᴰ q s.rows
  all_rows q m = let r = Memᴰ.of_map (row_of s) rs m in Memᴰ.cast (sym r.2) (row_of_in s r.0 (row_below r.1))

  pub packing_sorted : put_all [] (map (row_of s) rs) ≡ map (row_of s) (sort_rows rs)
  packing_sorted =
      ascending_unique ahead ahead_trans ahead_irrefl (put_all [] (map (row_of s) rs)) (map (row_of s) (sort_rows rs)) (put_all_ascending [] (map (row_of s) rs) tt)
      (rows_ascend s law (sort_rows rs) sorted_rows (sort_rows_ascending rs apart)) (λ z m. there z (put_all_at [] (map (row_of s) rs) m)) back
    where
      there : (z : Placement) → Memᴰ z [] ⊎ Memᴰ z (map (row_of s) rs) → Memᴰ z (map (row_of s) (sort_rows rs))
      there z (inl m) = absurd (Memᴰ.not-nil m)
      there z (inr m) = let r = Memᴰ.of_map (row_of s) rs m in Memᴰ.cast (sym r.2) (Memᴰ.map (row_of s) (sort_rows_of rs r.1))

      back : (z : Placement) → Memᴰ z (map (row_of s) (sort_rows rs)) → Memᴰ z (put_all [] (map (row_of s) rs))
      back z m =
          let r = Memᴰ.of_map (row_of s) (sort_rows rs) m in
          put_all_of s.rows law.in_order [] (map (row_of s) rs) (λ y k. absurd (Memᴰ.not-nil k)) all_rows
          (inr (Memᴰ.cast (sym r.2) (Memᴰ.map (row_of s) (sort_rows_at rs r.1))))

  -- and its entry
  pub packing_emits : (i : Identify) (capacity : ℕ) (e : Emitted) → emit_kept s i capacity rs e ≡ emits capacity (entries s i (put_all [] (map (row_of s) rs) ∷ [])) e
  unfolding emit_kept entry_of entries
  packing_emits i capacity e =
      sym (ap (λ (P : List Placement). emits capacity (map (entry_by s) (cons_if (normal s i (numbers_of s P)) P [])) e) packing_sorted
      ∙ ap (λ (ns : List ℕ). emits capacity (map (entry_by s) (cons_if (normal s i ns) (map (row_of s) (sort_rows rs)) [])) e) (numbers_back s law (sort_rows rs) sorted_rows)
      ∙ one (normal s i (sort_rows rs)) (map (row_of s) (sort_rows rs)))
    where
      one : (b : Bool) (P : List Placement) → emits capacity (map (entry_by s) (cons_if b P [])) e ≡ cond b (emit capacity (entry_by s P) e) e
      one true P = emits_one capacity e (entry_by s P)
      one false P = emits_none capacity e
