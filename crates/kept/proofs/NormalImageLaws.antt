-- A map takes a row to the one row with the image's kind and cells, so the images of some rows, kind by kind, are the rows whose numbers `moved_rows` has.
-- Assumes nothing.
use Prim.Native.Nat.{ℕ, ◌<◌}
use mathlib.Core.Bool.{Bool, true, false}
use mathlib.Core.List.Memᴰ
use mathlib.Core.List.{List, ◌∷◌, map, Memᴰ, head-eq_of_cons-eq, tail-eq_of_cons-eq}
use mathlib.Core.Path.{◌≡◌, refl, sym, ap, ap₂, ◌∙◌, subst}
use lib.Dec.{T, ltb, eqb, eqb→eq}
use lib.ListN.{length, get_or, length-map}
use Rattle.lists.specs.Lists.{any, keep, same, ascending}
use Rattle.lists.proofs.TestLaws.{ltb_trans, ltb_irrefl, eqb_of, ltb_tied}
use Rattle.lists.proofs.ListLaws.{any_at, any_of, keep_at, keep_of, before_found, apart_map}
use Rattle.lists.proofs.SortLaws.{keep_ascending, same→eq, same_refl, ascending_unique, apart_ascending, sort_at, sort_of}
use Rattle.definitions.specs.Placements.{Placement}
use Rattle.definitions.specs.Packing.{ahead}
use Rattle.theorems.proofs.PackingLaws.{ahead_trans, ahead_irrefl}
use Rattle.rows.specs.Systems.{System, kind_by, cells_by, moved_by, row_with}
use Rattle.rows.specs.Lawful.{ImageOf, allowed}
use Rattle.kept.specs.Normal.{no_row, row_of, of_kind, image_of, moved_rows}
use Rattle.kept.proofs.NormalRowLaws.{Comparable, RowNumbers, RowsOfKind, row_of_in, row_apart, rows_up, kinds-of, of-kinds, kind_up}
use Rattle.kept.proofs.SortingLaws.{sort_rows_at, sort_rows_of, sort_rows_length, sort_rows_ascending}

-- the rows that are images of placements
unfoldable pub moved_placements : System → Bool → List ℕ → List Placement → List Placement
moved_placements s odd to P = let ms = map (moved_by s.partners odd to) P in keep (λ q. any (same (q.kind ∷ q.cells)) ms) s.rows

module _ (s : System) (w : Comparable s) (odd : Bool) where
  abbrev after : ℕ → ℕ
  after k = kind_by s.partners odd k

  pub after_back : (k : ℕ) → kind_by s.partners odd k < length s.copies → kind_by s.partners odd (kind_by s.partners odd k) ≡ k
  after_back = go odd
    where
      go : (b : Bool) (k : ℕ) → kind_by s.partners b k < length s.copies → kind_by s.partners b (kind_by s.partners b k) ≡ k
      go false k h = unfold kind_by in refl
      go true k h = w.partner_back k h

  module _ (to : List ℕ) (is_map : Memᴰ to (allowed s odd)) where
    -- ---- the image of a row
    pub image-row : (r : ℕ) → r < length s.rows → kind_by s.partners odd (row_of s r).kind < length s.copies
        → (image_of s odd to r < length s.rows) × ImageOf s odd to (row_of s r) (row_of s (image_of s odd to r))
    unfolding image_of row_with moved_by row_of
    image-row r h k = (found.0, record { is_row = row_of_in s (image_of s odd to r) found.0; kind = head-eq_of_cons-eq equal; cells = tail-eq_of_cons-eq equal })
      where
        goal : List ℕ
        goal = kind_by s.partners odd (row_of s r).kind ∷ cells_by to (row_of s r).cells

        x : (q : Placement) × ImageOf s odd to (row_of s r) q
        x = w.image odd to is_map (row_of s r) (row_of_in s r h) k

        is : ◌≡◌ {A = List ℕ} goal (x.0.kind ∷ x.0.cells)
        is = sym (ap₂ (λ (n : ℕ) (l : List ℕ). n ∷ l) x.1.kind x.1.cells)

        found : (image_of s odd to r < length s.rows) × T (same ((row_of s (image_of s odd to r)).kind ∷ (row_of s (image_of s odd to r)).cells) goal)
        found =
            before_found no_row (λ q. same (q.kind ∷ q.cells) goal) s.rows
            (any_of (λ q. same (q.kind ∷ q.cells) goal) s.rows x.1.is_row (subst (λ (l : List ℕ). T (same (x.0.kind ∷ x.0.cells) l)) (sym is) (same_refl (x.0.kind ∷ x.0.cells))))

        equal : ◌≡◌ {A = List ℕ} ((row_of s (image_of s odd to r)).kind ∷ (row_of s (image_of s odd to r)).cells) goal
        equal = same→eq ((row_of s (image_of s odd to r)).kind ∷ (row_of s (image_of s odd to r)).cells) goal found.1

    -- cells that become the same are the same
    half : (q r : Placement) → Memᴰ q s.rows → Memᴰ r s.rows → cells_by to q.cells ≡ cells_by to r.cells → (n : ℕ) → Memᴰ n q.cells → Memᴰ n r.cells
    unfolding cells_by
    half q r a b e n m =
        let f : ℕ → ℕ = λ i. get_or to i 0 in
        let x = Memᴰ.of_map f r.cells (sort_at ltb (map f r.cells) (subst (λ (l : List ℕ). Memᴰ (f n) l) e (sort_of ltb ltb_tied (map f q.cells) (Memᴰ.map f m)))) in
        Memᴰ.cast ((w.permutes odd to is_map).apart n x.0 ((w.row q a).on_board n m) ((w.row r b).on_board x.0 x.1) (sym x.2)) x.1

    same_before : (q r : Placement) → Memᴰ q s.rows → Memᴰ r s.rows → q.kind ≡ r.kind → cells_by to q.cells ≡ cells_by to r.cells → q ≡ r
    same_before q r a b k e =
        w.by_cells q r a b k (ascending_unique ltb ltb_trans ltb_irrefl q.cells r.cells (w.row q a).ascend (w.row r b).ascend (half q r a b e) (half r q b a (sym e)))

    -- two rows of a kind with one image are one
    pub image_apart : (a b : ℕ) → a < length s.rows → b < length s.rows → (row_of s a).kind ≡ (row_of s b).kind → kind_by s.partners odd (row_of s a).kind < length s.copies
        → image_of s odd to a ≡ image_of s odd to b → a ≡ b
    image_apart a b h k e i f =
        let x = (image-row a h i).1 in
        let y = (image-row b k (subst (λ (n : ℕ). after n < length s.copies) e i)).1 in
        row_apart s w a b h k (same_before (row_of s a) (row_of s b) (row_of_in s a h) (row_of_in s b k) e (sym x.cells ∙ ap (λ (n : ℕ). (row_of s n).cells) f ∙ y.cells))

    -- ---- the images that are of kind k
    module _ (rs : List ℕ) (rows : RowNumbers s rs) (up : T (ascending ltb rs)) (k : ℕ) (is_kind : k < length s.copies) where
      -- a row that becomes of kind k
      becomes : (r : ℕ) → Memᴰ r (of_kind s (kind_by s.partners odd k) rs) → (r < length s.rows) × ((row_of s r).kind ≡ after k) × (after (row_of s r).kind ≡ k)
      becomes r m =
          let x = kinds-of s w (after k) rs m in
          let h = rows r x.0 in
          let i = (w.row (row_of s r) (row_of_in s r h)).of_kind in
          (h, x.1, ap after x.1 ∙ after_back k (subst (λ (n : ℕ). n < length s.copies) x.1 i))

      moved_up : T (ascending ltb (moved_rows s odd to k rs))
      unfolding moved_rows
      moved_up =
          sort_rows_ascending (map (image_of s odd to) (of_kind s (after k) rs))
          (apart_map (image_of s odd to) (of_kind s (after k) rs) (apart_ascending ltb ltb_irrefl (of_kind s (after k) rs) (kind_up s w (after k) rs up)) (λ a b m n e.
          let x = becomes a m in
          let y = becomes b n in
          image_apart a b x.0 y.0 (x.1 ∙ sym y.1) (subst (λ (i : ℕ). i < length s.copies) (sym x.2) is_kind) e))

      moved_at : (z : ℕ) → Memᴰ z (moved_rows s odd to k rs)
          → (r : ℕ) × Memᴰ r rs × (image_of s odd to r ≡ z) × (z < length s.rows) × ((row_of s z).kind ≡ k) × ((row_of s z).cells ≡ cells_by to (row_of s r).cells) × (after (row_of s r).kind ≡ k)
      unfolding moved_rows
      moved_at z m =
          let x = Memᴰ.of_map (image_of s odd to) (of_kind s (after k) rs) (sort_rows_at (map (image_of s odd to) (of_kind s (after k) rs)) m) in
          let r = x.0 in
          let y = becomes r x.1 in
          let i = image-row r y.0 (subst (λ (n : ℕ). n < length s.copies) (sym y.2) is_kind) in (
            r,
            (kinds-of s w (after k) rs x.1).0,
            x.2,
            subst (λ (n : ℕ). n < length s.rows) x.2 i.0,
            ap (λ (n : ℕ). (row_of s n).kind) (sym x.2) ∙ i.1.kind ∙ y.2,
            ap (λ (n : ℕ). (row_of s n).cells) (sym x.2) ∙ i.1.cells,
            y.2,
          )

      pub moved_kind : RowsOfKind s w k (moved_rows s odd to k rs)
      moved_kind z m = let x = moved_at z m in (x.3, x.4)

      pub moved_length : length (moved_rows s odd to k rs) ≡ length (of_kind s (kind_by s.partners odd k) rs)
      unfolding moved_rows
      moved_length = sort_rows_length (map (image_of s odd to) (of_kind s (after k) rs)) ∙ length-map (of_kind s (after k) rs) (image_of s odd to)

      pub images_kind : keep (λ q. eqb q.kind k) (moved_placements s odd to (map (row_of s) rs)) ≡ map (row_of s) (moved_rows s odd to k rs)
      unfolding moved_placements moved_rows moved_by
      images_kind =
          ascending_unique ahead ahead_trans ahead_irrefl (keep kind_k (keep is_image s.rows)) (map (row_of s) (moved_rows s odd to k rs))
          (keep_ascending ahead kind_k (keep is_image s.rows) (keep_ascending ahead is_image s.rows w.in_order))
          (rows_up s w (moved_rows s odd to k rs) (λ z m. (moved_kind z m).0) moved_up) there back
        where
          ms : List (List ℕ)
          ms = map (moved_by s.partners odd to) (map (row_of s) rs)

          kind_k : Placement → Bool
          kind_k q = eqb q.kind k

          is_image : Placement → Bool
          is_image q = any (same (q.kind ∷ q.cells)) ms

          there : (q : Placement) → Memᴰ q (keep kind_k (keep is_image s.rows)) → Memᴰ q (map (row_of s) (moved_rows s odd to k rs))
          there q m =
              let a = keep_at kind_k (keep is_image s.rows) m in
              let b = keep_at is_image s.rows a.0 in
              let c = any_at (same (q.kind ∷ q.cells)) ms b.1 in
              let d = Memᴰ.of_map (moved_by s.partners odd to) (map (row_of s) rs) c.1 in
              let e = Memᴰ.of_map (row_of s) rs d.1 in
              let equal : ◌≡◌ {A = List ℕ} (q.kind ∷ q.cells) (moved_by s.partners odd to (row_of s e.0)) =
              same→eq (q.kind ∷ q.cells) c.0 c.2 ∙ sym d.2 ∙ ap (moved_by s.partners odd to) (sym e.2) in
              found q b.0 (eqb→eq q.kind k a.1) e.0 e.1 equal
            where
              found : (q : Placement) → Memᴰ q s.rows → q.kind ≡ k → (r : ℕ) → Memᴰ r rs → ◌≡◌ {A = List ℕ} (q.kind ∷ q.cells) (after (row_of s r).kind ∷ cells_by to (row_of s r).cells)
                  → Memᴰ q (map (row_of s) (moved_rows s odd to k rs))
              found q row i r n e =
                  let h = rows r n in
                  let f : after (row_of s r).kind ≡ k = sym (head-eq_of_cons-eq e) ∙ i in
                  let g = subst (λ (z : ℕ). z < length s.copies) (sym f) is_kind in
                  let v = image-row r h g in
                  let here : (row_of s r).kind ≡ after k = sym (after_back (row_of s r).kind g) ∙ ap after f in
                  Memᴰ.cast (w.by_cells q (row_of s (image_of s odd to r)) row v.1.is_row (head-eq_of_cons-eq e ∙ sym v.1.kind) (tail-eq_of_cons-eq e ∙ sym v.1.cells))
                  (Memᴰ.map (row_of s) (sort_rows_of (map (image_of s odd to) (of_kind s (after k) rs)) (Memᴰ.map (image_of s odd to) (of-kinds s w (after k) rs n here))))

          back : (q : Placement) → Memᴰ q (map (row_of s) (moved_rows s odd to k rs)) → Memᴰ q (keep kind_k (keep is_image s.rows))
          back q m =
              let a = Memᴰ.of_map (row_of s) (moved_rows s odd to k rs) m in
              let x = moved_at a.0 a.1 in
              let z = row_of s a.0 in
              let equal : ◌≡◌ {A = List ℕ} (moved_by s.partners odd to (row_of s x.0)) (z.kind ∷ z.cells) = ap₂ (λ (n : ℕ) (l : List ℕ). n ∷ l) (x.6 ∙ sym x.4) (sym x.5) in
              Memᴰ.cast (sym a.2)
              (keep_of kind_k (keep is_image s.rows)
              (keep_of is_image s.rows (row_of_in s a.0 x.3)
              (any_of (same (z.kind ∷ z.cells)) ms (Memᴰ.map (moved_by s.partners odd to) (Memᴰ.map (row_of s) x.1)) (subst (λ (l : List ℕ). T (same (z.kind ∷ z.cells) l)) (sym equal) (same_refl (z.kind ∷ z.cells)))))
              (eqb_of x.4))
