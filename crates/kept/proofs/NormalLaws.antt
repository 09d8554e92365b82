-- Of the rows of a packing `normal` says what `kept` says of the packing: the images are the same, and so is the comparison. Assumes nothing.
use Prim.Native.Nat.{ℕ, ◌≤◌, ◌<◌}
use mathlib.Core.Bool.{Bool, true, false, not, ◌&&◌, ◌||◌}
use mathlib.Core.List.Memᴰ
use mathlib.Core.List.{List, [], ◌∷◌, map, Memᴰ}
use mathlib.Core.Path.{◌≡◌, refl, sym, ap, ap₂, ◌∙◌, subst}
use mathlib.Core.Logic.{◌⊎◌, inl, inr}
use native.Mathlib.Omega.{arith}
use lib.Dec.{T, ltb, leb, eqb, ltb→lt, nltb→le, leb→le, le→leb}
use lib.ListN.{length, get_or, length-map}
use Rattle.lists.specs.Lists.{all, any, keep, each, below, member, sort, same, less, ascending}
use Rattle.lists.proofs.TestLaws.{tests_same, decide, is_true, eqb_of}
use Rattle.lists.proofs.ListLaws.{all_append, all_same, all_at, all_of, any_of, all_map, keep_map, map_same, each_same_in, get_or_pos}
use Rattle.lists.proofs.SortLaws.{apart_ascending}
use Rattle.lists.proofs.RangeLaws.{below_at, below_of, member_at, member_of}
use Rattle.lists.proofs.CountLaws.{how_many_length, just_one}
use Rattle.definitions.specs.Grid.{Cell}
use Rattle.definitions.specs.Maps.{Map, map_cell, turns, mirrorings, product, identity}
use Rattle.definitions.specs.Kinds.{Kind}
use Rattle.definitions.specs.Placements.{Placement, Compiled, compile}
use Rattle.definitions.specs.Packing.{ahead, same_placement, covering, used, limits, placed, covers_once, within_copies, Packing, is_packing}
use Rattle.definitions.specs.Kept.{Identify, kind_after, cell_after, moved, image, compared, smaller, symmetries, turned_images, mirrored_images, images, kept}
use Rattle.definitions.specs.Kept.Identify.{None, Turned, Mirrored}
use Rattle.definitions.specs.Refusals.{Call, tray_of, refusal}
use Rattle.theorems.proofs.PackingLaws.{ahead_irrefl, same_placement_refl, packing_of, packing_test, packing_placed, packing_within, packing_once, packing_at}
use Rattle.theorems.proofs.SetDownLaws.{placement_once}
use Rattle.theorems.proofs.ImageLaws.{Numbered, Onto-placement, after_below, after_after, after_still, image-at, image-of, image_ascending, same_cells, numbers_inj, has_image}
use Rattle.theorems.proofs.ActLaws.{maps_of, Allowed, allowed_back, identity_then_cell, symmetry_at, on_cells, act_inj}
use Rattle.theorems.proofs.GeometryLaws.{W, numbered_cells, to_filled, of_filled, whole, partners}
use Rattle.theorems.proofs.CarryLaws.{placement_image, turned_packing}
use Rattle.rows.specs.Systems.{System, cell_images, system_of, kind_by, cells_by, moved_by}
use Rattle.rows.specs.Lawful.{Lawful, allowed}
use Rattle.kept.specs.Normal.{row_of, of_kind, moved_rows, key_of, image_key, image_smaller, mirrorable, normal, InKinds}
use Rattle.rows.proofs.SystemMapLaws.{takes_to, map_permutes, map_image, kind_is, kind_back}
use Rattle.kept.proofs.NormalRowLaws.{Comparable, comparable, RowNumbers, of-rows, row_of_in, rows_up, kinds-of, of-kinds, by_kinds, coded, keys_same}
use Rattle.kept.proofs.NormalImageLaws.{moved_placements, after_back, moved_kind, moved_length, images_kind}

-- ---- any lawful system
-- rows ascend with their numbers, and so stand kind by kind
pub rows_ascend : (s : System) → Lawful s → (rs : List ℕ) → T (all (λ r. ltb r (length s.rows)) rs) → T (ascending ltb rs) → T (ascending ahead (map (row_of s) rs))
rows_ascend s w rs h t = rows_up s (comparable s w) rs (of-rows s rs h) t

pub in_kinds : (s : System) → Lawful s → (rs : List ℕ) → T (all (λ r. ltb r (length s.rows)) rs) → T (ascending ltb rs) → InKinds s rs
in_kinds s w rs h t = by_kinds s (comparable s w) rs (of-rows s rs h) t

-- ---- tests
module _ {A : Type 0} where
  -- a test that needs another passes everywhere where that fails
  all_unless : (b : Bool) (p : A → Bool) (xs : List A) → all (λ x. not (b && p x)) xs ≡ not b || all (λ x. not (p x)) xs
  all_unless true p xs = refl
  all_unless false p xs = none xs
    where
      none : (ys : List A) → all (λ x. true) ys ≡ true
      none [] = refl
      none (y ∷ ys) = none ys

  some_length : {x : A} (xs : List A) → Memᴰ x xs → 0 < length xs
  some_length [] m = absurd (Memᴰ.not-nil m)
  some_length (y ∷ ys) m = omega arith

module _ (l : Call) (ok : refusal l ≡ 0) where
  abbrev C : Compiled
  C = compile (tray_of l)

  abbrev S : System
  S = system_of (tray_of l)

  abbrev N : Numbered C
  N = numbered_cells l ok

  abbrev act : Map → Cell → Cell
  act m u = map_cell m C.board.sides u

  abbrev Symmetry : Bool → Map → Type 0
  Symmetry odd m = Memᴰ m (symmetries C.board (maps_of odd))

  fine : (odd : Bool) (m : Map) → Symmetry odd m → Allowed C.board (whole l ok) odd m
  fine odd m k = symmetry_at C (W l ok) N (whole l ok) (to_filled l ok) (of_filled l ok) odd m k

  many : length S.copies ≡ length C.kinds
  unfolding system_of limits
  many = length-map C.kinds (λ (d : Kind). length d.copies)

  -- ---- the tray's system
  facts : Comparable S
  unfolding system_of limits
  facts =
      record {
        in_order = (W l ok).in_order;
        row = λ q m. record {
          of_kind = (let e = many in let h = (W l ok).of_kinds q m in omega arith);
          ascend = (W l ok).cells_ascend q m;
          on_board = (W l ok).on_board q m;
          covers_p = (W l ok).covers_p q m;
          from_p = (W l ok).from_p q m;
        };
        by_cells = placement_once l ok;
        permutes = map_permutes l ok;
        partner_back = λ k h. ap (kind_by S.partners true) (kind_is l ok true k) ∙ kind_is l ok true (kind_after C true k) ∙ kind_back l ok k (within true k h);
        image = λ odd f m q row h. map_image l ok odd f m q row (within odd q.kind h);
      }
    where
      within : (odd : Bool) (k : ℕ) → kind_by S.partners odd k < length S.copies → kind_after C odd k < length C.kinds
      within odd k h = let e = many in let i = kind_is l ok odd k in omega arith

  within-copies : (R : List Placement) → Packing C R → (i : ℕ) → i < length S.copies → used R i ≤ get_or S.copies i 0
  unfolding system_of
  within-copies R h i b = packing_within C R h i (subst (λ (n : ℕ). i < n) many b)

  in-maps : (odd : Bool) (m : Map) → Symmetry odd m → Memᴰ (cell_images C m) (allowed S odd)
  unfolding system_of
  in-maps false m k = Memᴰ.map (cell_images C) k
  in-maps true m k = Memᴰ.map (cell_images C) k

  -- ---- images by scan numbers
  moved_same : (odd : Bool) (m : Map) (q : Placement) → Memᴰ q C.placements → moved C odd (act m) q ≡ moved_by S.partners odd (cell_images C m) q
  unfolding moved moved_by cells_by
  moved_same odd m q row =
      ap₂ (λ (n : ℕ) (xs : List ℕ). n ∷ xs) (sym (kind_is l ok odd q.kind))
      (ap (sort ltb) (map_same (cell_after C (act m)) (λ n. get_or (cell_images C m) n 0) q.cells (λ n a. sym (takes_to l ok m n ((W l ok).on_board q row n a)))))

  image_same : (odd : Bool) (m : Map) (P : List Placement) → ((q : Placement) → Memᴰ q P → Memᴰ q C.placements) → image C odd (act m) P ≡ moved_placements S odd (cell_images C m) P
  unfolding image moved_placements system_of
  image_same odd m P h =
      ap (λ (ms : List (List ℕ)). keep (λ q. any (same (q.kind ∷ q.cells)) ms) C.placements)
      (map_same (moved C odd (act m)) (moved_by S.partners odd (cell_images C m)) P (λ q a. moved_same odd m q (h q a)))

  module _ (rs : List ℕ) (rows : RowNumbers S rs) (up : T (ascending ltb rs)) (g : Packing C (map (row_of S) rs)) where
    abbrev P : List Placement
    P = map (row_of S) rs

    row_placed : (q : Placement) → Memᴰ q P → Memᴰ q C.placements
    row_placed = packing_placed C P g

    module _ (odd : Bool) (m : Map) (k : Symmetry odd m) where
      abbrev to : List ℕ
      to = cell_images C m

      abbrev Q : List Placement
      Q = image C odd (act m) P

      image_kind : (i : ℕ) → i < length S.copies → keep (λ q. eqb q.kind i) Q ≡ map (row_of S) (moved_rows S odd to i rs)
      image_kind i h = ap (keep (λ q. eqb q.kind i)) (image_same odd m P row_placed) ∙ images_kind S facts odd to (in-maps odd m k) rs rows up i h

      smaller_same : image_smaller S odd rs to ≡ smaller C Q P
      unfolding image_smaller image_key key_of smaller compared of_kind
      smaller_same =
          keys_same S facts (λ i. moved_rows S odd to i rs) (λ i. of_kind S i rs) (below (length S.copies))
          (λ i a. moved_kind S facts odd to (in-maps odd m k) rs rows up i (below_at (length S.copies) a))
          (λ i a x b. let y = kinds-of S facts i rs b in (rows x y.0, y.1))
          ∙ ap₂ (λ (a b : List ℕ). less a b) images_are rows_are
        where
          images_are : each (below (length S.copies)) (λ i. coded (map (row_of S) (moved_rows S odd to i rs))) ≡ each (below (length C.kinds)) (λ i. coded (keep (λ q. eqb q.kind i) Q))
          images_are =
              each_same_in (λ i. coded (map (row_of S) (moved_rows S odd to i rs))) (λ i. coded (keep (λ q. eqb q.kind i) Q)) (below (length S.copies))
              (λ i a. ap coded (sym (image_kind i (below_at (length S.copies) a))))
              ∙ ap (λ (n : ℕ). each (below n) (λ i. coded (keep (λ q. eqb q.kind i) Q))) many

          rows_are : each (below (length S.copies)) (λ i. coded (map (row_of S) (of_kind S i rs))) ≡ each (below (length C.kinds)) (λ i. coded (keep (λ q. eqb q.kind i) P))
          rows_are =
              each_same_in (λ i. coded (map (row_of S) (of_kind S i rs))) (λ i. coded (keep (λ q. eqb q.kind i) P)) (below (length S.copies))
              (λ i a. ap coded (sym (keep_map (row_of S) (λ q. eqb q.kind i) rs)))
              ∙ ap (λ (n : ℕ). each (below n) (λ i. coded (keep (λ q. eqb q.kind i) P))) many

      -- of kind i there are as many images as rows that become of kind i
      used_same : (i : ℕ) → i < length S.copies → used Q i ≡ length (of_kind S (kind_by S.partners odd i) rs)
      unfolding used
      used_same i h =
          how_many_length (λ q. eqb q.kind i) Q ∙ ap length (image_kind i h) ∙ length-map (moved_rows S odd to i rs) (row_of S)
          ∙ moved_length S facts odd to (in-maps odd m k) rs rows up i h

    -- ---- a turned packing is a packing
    turn_same : (m : Map) → Symmetry false m → is_packing C (image C false (act m) P) && smaller C (image C false (act m) P) P ≡ image_smaller S false rs (cell_images C m)
    turn_same m k =
        ap₂ (λ (a b : Bool). a && b) (is_true (is_packing C (image C false (act m) P)) (packing_test C (image C false (act m) P) (turned_packing l ok m (fine false m k) P g)))
        (sym (smaller_same false m k))

    -- ---- a mirrored packing is one exactly if the box holds the mirrored pieces
    module _ (m : Map) (k : Symmetry true m) where
      abbrev partner : ℕ → ℕ
      partner i = kind_by S.partners true i

      abbrev M : List Placement
      M = image C true (act m) P

      on : (u : Cell) → Memᴰ u C.cells → Memᴰ (act m u) C.cells
      on = on_cells C (W l ok) N (whole l ok) (to_filled l ok) (of_filled l ok) true m (fine true m k)

      apart : (u v : Cell) → Memᴰ u C.cells → Memᴰ v C.cells → act m u ≡ act m v → u ≡ v
      apart = act_inj C (W l ok) N (whole l ok) (to_filled l ok) (of_filled l ok) (partners l ok) true m (fine true m k)

      -- a used kind becomes a kind of the box where the image is a packing
      has_partner : Packing C M → (r i : ℕ) → Memᴰ r (of_kind S i rs) → partner i < length S.copies
      has_partner h r i a =
          let x = kinds-of S facts i rs a in
          let z = has_image C (W l ok) N true (act m) on apart P M g h refl (row_of S r) (Memᴰ.map (row_of S) x.0) in
          let b = (W l ok).of_kinds z.0 (packing_placed C M h z.0 z.1) in
          let e = z.2.kinds ∙ ap (kind_after C true) x.1 ∙ sym (kind_is l ok true i) in
          let n = many in
          omega arith

      to_mirrorable : Packing C M → T (mirrorable S rs)
      unfolding mirrorable
      to_mirrorable h =
          all_of (λ i. leb (length (of_kind S i rs)) (get_or S.copies (partner i) 0)) (below (length S.copies))
          (λ i a. le→leb (length (of_kind S i rs)) (get_or S.copies (partner i) 0) (go i (of_kind S i rs) refl))
        where
          enough : (i : ℕ) → partner i < length S.copies → length (of_kind S i rs) ≤ get_or S.copies (partner i) 0
          enough i b =
              let u = used_same true m k (partner i) b in
              let e : length (of_kind S (partner (partner i)) rs) ≡ length (of_kind S i rs) = ap (λ (n : ℕ). length (of_kind S n rs)) (after_back S facts true i b) in
              let p = within-copies M h (partner i) b in
              omega arith

          go : (i : ℕ) (xs : List ℕ) → of_kind S i rs ≡ xs → length (of_kind S i rs) ≤ get_or S.copies (partner i) 0
          go i [] e = let z : length (of_kind S i rs) ≡ 0 = ap length e in omega arith
          go i (x ∷ xs) e = enough i (has_partner h x i (subst (λ (ys : List ℕ). Memᴰ x ys) (sym e) (Memᴰ.head refl)))

      module _ (t : T (mirrorable S rs)) where
        enough_at : (i : ℕ) → i < length S.copies → length (of_kind S i rs) ≤ get_or S.copies (partner i) 0
        unfolding mirrorable
        enough_at i b =
            leb→le (length (of_kind S i rs)) (get_or S.copies (partner i) 0)
            (all_at (λ n. leb (length (of_kind S n rs)) (get_or S.copies (partner n) 0)) (below (length S.copies)) t (below_of (length S.copies) b))

        -- each row has its image
        has : (r : Placement) → Memᴰ r P → (q : Placement) × Memᴰ q C.placements × Onto-placement C (W l ok) N true (act m) r q
        has r a = placement_image l ok true m (fine true m k) r (row_placed r a) (becomes (Memᴰ.of_map (row_of S) rs a))
          where
            becomes : (n : ℕ) × Memᴰ n rs × (row_of S n ≡ r) → kind_after C true r.kind < length C.kinds
            becomes x =
                let i = r.kind in
                let b = some_length (of_kind S i rs) (of-kinds S facts i rs x.1 (ap (λ (q : Placement). q.kind) x.2)) in
                let n = many in
                let o = (W l ok).of_kinds r (row_placed r a) in
                let c = enough_at i (omega arith) in
                let d = get_or_pos S.copies (partner i) (omega arith) in
                let e = kind_is l ok true i in
                omega arith

        -- two placements that are images of one are the same
        one_image : (q s r : Placement) → Memᴰ q C.placements → Memᴰ s C.placements
            → Onto-placement C (W l ok) N true (act m) r q → Onto-placement C (W l ok) N true (act m) r s → q ≡ s
        one_image q s r a b x y =
            same_cells C (W l ok) N q s a b (x.kinds ∙ sym y.kinds)
            (λ n c. let z = x.back n c in Memᴰ.cast (sym z.2) (y.there z.0 z.1)) (λ n c. let z = y.back n c in Memᴰ.cast (sym z.2) (x.there z.0 z.1))

        covered : (n : ℕ) → n < length C.cells → covering M n ≡ 1
        unfolding covering
        covered n h =
            just_one (λ z. member n z.cells) M (apart_ascending ahead ahead_irrefl M (image_ascending C (W l ok) N true (act m) P)) q.0
            (image-of C (W l ok) N true (act m) P q.0 r.0 q.1 r.1 q.2) (member_of q.0.cells on_n) only
          where
            f : (z : Map) × Allowed C.board (whole l ok) true z × (product z m ≡ identity) × (product m z ≡ identity)
            f = allowed_back C.board (whole l ok) true m (fine true m k)

            back_on : (u : Cell) → Memᴰ u C.cells → Memᴰ (act f.0 u) C.cells
            back_on = on_cells C (W l ok) N (whole l ok) (to_filled l ok) (of_filled l ok) true f.0 f.1

            back : ℕ
            back = cell_after C (act f.0) n

            back_below : back < length C.cells
            back_below = after_below C (W l ok) N (act f.0) back_on n h

            there : cell_after C (act m) back ≡ n
            there =
                after_after C (W l ok) N (act f.0) (act m) back_on n h
                ∙ after_still C (W l ok) N (λ u. act m (act f.0 u)) (λ u a. identity_then_cell C.board (whole l ok) true f.0 m f.1 (fine true m k) f.3 u (to_filled l ok u a)) n h

            r : (z : Placement) × Memᴰ z P × Memᴰ back z.cells
            r = packing_at C P g back back_below

            q : (z : Placement) × Memᴰ z C.placements × Onto-placement C (W l ok) N true (act m) r.0 z
            q = has r.0 r.1

            on_n : Memᴰ n q.0.cells
            on_n = Memᴰ.cast (sym there) (q.2.there back r.2)

            only : (s : Placement) → Memᴰ s M → T (member n s.cells) → s ≡ q.0
            only s a u =
                let x = image-at C (W l ok) N true (act m) P s a in
                let y = x.1.2.back n (member_at n s.cells u) in
                let i = numbers_inj C (W l ok) N (act m) on apart y.0 back ((W l ok).on_board x.1.0 (row_placed x.1.0 x.1.1) y.0 y.1) back_below (y.2 ∙ sym there) in
                let e : x.1.0 ≡ r.0 = packing_once C P g back back_below x.1.0 r.0 x.1.1 r.1 (Memᴰ.cast (sym i) y.1) r.2 in
                one_image s q.0 r.0 x.0 q.1 (subst (λ (z : Placement). Onto-placement C (W l ok) N true (act m) z s) e x.1.2) q.2

        few : (i : ℕ) → i < length S.copies → used M i ≤ get_or S.copies i 0
        few i b = let u = used_same true m k i b in let v = go (decide (ltb (partner i) (length S.copies))) in omega arith
          where
            none : (xs : List ℕ) → of_kind S (partner i) rs ≡ xs → length S.copies ≤ partner i → length (of_kind S (partner i) rs) ≤ get_or S.copies i 0
            none [] e h = let z : length (of_kind S (partner i) rs) ≡ 0 = ap length e in omega arith
            none (x ∷ xs) e h =
                let y = kinds-of S facts (partner i) rs (subst (λ (ys : List ℕ). Memᴰ x ys) (sym e) (Memᴰ.head refl)) in
                let z = (facts.row (row_of S x) (row_of_in S x (rows x y.0))).of_kind in
                let f = y.1 in
                absurd (omega arith)

            go : T (ltb (partner i) (length S.copies)) ⊎ T (not (ltb (partner i) (length S.copies))) → length (of_kind S (partner i) rs) ≤ get_or S.copies i 0
            go (inl h) =
                let c = ltb→lt (partner i) (length S.copies) h in
                subst (λ (n : ℕ). length (of_kind S (partner i) rs) ≤ get_or S.copies n 0) (after_back S facts true i c) (enough_at (partner i) c)
            go (inr h) = none (of_kind S (partner i) rs) refl (nltb→le (partner i) (length S.copies) h)

        of_mirrorable : Packing C M
        unfolding placed covers_once within_copies system_of
        of_mirrorable =
            record {
              a_set = image_ascending C (W l ok) N true (act m) P;
              of_placements =
                  all_of (λ q. any (same_placement q) C.placements) M (λ q a. any_of (same_placement q) C.placements (image-at C (W l ok) N true (act m) P q a).0 (same_placement_refl q));
              covers = all_of (λ n. eqb (covering M n) 1) (below (length C.cells)) (λ n a. eqb_of (covered n (below_at (length C.cells) a)));
              within =
                  all_of (λ i. leb (used M i) (get_or (limits C) i 0)) (below (length C.kinds))
                  (λ i a. le→leb (used M i) (get_or (limits C) i 0) (few i (subst (λ (n : ℕ). i < n) (sym many) (below_at (length C.kinds) a))));
            }

      mirror_same : is_packing C M && smaller C M P ≡ mirrorable S rs && image_smaller S true rs (cell_images C m)
      mirror_same =
          ap₂ (λ (a b : Bool). a && b) (tests_same (is_packing C M) (mirrorable S rs) (λ t. to_mirrorable (packing_of C M t)) (λ t. packing_test C M (of_mirrorable t)))
          (sym (smaller_same true m k))

    -- ---- all images
    abbrev allowed_image : List Placement → Bool
    allowed_image R = not (is_packing C R && smaller C R P)

    turned_same : all allowed_image (turned_images C P) ≡ all (λ to. not (image_smaller S false rs to)) S.turned
    unfolding turned_images system_of
    turned_same =
        all_map (λ m. image C false (act m) P) allowed_image (symmetries C.board turns)
        ∙ all_same (λ m. allowed_image (image C false (act m) P)) (λ m. not (image_smaller S false rs (cell_images C m))) (symmetries C.board turns) (λ m k. ap not (turn_same m k))
        ∙ sym (all_map (cell_images C) (λ to. not (image_smaller S false rs to)) (symmetries C.board turns))

    mirrored_same : all allowed_image (mirrored_images C P) ≡ not (mirrorable S rs) || all (λ to. not (image_smaller S true rs to)) S.mirrored
    unfolding mirrored_images system_of
    mirrored_same =
        all_map (λ m. image C true (act m) P) allowed_image (symmetries C.board mirrorings)
        ∙ all_same (λ m. allowed_image (image C true (act m) P)) (λ m. not (mirrorable S rs && image_smaller S true rs (cell_images C m))) (symmetries C.board mirrorings) (λ m k. ap not (mirror_same m k))
        ∙ all_unless (mirrorable S rs) (λ m. image_smaller S true rs (cell_images C m)) (symmetries C.board mirrorings)
        ∙ ap (λ (b : Bool). not (mirrorable S rs) || b) (sym (all_map (cell_images C) (λ to. not (image_smaller S true rs to)) (symmetries C.board mirrorings)))

    same_kept : (i : Identify) → normal S i rs ≡ kept C i P
    unfolding normal kept images
    same_kept None = refl
    same_kept Turned = sym turned_same
    same_kept Mirrored = sym (all_append allowed_image (turned_images C P) (mirrored_images C P) ∙ ap₂ (λ (a b : Bool). a && b) turned_same mirrored_same)

  -- what is kept by row numbers is what is kept
  pub normal_same : (i : Identify) (rs : List ℕ) → T (all (λ r. ltb r (length (system_of (tray_of l)).rows)) rs) → T (ascending ltb rs)
      → Packing (compile (tray_of l)) (map (row_of (system_of (tray_of l))) rs) → normal (system_of (tray_of l)) i rs ≡ kept (compile (tray_of l)) i (map (row_of (system_of (tray_of l))) rs)
  normal_same i rs h t g = same_kept rs (of-rows S rs h) t g i
