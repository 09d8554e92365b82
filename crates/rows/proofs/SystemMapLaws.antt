-- The maps of an accepted tray's system are its board's allowed maps by scan numbers, so they are a group that takes rows to rows. Assumes nothing.
use Prim.Native.Nat.{ℕ, ◌<◌}
use mathlib.Core.Bool.{Bool, true, false, cond, not}
use mathlib.Core.List.Memᴰ
use mathlib.Core.List.{List, [], ◌∷◌, map, Memᴰ}
use mathlib.Core.Path.{◌≡◌, refl, sym, ap, ◌∙◌, subst}
use mathlib.Core.Logic.{◌⊎◌, inl, inr}
use native.Mathlib.Omega.{arith}
use lib.Dec.{T, ltb, ltb→lt, nltb→le}
use lib.ListN.{length, get_or, take, drop, length-map, get_or-eq_default}
use Rattle.lists.specs.Lists.{cons_if, keep, below, sort}
use Rattle.lists.proofs.TestLaws.{ltb_trans, ltb_irrefl, decide, is_true, ltb_tied}
use Rattle.lists.proofs.ListLaws.{map_still, keep_of, map_same}
use Rattle.lists.proofs.SortLaws.{sort_ascending, ascending_unique, sort_at, sort_of}
use Rattle.lists.proofs.RangeLaws.{below_at, length_below, get_or_below}
use Rattle.lists.proofs.NthLaws.{nth_get_or, get_or_nth}
use Rattle.definitions.specs.Grid.{Cell, same_grid}
use Rattle.definitions.specs.Maps.{Map, map_cell, map_grid, turns, mirrorings, product, identity, transform, permutations, parity}
use Rattle.definitions.specs.Scan.{scan_number}
use Rattle.definitions.specs.Kinds.{Kind, kinds_of}
use Rattle.definitions.specs.Placements.{Placement, Compiled, compile}
use Rattle.definitions.specs.Kept.{kind_after, cell_after, symmetries}
use Rattle.definitions.specs.Refusals.{Call, tray_of, refusal}
use Rattle.theorems.proofs.GroupLaws.{identity_cell, same_grid_of}
use Rattle.theorems.proofs.ImageLaws.{Numbered, Onto-placement, after_below, after_after, after_still, numbers_inj}
use Rattle.theorems.proofs.ActLaws.{plus, maps_of, Allowed, allowed_identity, allowed_product, allowed_back, allowed_then, identity_then_cell, symmetry_at, on_cells, act_inj}
use Rattle.theorems.proofs.PartnerLaws.{partner-back}
use Rattle.theorems.proofs.GeometryLaws.{piece_whole, W, numbered_cells, to_filled, of_filled, whole, partners}
use Rattle.theorems.proofs.CarryLaws.{placement_image}
use Rattle.rows.specs.Systems.{System, cell_images, system_of, kind_by, cells_by}
use Rattle.rows.specs.Lawful.{Permutes, ImageOf, allowed, after_by, differ}

-- ---- lists of numbers
pub map_below : (f g : ℕ → ℕ) (n : ℕ) → ((k : ℕ) → k < n → f k ≡ g k) → map f (below n) ≡ map g (below n)
map_below f g n h = map_same f g (below n) (λ k m. h k (below_at n m))

differ_plus : (a b : Bool) → plus b a ≡ differ a b
differ_plus false false = refl
differ_plus false true = refl
differ_plus true false = refl
differ_plus true true = refl

-- the first of all turns moves nothing
turns_first : turns ≡ identity ∷ drop 1 turns
unfolding identity turns transform permutations parity
turns_first = refl

module _ (l : Call) (ok : refusal l ≡ 0) where
  abbrev C : Compiled
  C = compile (tray_of l)

  abbrev S : System
  S = system_of (tray_of l)

  abbrev size : ℕ
  size = length C.cells

  abbrev N : Numbered C
  N = numbered_cells l ok

  abbrev act : Map → Cell → Cell
  act m u = map_cell m C.board.sides u

  abbrev Fine : Bool → Map → Type 0
  Fine odd m = Allowed C.board (whole l ok) odd m

  -- ---- a map of the system is where an allowed map takes each cell
  allowed_at : (odd : Bool) (f : List ℕ) → Memᴰ f (allowed S odd) → (m : Map) × Fine odd m × (cell_images C m ≡ f)
  unfolding system_of
  allowed_at false f k =
      let r = Memᴰ.of_map (cell_images C) (symmetries C.board turns) k in
      (r.0, symmetry_at C (W l ok) N (whole l ok) (to_filled l ok) (of_filled l ok) false r.0 r.1, r.2)
  allowed_at true f k =
      let r = Memᴰ.of_map (cell_images C) (symmetries C.board mirrorings) k in
      (r.0, symmetry_at C (W l ok) N (whole l ok) (to_filled l ok) (of_filled l ok) true r.0 r.1, r.2)

  symmetry_of : (odd : Bool) (m : Map) → Fine odd m → Memᴰ m (symmetries C.board (maps_of odd))
  unfolding symmetries
  symmetry_of odd m a = keep_of (λ (n : Map). same_grid (map_grid n C.board) C.board) (maps_of odd) a.is_map (same_grid_of a.on_itself)

  allowed_of : (odd : Bool) (m : Map) → Fine odd m → Memᴰ (cell_images C m) (allowed S odd)
  unfolding system_of
  allowed_of false m a = Memᴰ.map (cell_images C) (symmetry_of false m a)
  allowed_of true m a = Memᴰ.map (cell_images C) (symmetry_of true m a)

  stays : (odd : Bool) (m : Map) → Fine odd m → (u : Cell) → Memᴰ u C.cells → Memᴰ (act m u) C.cells
  stays odd m a = on_cells C (W l ok) N (whole l ok) (to_filled l ok) (of_filled l ok) odd m a

  pub takes_to : (m : Map) (n : ℕ) → n < size → get_or (cell_images C m) n 0 ≡ cell_after C (act m) n
  unfolding cell_images
  takes_to m n h = get_or_below (cell_after C (act m)) 0 size n h

  -- ---- no two cells to one
  permutes_map : (odd : Bool) (m : Map) → Fine odd m → Permutes size (cell_images C m)
  permutes_map odd m a =
      record {
        each = unfold cell_images in length-map (below size) (cell_after C (act m)) ∙ length_below size;
        onto = λ n h. subst (λ (k : ℕ). k < size) (sym (takes_to m n h)) (after_below C (W l ok) N (act m) (stays odd m a) n h);
        apart = λ i n g h e.
            numbers_inj C (W l ok) N (act m) (stays odd m a) (act_inj C (W l ok) N (whole l ok) (to_filled l ok) (of_filled l ok) (partners l ok) odd m a) i n g h
            (sym (takes_to m i g) ∙ e ∙ takes_to m n h);
      }

  pub map_permutes : (odd : Bool) (f : List ℕ) → Memᴰ f (allowed S odd) → Permutes size f
  map_permutes odd f k = let r = allowed_at odd f k in subst (λ (g : List ℕ). Permutes size g) r.2 (permutes_map odd r.0 r.1)

  -- ---- the group
  pub map_identity : take 1 (allowed S false) ≡ below size ∷ []
  unfolding system_of symmetries
  map_identity =
      ap (λ (ms : List Map). take 1 (map (cell_images C) (keep on_itself ms))) turns_first
      ∙ ap (λ (b : Bool). take 1 (map (cell_images C) (cons_if b identity (keep on_itself (drop 1 turns))))) (is_true (on_itself identity) (same_grid_of (allowed_identity C.board (whole l ok)).on_itself))
      ∙ ap (λ (f : List ℕ). f ∷ []) still
    where
      on_itself : Map → Bool
      on_itself m = same_grid (map_grid m C.board) C.board

      still : cell_images C identity ≡ below size
      still = unfold cell_images in map_still (cell_after C (act identity)) (below size) (λ n m. after_still C (W l ok) N (act identity) (λ u k. identity_cell C.board.sides u) n (below_at size m))

  -- one map after the other, cell by cell
  twice : (odd : Bool) (m n : Map) → Fine odd m → (k : ℕ) → k < size → get_or (cell_images C n) (get_or (cell_images C m) k 0) 0 ≡ cell_after C (λ u. act n (act m u)) k
  twice odd m n a k h =
      ap (λ (i : ℕ). get_or (cell_images C n) i 0) (takes_to m k h)
      ∙ takes_to n (cell_after C (act m) k) (after_below C (W l ok) N (act m) (stays odd m a) k h)
      ∙ after_after C (W l ok) N (act m) (act n) (stays odd m a) k h

  pub map_inverse : (odd : Bool) (f : List ℕ) → Memᴰ f (allowed S odd) → (g : List ℕ) × Memᴰ g (allowed S odd) × (after_by size g f ≡ below size)
  map_inverse odd f k =
      let r = allowed_at odd f k in
      let m = r.0 in
      let b = allowed_back C.board (whole l ok) odd m r.1 in
      let n = b.0 in (
        cell_images C n,
        allowed_of odd n b.1,
        ap (after_by size (cell_images C n)) (sym r.2)
            ∙ map_still (λ i. get_or (cell_images C n) (get_or (cell_images C m) i 0) 0) (below size) (λ i q.
            twice odd m n r.1 i (below_at size q)
            ∙ after_still C (W l ok) N (λ u. act n (act m u)) (λ u p. identity_then_cell C.board (whole l ok) odd m n r.1 b.1 b.2 u (to_filled l ok u p)) i (below_at size q)),
      )

  after_product : (odd even : Bool) (m n : Map) → Fine odd m → Fine even n → (k : ℕ) → k < size → cell_after C (λ u. act n (act m u)) k ≡ cell_after C (act (product n m)) k
  unfolding cell_after
  after_product odd even m n a b k h =
      let u = get_or C.cells k (record { x = 0; y = 0; z = 0 }) in
      ap (scan_number C.cells) (allowed_then C.board (whole l ok) even odd n m b a u (to_filled l ok u (N.cell_in k h)))

  product_map : (odd even : Bool) (m n : Map) → Fine odd m → Fine even n → cell_images C (product n m) ≡ after_by size (cell_images C n) (cell_images C m)
  product_map odd even m n a b = (unfold cell_images in
      map_below (cell_after C (act (product n m))) (λ k. get_or (cell_images C n) (get_or (cell_images C m) k 0) 0) size
      (λ k h. sym (twice odd m n a k h ∙ after_product odd even m n a b k h)))

  pub map_product : (odd even : Bool) (f g : List ℕ) → Memᴰ f (allowed S odd) → Memᴰ g (allowed S even) → Memᴰ (after_by size g f) (allowed S (differ odd even))
  map_product odd even f g j k =
      let r = allowed_at odd f j in
      let s = allowed_at even g k in
      let x = allowed_of (plus even odd) (product s.0 r.0) (allowed_product C.board (whole l ok) even odd s.0 r.0 s.1 r.1) in
      subst (λ (b : Bool). Memᴰ (after_by size g f) (allowed S b)) (differ_plus odd even)
      (subst (λ (h : List ℕ). Memᴰ h (allowed S (plus even odd)))
      (product_map odd even r.0 s.0 r.1 s.1 ∙ ap (λ (h : List ℕ). after_by size h (cell_images C r.0)) s.2 ∙ ap (after_by size g) r.2) x)

  -- ---- kinds after a map
  pub kind_is : (odd : Bool) (k : ℕ) → kind_by S.partners odd k ≡ kind_after C odd k
  unfolding kind_by kind_after system_of
  kind_is odd k = ap (λ (n : ℕ). cond odd (get_or (map (λ d. d.partner) C.kinds) k n) k) (length-map C.kinds (λ (d : Kind). d.partner))

  pub kind_back : (k : ℕ) → kind_after C true k < length C.kinds → kind_after C true (kind_after C true k) ≡ k
  unfolding kind_after compile
  kind_back k h = go (decide (ltb k (length ks)))
    where
      ks : List Kind
      ks = kinds_of (tray_of l)

      ps : List ℕ
      ps = map (λ d. d.partner) ks

      j : ℕ
      j = get_or ps k (length ks)

      go : T (ltb k (length ks)) ⊎ T (not (ltb k (length ks))) → get_or ps j (length ks) ≡ k
      go (inl t) =
          let x = get_or_nth ks k (ltb→lt k (length ks) t) in
          let y = get_or_nth ks j h in
          nth_get_or (λ (d : Kind). d.partner) (length ks) ks j y.1
          ∙ sym (partner-back (tray_of l) (piece_whole l ok) k j x.0 y.0 x.1 y.1 (nth_get_or (λ (d : Kind). d.partner) (length ks) ks k x.1))
      go (inr t) =
          let a = nltb→le k (length ks) t in
          let b = length-map ks (λ (d : Kind). d.partner) in
          let e : j ≡ length ks = get_or-eq_default ps (length ks) (omega arith) in
          absurd (omega arith)

  -- ---- each row has its image
  pub map_image : (odd : Bool) (f : List ℕ) → Memᴰ f (allowed S odd) → (q : Placement) → Memᴰ q C.placements → kind_after C odd q.kind < length C.kinds
      → (r : Placement) × ImageOf S odd f q r
  unfolding cells_by system_of
  map_image odd f k q row h = (r.0, record { is_row = r.1; kind = r.2.kinds ∙ sym (kind_is odd q.kind); cells = cells })
    where
      m : (m : Map) × Fine odd m × (cell_images C m ≡ f)
      m = allowed_at odd f k

      r : (r : Placement) × Memᴰ r C.placements × Onto-placement C (W l ok) N odd (act m.0) q r
      r = placement_image l ok odd m.0 m.1 q row h

      moved : List ℕ
      moved = map (cell_after C (act m.0)) q.cells

      sorted : r.0.cells ≡ sort ltb moved
      sorted =
          ascending_unique ltb ltb_trans ltb_irrefl r.0.cells (sort ltb moved) ((W l ok).cells_ascend r.0 r.1) (sort_ascending ltb ltb_trans moved)
          (λ n a. let x = r.2.back n a in sort_of ltb ltb_tied moved (Memᴰ.cast (sym x.2) (Memᴰ.map (cell_after C (act m.0)) x.1)))
          (λ n a. let x = Memᴰ.of_map (cell_after C (act m.0)) q.cells (sort_at ltb moved a) in Memᴰ.cast (sym x.2) (r.2.there x.0 x.1))

      cells : r.0.cells ≡ cells_by f q.cells
      cells =
          sorted
          ∙ ap (sort ltb) (map_same (cell_after C (act m.0)) (λ n. get_or (cell_images C m.0) n 0) q.cells (λ n a. sym (takes_to m.0 n ((W l ok).on_board q row n a))))
          ∙ ap (λ (g : List ℕ). sort ltb (map (λ n. get_or g n 0) q.cells)) m.2
