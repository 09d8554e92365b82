-- Each placement has its image under an allowed map, so the image of a packing is a packing, where kinds and copies allow it. Assumes nothing.
use Prim.Native.Nat.{ℕ, suc, ◌+◌, ◌-◌, ◌≤◌, ◌<◌}
use mathlib.Core.Bool.{Bool, true, false, cond, ◌&&◌}
use mathlib.Core.List.{List, [], ◌∷◌, map, Memᴰ}
use mathlib.Core.Path.{◌≡◌, refl, sym, ap, ◌∙◌, subst}
use native.Mathlib.Nat.{le_refl}
use native.Mathlib.Omega.{arith}
use lib.Dec.{T, leb, eqb, eqb→eq, le→leb}
use lib.ListN.{length, get_or}
use Rattle.lists.specs.Lists.{all, any, keep, below, member, Apart}
use Rattle.lists.proofs.TestLaws.{and_both, eqb_of}
use Rattle.lists.proofs.ListLaws.{relate_length, all_of, any_of, keep_at, keep_of, apart_keep}
use Rattle.lists.proofs.SortLaws.{apart_ascending}
use Rattle.lists.proofs.RangeLaws.{below_at, member_of, member_at}
use Rattle.lists.proofs.CountLaws.{just_one, how_many_length}
use Rattle.lists.proofs.NthLaws.{Nth, nth_mem, nth_get_or, get_or_nth, mem_nth_of}
use Rattle.definitions.specs.Grid.{Sides, Cell, Grid, volume, same_cell, filled_cells, InBox}
use Rattle.definitions.specs.Maps.{Map, side, coordinate, from_end, map_sides, map_cell, inverse, map_grid, turns, mirror, product, identity, axis_at, flip_at}
use Rattle.theorems.proofs.MapLaws.{Fits, filled_at, filled_there, filled_back, mapped_sides}
use Rattle.theorems.proofs.GroupLaws.{coordinate_at, coordinate_below, identity_turn, identity_grid}
use Rattle.definitions.specs.Scan.{axes, scan, scan_number}
use Rattle.definitions.specs.Kinds.{Tray, Piece, Form, Kind, kinds_of, variants, smallest, mirrored_form, form_of}
use Rattle.definitions.specs.Placements.{origin, lies, reaches, fits, Placement, Compiled, compile}
use Rattle.definitions.specs.Packing.{ahead, same_placement, covering, used, limits, placed, covers_once, within_copies, Packing}
use Rattle.theorems.proofs.PackingLaws.{ahead_irrefl, same_placement_refl, packing_placed, packing_once, packing_at, packing_within}
use Rattle.definitions.specs.Kept.{kind_after, cell_after, image}
use Rattle.theorems.proofs.SearchLaws.{WellMade}
use Rattle.theorems.proofs.WellMadeLaws.{Made, ShapeFacts, from_made, up_board, lies_on, lies_coordinate, the_variant, kind_in, some-cells, up_variant, same_cell_refl}
use Rattle.theorems.proofs.ShapeLaws.{shape_facts, variant_at, smallest_at}
use Rattle.theorems.proofs.CellLaws.{cell_by, scan_filled, filled_scan}
use Rattle.theorems.proofs.MoveLaws.{mirror_in}
use Rattle.theorems.proofs.PartnerLaws.{variant_of, partner_form, shape_whole}
use Rattle.theorems.proofs.ImageLaws.{Numbered, Onto, Onto-placement, after_below, after_after, after_still, image-at, image-of, image_ascending, same_cells, numbers_inj}
use Rattle.theorems.proofs.ActLaws.{plus, maps_of, fits_of, product_in, product_on, back_in, Allowed, allowed_back, identity_then_cell, on_cells, kinds_back}
use Rattle.theorems.proofs.GeometryLaws.{piece_whole, good, W, numbered_cells, to_filled, of_filled, whole, partners, in-box}
use Rattle.theorems.proofs.SetDownLaws.{placed_nth}
use Rattle.definitions.specs.Refusals.{Call, tray_of, refusal}

-- ---- the image of a packing whose placements all have images
module _ (c : Compiled) (w : WellMade c) (nu : Numbered c) (odd : Bool) (f g : Cell → Cell) (on : Onto c w nu f) (ong : Onto c w nu g)
    (gf : (u : Cell) → Memᴰ u c.cells → g (f u) ≡ u) (fg : (u : Cell) → Memᴰ u c.cells → f (g u) ≡ u)
    (P : List Placement) (p : Packing c P)
    (has : (r : Placement) → Memᴰ r P → (q : Placement) × Memᴰ q c.placements × Onto-placement c w nu odd f r q)
    (copies : (k : ℕ) → k < length c.kinds → (i : ℕ) × (i < length c.kinds) × (get_or (limits c) i 0 ≤ get_or (limits c) k 0)
    × ((q r : Placement) → Memᴰ q c.placements → Memᴰ r c.placements → q.kind ≡ kind_after c odd r.kind → q.kind ≡ k → r.kind ≡ i)) where
  abbrev Q : List Placement
  Q = image c odd f P

  at : (q : Placement) → Memᴰ q Q → Memᴰ q c.placements × ((r : Placement) × Memᴰ r P × Onto-placement c w nu odd f r q)
  at q m = image-at c w nu odd f P q m

  numbers_apart : (n m : ℕ) → n < length c.cells → m < length c.cells → cell_after c f n ≡ cell_after c f m → n ≡ m
  numbers_apart = numbers_inj c w nu f on (λ u v a b e. sym (gf u a) ∙ ap g e ∙ gf v b)

  -- two placements that are images of one are the same
  one_image : (q s r : Placement) → Memᴰ q c.placements → Memᴰ s c.placements → Onto-placement c w nu odd f r q → Onto-placement c w nu odd f r s → q ≡ s
  one_image q s r a b x y =
      same_cells c w nu q s a b (x.kinds ∙ sym y.kinds)
      (λ n k. let z = x.back n k in mathlib.Core.List.Memᴰ.cast (sym z.2) (y.there z.0 z.1)) (λ n k. let z = y.back n k in mathlib.Core.List.Memᴰ.cast (sym z.2) (x.there z.0 z.1))

  Q-apart : Apart Q
  Q-apart = apart_ascending ahead ahead_irrefl Q (image_ascending c w nu odd f P)

  covered : (n : ℕ) → n < length c.cells → covering Q n ≡ 1
  unfolding covering
  covered n h = just_one (λ z. member n z.cells) Q Q-apart q.0 (image-of c w nu odd f P q.0 r.0 q.1 r.1 q.2) (member_of q.0.cells on_n) only
    where
      back : ℕ
      back = cell_after c g n

      back_below : back < length c.cells
      back_below = after_below c w nu g ong n h

      there : cell_after c f back ≡ n
      there = after_after c w nu g f ong n h ∙ after_still c w nu (λ u. f (g u)) fg n h

      r : (z : Placement) × Memᴰ z P × Memᴰ back z.cells
      r = packing_at c P p back back_below

      q : (z : Placement) × Memᴰ z c.placements × Onto-placement c w nu odd f r.0 z
      q = has r.0 r.1

      on_n : Memᴰ n q.0.cells
      on_n = mathlib.Core.List.Memᴰ.cast (sym there) (q.2.there back r.2)

      only : (s : Placement) → Memᴰ s Q → T (member n s.cells) → s ≡ q.0
      only s m t =
          let x = at s m in
          let y = x.1.2.back n (member_at n s.cells t) in
          let row = packing_placed c P p x.1.0 x.1.1 in
          let i = numbers_apart y.0 back (w.on_board x.1.0 row y.0 y.1) back_below (y.2 ∙ sym there) in
          let e : x.1.0 ≡ r.0 = packing_once c P p back back_below x.1.0 r.0 x.1.1 r.1 (mathlib.Core.List.Memᴰ.cast (sym i) y.1) r.2 in
          one_image s q.0 r.0 x.0 q.1 (subst (λ (z : Placement). Onto-placement c w nu odd f z s) e x.1.2) q.2

  few : (k : ℕ) → k < length c.kinds → used Q k ≤ get_or (limits c) k 0
  unfolding used
  few k h =
      let i = copies k h in
      let a = how_many_length (λ (q : Placement). eqb q.kind k) Q in
      let b = how_many_length (λ (q : Placement). eqb q.kind i.0) P in
      let l = packing_within c P p i.0 i.1 in
      let m = i.2 in
      let s =
      relate_length (λ (q r : Placement). Onto-placement c w nu odd f r q) (keep (λ q. eqb q.kind k) Q) (keep (λ q. eqb q.kind i.0) P)
      (apart_keep (λ (q : Placement). eqb q.kind k) Q Q-apart) from_P single in
      omega arith
    where
      from_P : (q : Placement) → Memᴰ q (keep (λ z. eqb z.kind k) Q) → (r : Placement) × Memᴰ r (keep (λ z. eqb z.kind (copies k h).0) P) × Onto-placement c w nu odd f r q
      from_P q m =
          let y = keep_at (λ (z : Placement). eqb z.kind k) Q m in
          let x = at q y.0 in
          let e = (copies k h).3 q x.1.0 x.0 (packing_placed c P p x.1.0 x.1.1) x.1.2.kinds (eqb→eq q.kind k y.1) in
          (x.1.0, keep_of (λ (z : Placement). eqb z.kind (copies k h).0) P x.1.1 (eqb_of e), x.1.2)

      single : (q s r : Placement) → Memᴰ q (keep (λ z. eqb z.kind k) Q) → Memᴰ s (keep (λ z. eqb z.kind k) Q)
          → Onto-placement c w nu odd f r q → Onto-placement c w nu odd f r s → q ≡ s
      single q s r m l x y =
          one_image q s r (at q (keep_at (λ (z : Placement). eqb z.kind k) Q m).0).0 (at s (keep_at (λ (z : Placement). eqb z.kind k) Q l).0).0 x y

  pub image_packing : Packing c (image c odd f P)
  unfolding placed covers_once within_copies
  image_packing =
      record {
        a_set = image_ascending c w nu odd f P;
        of_placements = all_of (λ q. any (same_placement q) c.placements) Q (λ q m. any_of (same_placement q) c.placements (at q m).0 (same_placement_refl q));
        covers = all_of (λ n. eqb (covering Q n) 1) (below (length c.cells)) (λ n m. eqb_of (covered n (below_at (length c.cells) m)));
        within = all_of (λ k. leb (used Q k) (get_or (limits c) k 0)) (below (length c.kinds)) (λ k m. le→leb (used Q k) (get_or (limits c) k 0) (few k (below_at (length c.kinds) m)));
      }

-- ---- the variants of a kind that another is taken to
plus_back : (odd : Bool) → plus (plus odd false) odd ≡ false
plus_back false = refl
plus_back true = refl

-- with n a kind's shape becomes another's; m, of the same parity, then takes its variants to the other's
variant_carried : (odd : Bool) (m n : Map) → Memᴰ m (maps_of odd) → Memᴰ n (maps_of odd) → (t : Map) → Memᴰ t turns → (s : Grid) → length s.cells ≡ volume s.sides
    → Memᴰ (map_grid m (map_grid t s)) (variants (map_grid n s))
variant_carried odd m n a b t k s e =
    let z = back_in odd n b in
    let mt = product_in odd false m t a k in
    let undo : map_grid z.0 (map_grid n s) ≡ s = product_on odd odd z.0 n z.1 b s ∙ ap (λ (h : Map). map_grid h s) z.2 ∙ identity_grid s e in
    mathlib.Core.List.Memᴰ.cast (product_on odd false m t a k s ∙ ap (map_grid (product m t)) (sym undo) ∙ product_on (plus odd false) odd (product m t) z.0 mt z.1 (map_grid n s))
    (variant_of (map_grid n s) (product (product m t) z.0)
    (subst (λ (x : Bool). Memᴰ (product (product m t) z.0) (maps_of x)) (plus_back odd) (product_in (plus odd false) odd (product m t) z.0 mt z.1)))

-- the kind after a map, where there is one: some map of that parity makes the shapes equal
kind-after : (t : Tray) → ((q : Piece) → Memᴰ q t.pieces → length q.grid.cells ≡ volume q.grid.sides)
    → (odd : Bool) (k : ℕ) (d : Kind) → Nth (kinds_of t) k d → kind_after (compile t) odd k < length (compile t).kinds
    → (e : Kind) × Nth (kinds_of t) (kind_after (compile t) odd k) e × ((n : Map) × Memᴰ n (maps_of odd) × (map_grid n d.shape ≡ e.shape))
unfolding kind_after compile mirrored_form form_of
kind-after t wholes false k d h b = (d, h, (identity, identity_turn, identity_grid d.shape (shape_whole t wholes d (nth_mem (kinds_of t) k h)).0))
kind-after t wholes true k d h b =
    (e.0, e.1, (product s.0 mirror, product_in false true s.0 mirror s.1 mirror_in, sym (product_on false true s.0 mirror s.1 mirror_in d.shape) ∙ s.2 ∙ e_is))
  where
    j : ℕ
    j = get_or (map (λ d. d.partner) (kinds_of t)) k (length (kinds_of t))

    e : (x : Kind) × Nth (kinds_of t) j x
    e = get_or_nth (kinds_of t) j b

    s : (m : Map) × Memᴰ m turns × (map_grid m (map_grid mirror d.shape) ≡ smallest (map_grid mirror d.shape))
    s = smallest_at (map_grid mirror d.shape)

    e_is : smallest (map_grid mirror d.shape) ≡ e.0.shape
    e_is = ap (λ (f : Form). f.grid) (partner_form t wholes k j d e.0 h e.1 (nth_get_or (λ (x : Kind). x.partner) (length (kinds_of t)) (kinds_of t) k h))

-- ---- placements that there are
placement_of : (t : Tray) (k : ℕ) (d : Kind) → Nth (kinds_of t) k d → (v : Cell) → Memᴰ v (scan (axes t.board.sides) t.board) → (us : List Cell)
    → Memᴰ us (map (scan (axes t.board.sides)) (variants d.shape)) → T (fits (scan (axes t.board.sides) t.board) v us)
    → (q : Placement) × Memᴰ q (compile t).placements × (q.kind ≡ k) × (q.cells ≡ map (λ u. scan_number (scan (axes t.board.sides) t.board) (lies v (origin us) u)) us)
unfolding compile
placement_of t k d h v m us a b =
    let or = axes t.board.sides in
    let bd = scan or t.board in
    let vs = map (scan or) (variants d.shape) in
    let n = mem_nth_of bd v m in
    let i = mem_nth_of (keep (fits bd v) vs) us (keep_of (fits bd v) vs a b) in
    let q = placed_nth or bd (kinds_of t) k d h n.0 v n.1 i.0 us i.1 in
    (q.0, q.1, q.2, q.5)

-- ---- a shifted variant after a map is a shifted variant
-- along one axis: a shift by a, in a box of side s, of what lies in a box of side v
from-end : (n i : ℕ) → i < n → n - 1 - i + suc i ≡ n
from-end n i h = omega arith

flipped : (s v a o u A B U D : ℕ) → a + v ≤ s → A + suc (a + o) ≡ s → B + suc o ≡ v → U + suc u ≡ v → D + suc (a + u) ≡ s → A - B + U ≡ D
flipped s v a o u A B U D h e₁ e₂ e₃ e₄ = omega arith

shifted : (flip s v a o u : ℕ) → a + v ≤ s → o < v → u < v → from_end flip s (a + o) - from_end flip v o + from_end flip v u ≡ from_end flip s (a + u)
unfolding from_end
shifted flip s v a o u h k l = go (eqb flip 0)
  where
    go : (b : Bool) → cond b (a + o) (s - 1 - (a + o)) - cond b o (v - 1 - o) + cond b u (v - 1 - u) ≡ cond b (a + u) (s - 1 - (a + u))
    go true = omega arith
    go false =
        flipped s v a o u (s - 1 - (a + o)) (v - 1 - o) (v - 1 - u) (s - 1 - (a + u)) h (from-end s (a + o) (omega arith)) (from-end v o k) (from-end v u l) (from-end s (a + u) (omega arith))

shifted_reach : (flip s v a o : ℕ) → a + v ≤ s → o < v → from_end flip v o ≤ from_end flip s (a + o)
unfolding from_end
shifted_reach flip s v a o h k = go (eqb flip 0)
  where
    go : (b : Bool) → cond b o (v - 1 - o) ≤ cond b (a + o) (s - 1 - (a + o))
    go true = omega arith
    go false = omega arith

reaches_of : (v o : Cell) → ((i : ℕ) → coordinate o i ≤ coordinate v i) → T (reaches v o)
unfolding reaches coordinate
reaches_of v o h =
    and_both (leb o.x v.x && leb o.y v.y) (leb o.z v.z)
    (and_both (leb o.x v.x) (leb o.y v.y) (le→leb o.x v.x (h 0)) (le→leb o.y v.y (h 1))) (le→leb o.z v.z (h 2))

origin-first : (us : List Cell) → 0 < length us → Memᴰ (origin us) us
unfolding origin
origin-first [] h = absurd (omega arith)
origin-first (u ∷ us) h = mathlib.Core.List.Memᴰ.head refl

-- each kind becomes a kind under maps of a parity, one that has no more copies
abbrev pub KindsAfter : Compiled → Bool → Type 0
KindsAfter c odd = (k : ℕ) → k < length c.kinds → (kind_after c odd k < length c.kinds) × (get_or (limits c) (kind_after c odd k) 0 ≤ get_or (limits c) k 0)

module _ (l : Call) (ok : refusal l ≡ 0) where
  abbrev T₀ : Tray
  T₀ = tray_of l

  abbrev C : Compiled
  C = compile T₀

  abbrev facts : ShapeFacts T₀
  facts = shape_facts l ok

  abbrev or : List ℕ
  or = axes T₀.board.sides

  abbrev bd : List Cell
  bd = scan or T₀.board

  abbrev S : Sides
  S = T₀.board.sides

  to_scan : (g : Grid) (u : Cell) → Memᴰ u (filled_cells g) → Memᴰ u (scan or g)
  to_scan = filled_scan T₀ facts (W l ok) (good l ok)

  of_scan : (g : Grid) (u : Cell) → Memᴰ u (scan or g) → Memᴰ u (filled_cells g)
  of_scan = scan_filled T₀ facts (W l ok) (good l ok)

  module _ (odd : Bool) (m : Map) (al : Allowed C.board (whole l ok) odd m) (r : Placement) (x : Made or bd (kinds_of T₀) r) where
    fit : Fits m
    fit = fits_of odd m al.is_map

    stays : (u : Cell) → Memᴰ u bd → Memᴰ (map_cell m S u) bd
    unfolding compile
    stays u k = on_cells C (W l ok) (numbered_cells l ok) (whole l ok) (to_filled l ok) (of_filled l ok) odd m al u k

    abbrev X : Grid
    X = (the_variant T₀ facts r x).0

    abbrev o : Cell
    o = origin x.variant

    in_variant : (u : Cell) → Memᴰ u (filled_cells X) → Memᴰ u x.variant
    in_variant u k = subst (λ (us : List Cell). Memᴰ u us) (the_variant T₀ facts r x).2 (to_scan X u k)

    of_variant : (u : Cell) → Memᴰ u x.variant → Memᴰ u (filled_cells X)
    of_variant u k = of_scan X u (subst (λ (us : List Cell). Memᴰ u us) (sym (the_variant T₀ facts r x).2) k)

    lies_in : (u : Cell) → Memᴰ u (filled_cells X) → Memᴰ (lies x.on o u) bd
    lies_in u k = lies_on or bd (up_board T₀ facts) (kinds_of T₀) r x (some-cells T₀ facts r x) (up_variant T₀ facts r x) u (in_variant u k)

    -- the variant's box lies in the board's, since the variant has a cell at each end
    room : (i : ℕ) → coordinate x.on i - coordinate o i + side X.sides i ≤ side S i
    unfolding compile
    room i =
        let h = (good l ok x.kind (kind_in T₀ facts r x) X (the_variant T₀ facts r x).1).0.high i in
        let b = coordinate_below S (lies x.on o h.0) (in-box l ok (lies x.on o h.0) (lies_in h.0 h.1)) i in
        let c = lies_coordinate x.on o h.0 i in
        let e = h.2 in
        omega arith

    module _ (k : ℕ) (d : Kind) (is_k : Nth (kinds_of T₀) k d) (is_v : Memᴰ (map_grid m X) (variants d.shape)) where
      abbrev us : List Cell
      us = scan or (map_grid m X)

      -- what a cell of the mapped variant comes from
      from : Cell → Cell
      from u = map_cell (inverse m) (map_sides m X.sides) u

      from_in : (u : Cell) → Memᴰ u us → Memᴰ (from u) (filled_cells X)
      unfolding from
      from_in u h = filled_back m fit X u (of_scan (map_grid m X) u h)

      from_to : (u : Cell) → Memᴰ u us → map_cell m X.sides (from u) ≡ u
      unfolding from
      from_to u h = fit.there_back X.sides u (subst (λ (s : Sides). InBox s u) (mapped_sides m X) (filled_at (map_grid m X) u (of_scan (map_grid m X) u h)).0)

      first : Memᴰ (origin us) us
      first =
          let a = facts.sized d (nth_mem (kinds_of T₀) k is_k) (map_grid m X) is_v in
          let b = facts.some d (nth_mem (kinds_of T₀) k is_k) in
          origin-first us (omega arith)

      -- the origin's cell before the map, and the board cell that the new origin lies on
      u₀ : Cell
      u₀ = from (origin us)

      u₀_in : Memᴰ u₀ (filled_cells X)
      unfolding u₀
      u₀_in = from_in (origin us) first

      abbrev v : Cell
      v = map_cell m S (lies x.on o u₀)

      -- its coordinates, those of the origin, and those of where a cell goes
      v_at : (i : ℕ) → coordinate v i ≡ from_end (flip_at m i) (side S (axis_at m i)) (coordinate x.on (axis_at m i) - coordinate o (axis_at m i) + coordinate u₀ (axis_at m i))
      v_at i = coordinate_at m S (lies x.on o u₀) i ∙ ap (from_end (flip_at m i) (side S (axis_at m i))) (lies_coordinate x.on o u₀ (axis_at m i))

      o_at : (i : ℕ) → coordinate (origin us) i ≡ from_end (flip_at m i) (side X.sides (axis_at m i)) (coordinate u₀ (axis_at m i))
      unfolding u₀
      o_at i = ap (λ (u : Cell). coordinate u i) (sym (from_to (origin us) first)) ∙ coordinate_at m X.sides (from (origin us)) i

      below_X : (u : Cell) → Memᴰ u (filled_cells X) → (i : ℕ) → coordinate u i < side X.sides i
      below_X u h i = coordinate_below X.sides u (filled_at X u h).0 i

      moves : (u : Cell) → Memᴰ u (filled_cells X) → lies v (origin us) (map_cell m X.sides u) ≡ map_cell m S (lies x.on o u)
      moves u h = cell_by (lies v (origin us) (map_cell m X.sides u)) (map_cell m S (lies x.on o u)) (λ i.
          let j = axis_at m i in
          let a = coordinate x.on j - coordinate o j in
          let e₁ = lies_coordinate v (origin us) (map_cell m X.sides u) i in
          let e₂ = v_at i in
          let e₃ = o_at i in
          let e₄ = coordinate_at m X.sides u i in
          let e₅ = shifted (flip_at m i) (side S j) (side X.sides j) a (coordinate u₀ j) (coordinate u j) (room j) (below_X u₀ u₀_in j) (below_X u h j) in
          let e₆ : coordinate (map_cell m S (lies x.on o u)) i ≡ from_end (flip_at m i) (side S j) (a + coordinate u j) =
          coordinate_at m S (lies x.on o u) i ∙ ap (from_end (flip_at m i) (side S j)) (lies_coordinate x.on o u j) in
          omega arith)

      moves_to : (u : Cell) → Memᴰ u us → lies v (origin us) u ≡ map_cell m S (lies x.on o (from u))
      moves_to u h = ap (lies v (origin us)) (sym (from_to u h)) ∙ moves (from u) (from_in u h)

      fits_there : T (fits bd v us)
      unfolding fits
      fits_there =
          and_both (reaches v (origin us)) (all (λ u. any (same_cell (lies v (origin us) u)) bd) us)
          (reaches_of v (origin us) (λ i.
          let j = axis_at m i in
          let e₂ = v_at i in
          let e₃ = o_at i in
          let e₄ = shifted_reach (flip_at m i) (side S j) (side X.sides j) (coordinate x.on j - coordinate o j) (coordinate u₀ j) (room j) (below_X u₀ u₀_in j) in
          omega arith))
          (all_of (λ u. any (same_cell (lies v (origin us) u)) bd) us (λ u h.
          any_of (same_cell (lies v (origin us) u)) bd (mathlib.Core.List.Memᴰ.cast (moves_to u h) (stays (lies x.on o (from u)) (lies_in (from u) (from_in u h)))) (same_cell_refl (lies v (origin us) u))))

      carried : (q : Placement) × Memᴰ q C.placements × (q.kind ≡ k) × (q.cells ≡ map (λ u. scan_number bd (lies v (origin us) u)) us)
      carried = placement_of T₀ k d is_k v (stays (lies x.on o u₀) (lies_in u₀ u₀_in)) us (mathlib.Core.List.Memᴰ.map (scan or) is_v) fits_there

      after_is : (u : Cell) → Memᴰ u (filled_cells X)
          → cell_after C (map_cell m C.board.sides) (scan_number bd (lies x.on o u)) ≡ scan_number bd (lies v (origin us) (map_cell m X.sides u))
      unfolding cell_after compile
      after_is u h = ap (λ (z : Cell). scan_number bd (map_cell m S z)) ((numbered_cells l ok).cell_number (lies x.on o u) (lies_in u h)) ∙ ap (scan_number bd) (sym (moves u h))

      carried_onto : k ≡ kind_after C odd r.kind → Onto-placement C (W l ok) (numbered_cells l ok) odd (map_cell m C.board.sides) r carried.0
      carried_onto e =
          record {
            kinds = carried.2 ∙ e;
            there = λ n h.
                let y = mathlib.Core.List.Memᴰ.of_map (λ (u : Cell). scan_number bd (lies x.on o u)) x.variant (subst (λ (ns : List ℕ). Memᴰ n ns) x.cells_are h) in
                let a = of_variant y.0 y.1 in
                mathlib.Core.List.Memᴰ.cast (ap (cell_after C (map_cell m C.board.sides)) (sym y.2) ∙ after_is y.0 a)
                (subst (λ (ns : List ℕ). Memᴰ (scan_number bd (lies v (origin us) (map_cell m X.sides y.0))) ns) (sym carried.3)
                (mathlib.Core.List.Memᴰ.map (λ (u : Cell). scan_number bd (lies v (origin us) u)) (to_scan (map_grid m X) (map_cell m X.sides y.0) (filled_there m fit X y.0 a))));
            back = λ n h.
                let y = mathlib.Core.List.Memᴰ.of_map (λ (u : Cell). scan_number bd (lies v (origin us) u)) us (subst (λ (ns : List ℕ). Memᴰ n ns) carried.3 h) in
                let a = from_in y.0 y.1 in (
                  scan_number bd (lies x.on o (from y.0)),
                  subst (λ (ns : List ℕ). Memᴰ (scan_number bd (lies x.on o (from y.0))) ns) (sym x.cells_are)
                      (mathlib.Core.List.Memᴰ.map (λ (u : Cell). scan_number bd (lies x.on o u)) (in_variant (from y.0) a)),
                  after_is (from y.0) a ∙ ap (λ (u : Cell). scan_number bd (lies v (origin us) u)) (from_to y.0 y.1) ∙ y.2,
                );
          }

  -- ---- what an allowed map does
  -- it carries each placement onto one, if there is the kind that the placement's becomes
  pub placement_image : (odd : Bool) (m : Map) → Allowed C.board (whole l ok) odd m → (r : Placement) → Memᴰ r C.placements → kind_after C odd r.kind < length C.kinds
      → (q : Placement) × Memᴰ q C.placements × Onto-placement C (W l ok) (numbered_cells l ok) odd (map_cell m C.board.sides) r q
  placement_image odd m al r row b =
      let x = from_made T₀ facts r row in
      let e = kind-after T₀ (piece_whole l ok) odd r.kind x.kind x.is_kind b in
      let v = the_variant T₀ facts r x in
      let t = variant_at x.kind.shape v.0 v.1 in
      let s = (shape_whole T₀ (piece_whole l ok) x.kind (kind_in T₀ facts r x)).0 in
      let is_v : Memᴰ (map_grid m v.0) (variants e.0.shape) =
      subst (λ (g : Grid). Memᴰ (map_grid m v.0) (variants g)) e.2.2
      (mathlib.Core.List.Memᴰ.cast (ap (map_grid m) (sym t.2)) (variant_carried odd m e.2.0 al.is_map e.2.1 t.0 t.1 x.kind.shape s)) in
      let q = carried odd m al r x (kind_after C odd r.kind) e.0 e.1 is_v in
      (q.0, q.1, carried_onto odd m al r x (kind_after C odd r.kind) e.0 e.1 is_v refl)

  -- so it carries a packing onto a packing, if there are all those kinds, and the copies used suffice there
  module _ (odd : Bool) (enough : KindsAfter C odd) where
    pub allowed_packing : (m : Map) → Allowed C.board (whole l ok) odd m → (P : List Placement) → Packing C P → Packing C (image C odd (map_cell m C.board.sides) P)
    allowed_packing m al P p =
        let n = allowed_back C.board (whole l ok) odd m al in
        image_packing C (W l ok) (numbered_cells l ok) odd (map_cell m C.board.sides) (map_cell n.0 C.board.sides) (on m al) (on n.0 n.1)
        (λ u k. identity_then_cell C.board (whole l ok) odd m n.0 al n.1 n.2 u (to_filled l ok u k))
        (λ u k. identity_then_cell C.board (whole l ok) odd n.0 m n.1 al n.3 u (to_filled l ok u k)) P p
        (λ r k. let row = packing_placed C P p r k in placement_image odd m al r row (enough r.kind ((W l ok).of_kinds r row)).0)
        (λ k h. (kind_after C odd k, (enough k h).0, (enough k h).1, λ q r a b e f. kinds q r a b e ∙ ap (kind_after C odd) f))
      where
        kinds : (q r : Placement) → Memᴰ q C.placements → Memᴰ r C.placements → q.kind ≡ kind_after C odd r.kind → r.kind ≡ kind_after C odd q.kind
        kinds = kinds_back C (W l ok) (numbered_cells l ok) (whole l ok) (to_filled l ok) (of_filled l ok) (partners l ok) odd

        on : (h : Map) → Allowed C.board (whole l ok) odd h → (u : Cell) → Memᴰ u C.cells → Memᴰ (map_cell h C.board.sides u) C.cells
        on h a = on_cells C (W l ok) (numbered_cells l ok) (whole l ok) (to_filled l ok) (of_filled l ok) odd h a

  -- turns leave kinds as they are
  pub turned_enough : KindsAfter C false
  unfolding kind_after
  turned_enough k h = (h, le_refl (get_or (limits C) k 0))

  pub turned_packing : (m : Map) → Allowed C.board (whole l ok) false m → (P : List Placement) → Packing C P → Packing C (image C false (map_cell m C.board.sides) P)
  turned_packing = allowed_packing false turned_enough
