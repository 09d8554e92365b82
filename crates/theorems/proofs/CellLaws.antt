-- Scan numbers are one to one, and a placement is given by its kind and its cells. Assumes nothing.
use Prim.Native.Nat.{ℕ, ◌+◌, ◌-◌, ◌≤◌}
use mathlib.Core.Bool.{Bool, true, false, cond, not, ◌&&◌}
use mathlib.Core.List.Memᴰ
use mathlib.Core.List.{List, map, Memᴰ, map-id}
use mathlib.Core.Path.{◌≡◌, refl, sym, ap, ap₂, ◌∙◌, subst}
use mathlib.Core.Logic.{◌⊎◌, inl, inr}
use native.Mathlib.Nat.{le_antisymm}
use native.Mathlib.Omega.{arith}
use lib.Dec.{T, leb, eqb, eqb→eq, leb→le}
use lib.ListN.{length}
use Rattle.lists.specs.Lists.{all, any, keep, sort, Apart}
use Rattle.lists.proofs.TestLaws.{and_left, and_right, and_both, decide, clash, eqb_of}
use Rattle.lists.proofs.ListLaws.{map_through, apart_map, any_at, any_of, apart_keep, map_same}
use Rattle.lists.proofs.SortLaws.{apart_ascending, sort_ascending, less_trans, less_irrefl, sort_at, sort_of}
use Rattle.lists.proofs.NthLaws.{nth_apart, nth_unique, Nth}
use Rattle.definitions.specs.Grid.{Sides, Cell, Grid, same_cell, box, volume, byte_at, filled_cells, grid_ahead, sides_then_cells, InBox}
use Rattle.definitions.specs.Maps.{Map, side, coordinate, from_end, map_cell, map_grid, turns, axis_at, flip_at}
use Rattle.theorems.proofs.MapLaws.{Fits, box_at, filled_at, filled_of, filled_there, mapped_sides}
use Rattle.theorems.proofs.GroupLaws.{side_at, coordinate_at, coordinate_below, grid_path, bytes_whole}
use Rattle.definitions.specs.Scan.{axes, cell_ahead, scan, scan_number}
use Rattle.definitions.specs.Kinds.{Tray, Kind, kinds_of, variants}
use Rattle.definitions.specs.Placements.{origin, lies, reaches, fits, Placement, compile}
use Rattle.theorems.proofs.SearchLaws.{WellMade}
use Rattle.theorems.proofs.WellMadeLaws.{Made, ShapeFacts, from_made, up_board, nth_number, mem_nth, lies_on, lies_coordinate, the_variant, kind_in, some-cells, up_variant}
use Rattle.theorems.proofs.ShapeLaws.{cells_tied}
use Rattle.theorems.proofs.GridLaws.{byte_bit}
use Rattle.definitions.specs.Refusals.{are_bits, filled_where, is_tight}
use Rattle.theorems.proofs.KeptLaws.{same_rank}

-- ---- tight grids: a filled cell at each end of each axis
pub record Tight (g : Grid) : Type 0 where
  pub low : (i : ℕ) → (u : Cell) × Memᴰ u (filled_cells g) × (coordinate u i ≡ 0)
  pub high : (i : ℕ) → (u : Cell) × Memᴰ u (filled_cells g) × (coordinate u i + 1 ≡ side g.sides i)

pub tight_of : (g : Grid) → T (is_tight g) → Tight g
unfolding is_tight filled_where coordinate side
tight_of g t = record { low = λ i. low i (eqb i 0) (eqb i 1); high = λ i. high i (eqb i 0) (eqb i 1) }
  where
    A : (Cell → Bool) → Bool
    A p = any p (filled_cells g)

    t₁ : T (A (λ u. eqb (u.x + 1) g.sides.a) && (A (λ u. eqb u.y 0) && (A (λ u. eqb (u.y + 1) g.sides.b) && (A (λ u. eqb u.z 0) && A (λ u. eqb (u.z + 1) g.sides.c)))))
    t₁ = and_right (A (λ u. eqb u.x 0)) _ t

    t₂ : T (A (λ u. eqb u.y 0) && (A (λ u. eqb (u.y + 1) g.sides.b) && (A (λ u. eqb u.z 0) && A (λ u. eqb (u.z + 1) g.sides.c))))
    t₂ = and_right (A (λ u. eqb (u.x + 1) g.sides.a)) _ t₁

    t₃ : T (A (λ u. eqb (u.y + 1) g.sides.b) && (A (λ u. eqb u.z 0) && A (λ u. eqb (u.z + 1) g.sides.c)))
    t₃ = and_right (A (λ u. eqb u.y 0)) _ t₂

    t₄ : T (A (λ u. eqb u.z 0) && A (λ u. eqb (u.z + 1) g.sides.c))
    t₄ = and_right (A (λ u. eqb (u.y + 1) g.sides.b)) _ t₃

    at : (f : Cell → ℕ) (n : ℕ) → T (A (λ u. eqb (f u) n)) → (u : Cell) × Memᴰ u (filled_cells g) × (f u ≡ n)
    at f n s = let r = any_at (λ (u : Cell). eqb (f u) n) (filled_cells g) s in (r.0, r.1, eqb→eq (f r.0) n r.2)

    low : (i : ℕ) (x y : Bool) → (u : Cell) × Memᴰ u (filled_cells g) × (cond x u.x (cond y u.y u.z) ≡ 0)
    low i true y = at (λ u. u.x) 0 (and_left (A (λ u. eqb u.x 0)) _ t)
    low i false true = at (λ u. u.y) 0 (and_left (A (λ u. eqb u.y 0)) _ t₂)
    low i false false = at (λ u. u.z) 0 (and_left (A (λ u. eqb u.z 0)) (A (λ u. eqb (u.z + 1) g.sides.c)) t₄)

    high : (i : ℕ) (x y : Bool) → (u : Cell) × Memᴰ u (filled_cells g) × (cond x u.x (cond y u.y u.z) + 1 ≡ cond x g.sides.a (cond y g.sides.b g.sides.c))
    high i true y = at (λ u. u.x + 1) g.sides.a (and_left (A (λ u. eqb (u.x + 1) g.sides.a)) _ t₁)
    high i false true = at (λ u. u.y + 1) g.sides.b (and_left (A (λ u. eqb (u.y + 1) g.sides.b)) _ t₃)
    high i false false = at (λ u. u.z + 1) g.sides.c (and_right (A (λ u. eqb u.z 0)) (A (λ u. eqb (u.z + 1) g.sides.c)) t₄)

pub tight_test : (g : Grid) → Tight g → T (is_tight g)
unfolding is_tight filled_where coordinate side
tight_test g t =
    and_both _ _ (at (λ u. u.x) 0 (t.low 0)) (and_both _ _ (at (λ u. u.x + 1) g.sides.a (t.high 0))
    (and_both _ _ (at (λ u. u.y) 0 (t.low 1)) (and_both _ _ (at (λ u. u.y + 1) g.sides.b (t.high 1))
    (and_both _ _ (at (λ u. u.z) 0 (t.low 2)) (at (λ u. u.z + 1) g.sides.c (t.high 2))))))
  where
    at : (f : Cell → ℕ) (n : ℕ) → (u : Cell) × Memᴰ u (filled_cells g) × (f u ≡ n) → T (any (λ u. eqb (f u) n) (filled_cells g))
    at f n r = any_of (λ u. eqb (f u) n) (filled_cells g) r.1 (eqb_of r.2)

pub tight_mapped : (m : Map) → Fits m → (g : Grid) → Tight g → Tight (map_grid m g)
tight_mapped m h g t = record { low = λ i. low i (eqb (flip_at m i) 0) refl; high = λ i. high i (eqb (flip_at m i) 0) refl }
  where
    n : ℕ → ℕ
    n i = side g.sides (axis_at m i)

    to : Cell → Cell
    to u = map_cell m g.sides u

    there : (u : Cell) → Memᴰ u (filled_cells g) → Memᴰ (to u) (filled_cells (map_grid m g))
    there u k = filled_there m h g u k

    value : (u : Cell) (i : ℕ) (b : Bool) → eqb (flip_at m i) 0 ≡ b → coordinate (to u) i ≡ cond b (coordinate u (axis_at m i)) (n i - 1 - coordinate u (axis_at m i))
    value u i b e = coordinate_at m g.sides u i ∙ fe (flip_at m i) (n i) (coordinate u (axis_at m i)) b e
      where
        fe : (f k j : ℕ) (x : Bool) → eqb f 0 ≡ x → from_end f k j ≡ cond x j (k - 1 - j)
        fe f k j x z = unfold from_end in (ap {B = ℕ} (λ (y : Bool). cond y j (k - 1 - j)) z)

    sides : (i : ℕ) → side (map_grid m g).sides i ≡ n i
    sides i = ap (λ (s : Sides). side s i) (mapped_sides m g) ∙ side_at m g.sides i

    low : (i : ℕ) (b : Bool) → eqb (flip_at m i) 0 ≡ b → (u : Cell) × Memᴰ u (filled_cells (map_grid m g)) × (coordinate u i ≡ 0)
    low i true e = let r = t.low (axis_at m i) in (to r.0, there r.0 r.1, value r.0 i true e ∙ r.2)
    low i false e =
        let r = t.high (axis_at m i) in
        let v = value r.0 i false e in
        let w = r.2 in
        (to r.0, there r.0 r.1, v ∙ omega arith)

    high : (i : ℕ) (b : Bool) → eqb (flip_at m i) 0 ≡ b → (u : Cell) × Memᴰ u (filled_cells (map_grid m g)) × (coordinate u i + 1 ≡ side (map_grid m g).sides i)
    high i true e = let r = t.high (axis_at m i) in (to r.0, there r.0 r.1, ap (λ (k : ℕ). k + 1) (value r.0 i true e) ∙ r.2 ∙ sym (sides i))
    high i false e =
        let r = t.low (axis_at m i) in
        let b = coordinate_below g.sides r.0 (filled_at g r.0 r.1).0 (axis_at m i) in
        let w = r.2 in
        (to r.0, there r.0 r.1, ap (λ (k : ℕ). k + 1) (value r.0 i false e) ∙ omega arith ∙ sym (sides i))

-- tight grids of bits with the same filled cells are the same
pub same_filled : (g h : Grid) → Tight g → Tight h → T (are_bits g) → T (are_bits h) → length g.cells ≡ volume g.sides → length h.cells ≡ volume h.sides
    → ((u : Cell) → Memᴰ u (filled_cells g) → Memᴰ u (filled_cells h)) → ((u : Cell) → Memᴰ u (filled_cells h) → Memᴰ u (filled_cells g)) → g ≡ h
same_filled g h tg th bg bh eg eh f b =
    grid_path same_sides (sym (bytes_whole g eg) ∙ map_same (byte_at g) (byte_at h) (box g.sides) (λ u k. bytes u (box_at g.sides u k)) ∙ ap (λ (s : Sides). map (byte_at h) (box s)) same_sides ∙ bytes_whole h eh)
  where
    at_most : (x y : Grid) → Tight x → ((u : Cell) → Memᴰ u (filled_cells x) → Memᴰ u (filled_cells y)) → (i : ℕ) → side x.sides i ≤ side y.sides i
    at_most x y t k i = let r = t.high i in let c = coordinate_below y.sides r.0 (filled_at y r.0 (k r.0 r.1)).0 i in let w = r.2 in omega arith

    equal : (i : ℕ) → side g.sides i ≡ side h.sides i
    equal i = le_antisymm (at_most g h tg f i) (at_most h g th b i)

    same_sides : g.sides ≡ h.sides
    same_sides = three (equal 0) (equal 1) (equal 2)
      where
        three : side g.sides 0 ≡ side h.sides 0 → side g.sides 1 ≡ side h.sides 1 → side g.sides 2 ≡ side h.sides 2 → g.sides ≡ h.sides
        three x y z = unfold side in (λ i. record { a = x i; b = y i; c = z i })

    bytes : (u : Cell) → InBox g.sides u → byte_at g u ≡ byte_at h u
    bytes u k = go (decide (eqb (byte_at g u) 1)) (decide (eqb (byte_at h u) 1))
      where
        k' : InBox h.sides u
        k' = subst (λ (s : Sides). InBox s u) same_sides k

        lg : byte_at g u ≤ 1
        lg = byte_bit g bg u

        lh : byte_at h u ≤ 1
        lh = byte_bit h bh u

        go : T (eqb (byte_at g u) 1) ⊎ T (not (eqb (byte_at g u) 1)) → T (eqb (byte_at h u) 1) ⊎ T (not (eqb (byte_at h u) 1)) → byte_at g u ≡ byte_at h u
        go (inl s) y = let e = eqb→eq (byte_at g u) 1 s in e ∙ sym (filled_at h u (f u (filled_of g u k e))).1
        go (inr s) (inl y) = let e = eqb→eq (byte_at h u) 1 y in (filled_at g u (b u (filled_of h u k' e))).1 ∙ sym e
        go (inr s) (inr y) =
            let x : byte_at g u ≡ 1 → ⊥ = λ e. clash (eqb (byte_at g u) 1) (eqb_of e) s in
            let z : byte_at h u ≡ 1 → ⊥ = λ e. clash (eqb (byte_at h u) 1) (eqb_of e) y in
            omega (arith, lg, lh)

-- ---- lists
pub grid_trans : (g h k : Grid) → T (grid_ahead g h) → T (grid_ahead h k) → T (grid_ahead g k)
unfolding grid_ahead
grid_trans g h k s t = less_trans (sides_then_cells g) (sides_then_cells h) (sides_then_cells k) s t

pub grid_irrefl : (g : Grid) → T (grid_ahead g g) → ⊥
unfolding grid_ahead
grid_irrefl g t = less_irrefl (sides_then_cells g) t

-- ---- shifts
reach_at : (v o : Cell) → T (reaches v o) → (i : ℕ) → coordinate o i ≤ coordinate v i
unfolding reaches coordinate
reach_at v o t i = go (eqb i 0) (eqb i 1)
  where
    t₁ : T (leb o.x v.x && leb o.y v.y)
    t₁ = and_left (leb o.x v.x && leb o.y v.y) (leb o.z v.z) t

    go : (x y : Bool) → cond x o.x (cond y o.y o.z) ≤ cond x v.x (cond y v.y v.z)
    go true y = leb→le o.x v.x (and_left (leb o.x v.x) (leb o.y v.y) t₁)
    go false true = leb→le o.y v.y (and_right (leb o.x v.x) (leb o.y v.y) t₁)
    go false false = leb→le o.z v.z (and_right (leb o.x v.x && leb o.y v.y) (leb o.z v.z) t)

pub cell_by : (u v : Cell) → ((i : ℕ) → coordinate u i ≡ coordinate v i) → u ≡ v
cell_by u v h = three (h 0) (h 1) (h 2)
  where
    three : coordinate u 0 ≡ coordinate v 0 → coordinate u 1 ≡ coordinate v 1 → coordinate u 2 ≡ coordinate v 2 → u ≡ v
    three x y z = unfold coordinate in (λ i. record { x = x i; y = y i; z = z i })

lies_inj : (v o u w : Cell) → lies v o u ≡ lies v o w → u ≡ w
lies_inj v o u w e = cell_by u w (λ i.
    let a = lies_coordinate v o u i in
    let b = lies_coordinate v o w i in
    let c : coordinate (lies v o u) i ≡ coordinate (lies v o w) i = ap (λ (x : Cell). coordinate x i) e in
    omega arith)

-- ---- placements
module _ (t : Tray) (facts : ShapeFacts t) (w : WellMade (compile t))
    (good : (d : Kind) → Memᴰ d (kinds_of t) → (v : Grid) → Memᴰ v (variants d.shape) → Tight v × T (are_bits v) × (length v.cells ≡ volume v.sides)) where
  abbrev or : List ℕ
  or = axes t.board.sides

  abbrev bd : List Cell
  bd = scan or t.board

  number_inj : (u v : Cell) → Memᴰ u bd → Memᴰ v bd → scan_number bd u ≡ scan_number bd v → u ≡ v
  number_inj u v a b e =
      let r = mem_nth or bd (up_board t facts) a in
      let s = mem_nth or bd (up_board t facts) b in
      let i : r.0 ≡ s.0 = sym (nth_number or bd (up_board t facts) r.0 u r.1) ∙ e ∙ nth_number or bd (up_board t facts) s.0 v s.1 in
      nth_unique bd s.0 u v (subst (λ (n : ℕ). Nth bd n u) i r.1) s.1

  pub scan_filled : (g : Grid) (u : Cell) → Memᴰ u (scan or g) → Memᴰ u (filled_cells g)
  unfolding scan
  scan_filled g u k = sort_at (cell_ahead or) (filled_cells g) k

  pub filled_scan : (g : Grid) (u : Cell) → Memᴰ u (filled_cells g) → Memᴰ u (scan or g)
  unfolding scan
  filled_scan g u k = sort_of (cell_ahead or) (cells_tied t.board.sides) (filled_cells g) k

  -- the variants' cells tell the variants apart
  scan_inj : (d : Kind) → Memᴰ d (kinds_of t) → (g h : Grid) → Memᴰ g (variants d.shape) → Memᴰ h (variants d.shape) → scan or g ≡ scan or h → g ≡ h
  scan_inj d k g h a b e =
      let x = good d k g a in
      let y = good d k h b in
      same_filled g h x.0 y.0 x.1 y.1 x.2 y.2
      (λ u m. scan_filled h u (subst (λ (l : List Cell). Memᴰ u l) e (filled_scan g u m))) (λ u m. scan_filled g u (subst (λ (l : List Cell). Memᴰ u l) (sym e) (filled_scan h u m)))

  variants_apart : (g : Grid) → Apart (variants g)
  unfolding variants
  variants_apart g = apart_ascending grid_ahead grid_irrefl (sort grid_ahead (map (λ m. map_grid m g) turns)) (sort_ascending grid_ahead grid_trans (map (λ m. map_grid m g) turns))

  fitting_apart : (d : Kind) → Memᴰ d (kinds_of t) → (v : Cell) → Apart (keep (fits bd v) (map (scan or) (variants d.shape)))
  fitting_apart d k v = apart_keep (fits bd v) (map (scan or) (variants d.shape)) (apart_map (scan or) (variants d.shape) (variants_apart d.shape) (scan_inj d k))

  module _ (q r : Placement) (a : Memᴰ q (compile t).placements) (b : Memᴰ r (compile t).placements) (k : q.kind ≡ r.kind) (e : q.cells ≡ r.cells) where
    x : Made or bd (kinds_of t) q
    x = from_made t facts q a

    y : Made or bd (kinds_of t) r
    y = from_made t facts r b

    p_same : q.p ≡ r.p
    p_same =
        le_antisymm (w.from_p q a r.p (subst (λ (l : List ℕ). Memᴰ r.p l) (sym e) (w.covers_p r b)))
        (w.from_p r b q.p (subst (λ (l : List ℕ). Memᴰ q.p l) e (w.covers_p q a)))

    kind_same : x.kind ≡ y.kind
    kind_same = nth_unique (kinds_of t) r.kind x.kind y.kind (subst (λ (n : ℕ). Nth (kinds_of t) n x.kind) k x.is_kind) y.is_kind

    on_same : x.on ≡ y.on
    on_same = nth_unique bd r.p x.on y.on (subst (λ (n : ℕ). Nth bd n x.on) p_same x.is_on) y.is_on

    abbrev ox : Cell
    ox = origin x.variant

    abbrev oy : Cell
    oy = origin y.variant

    placed_same : map (lies x.on ox) x.variant ≡ map (lies y.on oy) y.variant
    placed_same =
        map_through (λ u. scan_number bd (lies x.on ox u)) (λ u. scan_number bd (lies y.on oy u)) (lies x.on ox) (lies y.on oy) x.variant y.variant
        (λ u v m l i. number_inj (lies x.on ox u) (lies y.on oy v)
        (lies_on or bd (up_board t facts) (kinds_of t) q x (some-cells t facts q x) (up_variant t facts q x) u m)
        (lies_on or bd (up_board t facts) (kinds_of t) r y (some-cells t facts r y) (up_variant t facts r y) v l) i)
        (sym x.cells_are ∙ e ∙ y.cells_are)

  reached : (q : Placement) (x : Made or bd (kinds_of t) q) → T (reaches x.on (origin x.variant))
  unfolding fits
  reached q x = and_left (reaches x.on (origin x.variant)) (all (λ u. any (same_cell (lies x.on (origin x.variant) u)) bd) x.variant) x.fitting

  -- a variant has a cell at the low end of each axis
  low_in : (q : Placement) (x : Made or bd (kinds_of t) q) (i : ℕ) → (u : Cell) × Memᴰ u x.variant × (coordinate u i ≡ 0)
  low_in q x i =
      let v = the_variant t facts q x in
      let r = (good x.kind (kind_in t facts q x) v.0 v.1).0.low i in
      (r.0, subst (λ (l : List Cell). Memᴰ r.0 l) v.2 (filled_scan v.0 r.0 r.1), r.2)

  corner_le : (q r : Placement) (x : Made or bd (kinds_of t) q) (y : Made or bd (kinds_of t) r) → map (lies x.on (origin x.variant)) x.variant ≡ map (lies y.on (origin y.variant)) y.variant
      → (i : ℕ) → coordinate y.on i - coordinate (origin y.variant) i ≤ coordinate x.on i - coordinate (origin x.variant) i
  corner_le q r x y e i =
      let l = low_in q x i in
      let m = Memᴰ.of_map (lies y.on (origin y.variant)) y.variant (subst (λ (z : List Cell). Memᴰ (lies x.on (origin x.variant) l.0) z) e (Memᴰ.map (lies x.on (origin x.variant)) l.1)) in
      let a = lies_coordinate x.on (origin x.variant) l.0 i in
      let b = lies_coordinate y.on (origin y.variant) m.0 i in
      let c : coordinate (lies y.on (origin y.variant) m.0) i ≡ coordinate (lies x.on (origin x.variant) l.0) i = ap (λ (z : Cell). coordinate z i) m.2 in
      let d = l.2 in
      omega arith

  pub by-cells : (q r : Placement) → Memᴰ q (compile t).placements → Memᴰ r (compile t).placements → q.kind ≡ r.kind → q.cells ≡ r.cells → q ≡ r
  by-cells q r a b k e = same_rank (compile t) w q r a b k (p_same q r a b k e) j_same
    where
      X : Made or bd (kinds_of t) q
      X = x q r a b k e

      Y : Made or bd (kinds_of t) r
      Y = y q r a b k e

      on_eq : X.on ≡ Y.on
      on_eq = on_same q r a b k e

      placed : map (lies X.on (origin X.variant)) X.variant ≡ map (lies Y.on (origin Y.variant)) Y.variant
      placed = placed_same q r a b k e

      origins : origin X.variant ≡ origin Y.variant
      origins = cell_by (origin X.variant) (origin Y.variant) (λ i.
          let c₁ = corner_le q r X Y placed i in
          let c₂ = corner_le r q Y X (sym placed) i in
          let r₁ = reach_at X.on (origin X.variant) (reached q X) i in
          let r₂ = reach_at Y.on (origin Y.variant) (reached r Y) i in
          let v : coordinate X.on i ≡ coordinate Y.on i = ap (λ (z : Cell). coordinate z i) on_eq in
          omega arith)

      variants_eq : X.variant ≡ Y.variant
      variants_eq =
          sym (map-id X.variant)
          ∙ map_through (lies X.on (origin X.variant)) (lies Y.on (origin Y.variant)) (λ u. u) (λ u. u) X.variant Y.variant
          (λ u v m l i. lies_inj Y.on (origin Y.variant) u v (ap₂ (λ (z o : Cell). lies z o u) (sym on_eq) (sym origins) ∙ i)) placed
          ∙ map-id Y.variant

      list_eq : keep (fits bd X.on) (map (scan or) (variants X.kind.shape)) ≡ keep (fits bd Y.on) (map (scan or) (variants Y.kind.shape))
      list_eq = ap₂ (λ (v : Cell) (d : Kind). keep (fits bd v) (map (scan or) (variants d.shape))) on_eq (kind_same q r a b k e)

      j_same : q.j ≡ r.j
      j_same =
          nth_apart (keep (fits bd Y.on) (map (scan or) (variants Y.kind.shape))) (fitting_apart Y.kind (kind_in t facts r Y) Y.on) q.j r.j Y.variant
          (subst (λ (u : List Cell). Nth (keep (fits bd Y.on) (map (scan or) (variants Y.kind.shape))) q.j u) variants_eq (subst (λ (l : List (List Cell)). Nth l q.j X.variant) list_eq X.is_j)) Y.is_j
