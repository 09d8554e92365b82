-- The placements are the pieces' grids after quarter turns, set down on filled board cells, all of them, each once and in order. Assumes nothing.
use Prim.Native.Nat.{ℕ, ◌+◌, ◌-◌, ◌<◌}
use mathlib.Core.Bool.{Bool, false, ◌&&◌}
use mathlib.Core.List.Memᴰ
use mathlib.Core.List.{List, [], ◌∷◌, map, Memᴰ}
use mathlib.Core.Path.{◌≡◌, refl, sym, ap, ◌∙◌, subst}
use native.Mathlib.Omega.{arith}
use lib.Dec.{T, ltb, leb, le→leb}
use lib.ListN.{length}
use Rattle.lists.specs.Lists.{all, any, keep, sort, ascending, numbered, joined}
use Rattle.lists.proofs.TestLaws.{and_both}
use Rattle.lists.proofs.ListLaws.{all_at, all_of, any_at, any_of, keep_of, map_same, joined_of}
use Rattle.lists.proofs.SortLaws.{sorted_of, sort_at, sort_of}
use Rattle.lists.proofs.NthLaws.{Nth, nth_kept, get_or_nth, nth_value, numbered_of, mem_nth_of}
use Rattle.definitions.specs.Grid.{set_down, Sides, Cell, Grid, volume, filled_cells, same_cell}
use Rattle.definitions.specs.Maps.{Map, map_grid, turns}
use Rattle.theorems.proofs.MapLaws.{cell_path, turn_fits}
use Rattle.definitions.specs.Scan.{axes, cell_ahead, scan, scan_number}
use Rattle.definitions.specs.Kinds.{Tray, Kind, kinds_of, variants, smallest}
use Rattle.definitions.specs.Placements.{origin, lies, reaches, fits, Placement, placements_at, placements_of, Compiled, compile}
use Rattle.definitions.specs.Packing.{ahead}
use Rattle.definitions.specs.Moves.{Move, are_turns, is_odd, grid_after}
use Rattle.definitions.specs.Moves.Move.{turn, mirroring}
use Rattle.definitions.specs.Refusals.{Call, tray_of, refusal, are_bits, is_tight}
use Rattle.definitions.specs.PlacementsRight.{SetDown, kind_at}
use Rattle.theorems.proofs.WellMadeLaws.{Made, from_made, the_variant, some-cells, up_variant, up_board, lies_on, mem_nth, same_cell→eq, same_cell_refl}
use Rattle.theorems.proofs.ShapeLaws.{cells_tied, variant_at, smallest_at, shape_facts}
use Rattle.theorems.proofs.ActLaws.{maps_of}
use Rattle.theorems.proofs.MoveLaws.{moves_map, moves_in, moves_grid, turn_moves, turns_alone}
use Rattle.theorems.proofs.CellLaws.{Tight, tight_of, tight_mapped}
use Rattle.theorems.proofs.PartnerLaws.{variant_of, variants_turned}
use Rattle.theorems.proofs.GeometryLaws.{W, numbered_cells}

-- ---- lists
origin-of : (us : List Cell) {u : Cell} → Memᴰ u us → Memᴰ (origin us) us
unfolding origin
origin-of [] k = absurd (Memᴰ.not-nil k)
origin-of (u ∷ us) k = Memᴰ.head refl

-- ---- scan order lists the filled cells
module _ (s : Sides) (g : Grid) where
  scanned_filled : (u : Cell) → Memᴰ u (scan (axes s) g) → Memᴰ u (filled_cells g)
  unfolding scan
  scanned_filled u k = sort_at (cell_ahead (axes s)) (filled_cells g) k

  filled_scanned : (u : Cell) → Memᴰ u (filled_cells g) → Memᴰ u (scan (axes s) g)
  unfolding scan
  filled_scanned u k = sort_of (cell_ahead (axes s)) (cells_tied s) (filled_cells g) k

-- the test that a cell is one of the board's, and what it says
pub on-board : (cells : List Cell) (u : Cell) → T (any (same_cell u) cells) → Memᴰ u cells
on-board cells u t = let r = any_at (same_cell u) cells t in Memᴰ.cast (same_cell→eq u r.0 r.2) r.1

pub is_on_board : (cells : List Cell) (u : Cell) → Memᴰ u cells → T (any (same_cell u) cells)
is_on_board cells u k = any_of (same_cell u) cells k (same_cell_refl u)

-- ---- a grid after quarter turns is one of its variants, and each of its variants is the grid after some
turns_not_odd : (ms : List Move) → T (are_turns ms) → is_odd ms ≡ false
turns_not_odd [] t = refl
turns_not_odd (turn q ∷ ms) t = turns_not_odd ms t
turns_not_odd (mirroring qs ∷ ms) t = absurd t

module _ (g : Grid) (bits : T (are_bits g)) (whole : length g.cells ≡ volume g.sides) where
  turned_by : (ms : List Move) → T (are_turns ms) → Memᴰ (moves_map ms) turns
  turned_by ms t = subst (λ (b : Bool). Memᴰ (moves_map ms) (maps_of b)) (turns_not_odd ms t) (moves_in ms)

  pub turned_variant : (ms : List Move) → T (are_turns ms) → Memᴰ (grid_after ms g) (variants g)
  turned_variant ms t = Memᴰ.cast (moves_grid ms g bits whole) (variant_of g (moves_map ms) (turned_by ms t))

  variant_turned : (v : Grid) → Memᴰ v (variants g) → (ms : List Move) × T (are_turns ms) × (grid_after ms g ≡ v)
  variant_turned v k =
      let r = variant_at g v k in
      let q = turn_moves r.0 r.1 in
      (map turn q.0, turns_alone q.0, moves_grid (map turn q.0) g bits whole ∙ ap (λ (m : Map). map_grid m g) q.1 ∙ r.2)

  shape_variants : variants (smallest g) ≡ variants g
  shape_variants = let r = smallest_at g in ap variants (sym r.2) ∙ variants_turned r.0 r.1 g whole

  turned_tight : T (is_tight g) → (ms : List Move) → T (are_turns ms) → Tight (grid_after ms g)
  turned_tight h ms t = subst Tight (sym (moves_grid ms g bits whole)) (tight_mapped (moves_map ms) (turn_fits (moves_map ms) (turned_by ms t)) g (tight_of g h))

-- ---- a variant that fits is set down, and one that is set down fits
corner_of : Cell → Cell → Cell
corner_of v o = record { x = v.x - o.x; y = v.y - o.y; z = v.z - o.z }

lies_down : (v o u : Cell) → lies v o u ≡ set_down (corner_of v o) u
unfolding lies set_down corner_of
lies_down v o u = refl

down_reaches : (corner o : Cell) → T (reaches (set_down corner o) o)
unfolding reaches set_down
down_reaches corner o =
    and_both (leb o.x (corner.x + o.x) && leb o.y (corner.y + o.y)) (leb o.z (corner.z + o.z))
    (and_both (leb o.x (corner.x + o.x)) (leb o.y (corner.y + o.y)) (at corner.x o.x) (at corner.y o.y)) (at corner.z o.z)
  where
    at : (n m : ℕ) → T (leb m (n + m))
    at n m = le→leb m (n + m) (omega arith)

down_lies : (corner o u : Cell) → lies (set_down corner o) o u ≡ set_down corner u
unfolding lies set_down
down_lies corner o u = cell_path (at corner.x o.x u.x) (at corner.y o.y u.y) (at corner.z o.z u.z)
  where
    at : (n m k : ℕ) → n + m - m + k ≡ n + k
    at n m k = omega arith

-- ---- what fits is placed
module _ (order : List ℕ) (board : List Cell) where
  -- a grid's variants that fit with their origin on a cell, in order
  abbrev pub fitting : Grid → Cell → List Grid
  fitting g on = keep (λ h. fits board on (scan order h)) (variants g)

  -- a placement is the variant v of g: the origin lies on its p, and its j is the number of v among the variants that fit there
  pub record Stands (g v : Grid) (r : Placement) : Type 0 where
    pub on : Cell
    pub is_on : Nth board r.p on
    pub is_j : Nth (fitting g on) r.j v

module _ (order : List ℕ) (board : List Cell) (ks : List Kind) where
  pub placed_nth : (k : ℕ) (d : Kind) → Nth ks k d → (p : ℕ) (v : Cell) → Nth board p v
      → (j : ℕ) (us : List Cell) → Nth (keep (fits board v) (map (scan order) (variants d.shape))) j us
      → (r : Placement) × Memᴰ r (joined (numbered ks (placements_of order board))) × (r.kind ≡ k) × (r.p ≡ p) × (r.j ≡ j)
      × (r.cells ≡ map (λ u. scan_number board (lies v (origin us) u)) us)
  unfolding placements_of placements_at
  placed_nth k d hk p v hp j us hj =
      let vs = map (scan order) (variants d.shape) in
      let from-0 : (n : ℕ) → n + 0 ≡ n = λ n. omega arith in (
        _,
        joined_of (numbered ks (placements_of order board)) (numbered_of (placements_of order board) 0 ks k d hk)
            (joined_of (numbered board (placements_at board (k + 0) vs)) (numbered_of (placements_at board (k + 0) vs) 0 board p v hp)
            (numbered_of (λ (i : ℕ) (ws : List Cell). record { kind = k + 0; p = p + 0; j = i; cells = map (λ u. scan_number board (lies v (origin ws) u)) ws }) 0
            (keep (fits board v) vs) j us hj)),
        from-0 k,
        from-0 p,
        from-0 j,
        refl,
      )

module _ (l : Call) (ok : refusal l ≡ 0) where
  abbrev t : Tray
  t = tray_of l

  abbrev c : Compiled
  c = compile (tray_of l)

  abbrev order : List ℕ
  order = axes t.board.sides

  abbrev cs : List Cell
  cs = scan order t.board

  -- ---- of a kind, once, in order, the origin first
  pub of-kind : (r : Placement) → Memᴰ r (compile (tray_of l)).placements → r.kind < length (compile (tray_of l)).kinds
  of-kind r k = (W l ok).of_kinds r k

  pub placement_once : (r s : Placement) → Memᴰ r (compile (tray_of l)).placements → Memᴰ s (compile (tray_of l)).placements
      → r.kind ≡ s.kind → r.cells ≡ s.cells → r ≡ s
  placement_once = (numbered_cells l ok).by_cells

  pub placements_in_order : T (ascending ahead (compile (tray_of l)).placements)
  placements_in_order = (W l ok).in_order

  pub origin-first : (r : Placement) → Memᴰ r (compile (tray_of l)).placements → Memᴰ r.p r.cells × ((n : ℕ) → Memᴰ n r.cells → n < r.p → ⊥)
  origin-first r k = ((W l ok).covers_p r k, λ n m h. let e = (W l ok).from_p r k n m in omega arith)

  -- ---- sound: a placement's variant is the grid after some quarter turns, and its corner is where the origin lies less the origin
  kind_is : (k : ℕ) (d : Kind) → Nth (kinds_of t) k d → kind_at c k ≡ d
  unfolding kind_at compile
  kind_is k d h = nth_value (kinds_of t) k d _ h

  pub placement_sound : (r : Placement) → Memᴰ r (compile (tray_of l)).placements → (g : Grid) → T (are_bits g) → length g.cells ≡ volume g.sides
      → (kind_at (compile (tray_of l)) r.kind).shape ≡ smallest g → SetDown (compile (tray_of l)) g r.cells
  unfolding compile
  placement_sound r k g bits whole e =
      record { moves = ms.0; by_turns = ms.1; corner = corner; on_board = subst On (sym ms.2) on; cells_are = subst Are (sym ms.2) are }
    where
      x : Made order cs (kinds_of t) r
      x = from_made t (shape_facts l ok) r k

      v : (h : Grid) × Memᴰ h (variants x.kind.shape) × (scan order h ≡ x.variant)
      v = the_variant t (shape_facts l ok) r x

      shape : variants x.kind.shape ≡ variants g
      shape = ap (λ (d : Kind). variants d.shape) (sym (kind_is r.kind x.kind x.is_kind)) ∙ ap variants e ∙ shape_variants g bits whole

      ms : (ms : List Move) × T (are_turns ms) × (grid_after ms g ≡ v.0)
      ms = variant_turned g bits whole v.0 (subst (λ (vs : List Grid). Memᴰ v.0 vs) shape v.1)

      o : Cell
      o = origin x.variant

      corner : Cell
      corner = corner_of x.on o

      On : Grid → Type 0
      On h = T (all (λ u. any (same_cell (set_down corner u)) cs) (filled_cells h))

      Are : Grid → Type 0
      Are h = r.cells ≡ sort ltb (map (λ u. scan_number cs (set_down corner u)) (filled_cells h))

      there : (u : Cell) → Memᴰ u (filled_cells v.0) → Memᴰ u x.variant
      there u m = subst (λ (us : List Cell). Memᴰ u us) v.2 (filled_scanned t.board.sides v.0 u m)

      back : (u : Cell) → Memᴰ u x.variant → Memᴰ u (filled_cells v.0)
      back u m = scanned_filled t.board.sides v.0 u (subst (λ (us : List Cell). Memᴰ u us) (sym v.2) m)

      lying : (u : Cell) → Memᴰ u x.variant → Memᴰ (lies x.on o u) cs
      lying = lies_on order cs (up_board t (shape_facts l ok)) (kinds_of t) r x (some-cells t (shape_facts l ok) r x) (up_variant t (shape_facts l ok) r x)

      on : On v.0
      on = all_of (λ u. any (same_cell (set_down corner u)) cs) (filled_cells v.0) (λ u m. is_on_board cs (set_down corner u) (Memᴰ.cast (sym (lies_down x.on o u)) (lying u (there u m))))

      as_down : r.cells ≡ map (λ u. scan_number cs (set_down corner u)) x.variant
      as_down = x.cells_are ∙ map_same (λ u. scan_number cs (lies x.on o u)) (λ u. scan_number cs (set_down corner u)) x.variant (λ u m. ap (scan_number cs) (lies_down x.on o u))

      are : Are v.0
      are =
          as_down ∙ sorted_of (λ u. scan_number cs (set_down corner u)) x.variant (filled_cells v.0)
          (subst (λ (ns : List ℕ). T (ascending ltb ns)) as_down ((W l ok).cells_ascend r k)) back there

  -- ---- complete: what is set down fits with its origin where the origin is set down; a tight grid has one
  pub placement_stands : (k : ℕ) → k < length (compile (tray_of l)).kinds → (g : Grid) → T (are_bits g) → length g.cells ≡ volume g.sides → T (is_tight g)
      → (kind_at (compile (tray_of l)) k).shape ≡ smallest g → (cells : List ℕ) (s : SetDown (compile (tray_of l)) g cells)
      → (r : Placement) × Memᴰ r (compile (tray_of l)).placements × (r.kind ≡ k) × (r.cells ≡ cells) × Stands order cs g (grid_after s.moves g) r
  unfolding compile
  placement_stands k hk g bits whole h e cells s = (r.0, r.1, r.2, are, stands)
    where
      d : (d : Kind) × Nth (kinds_of t) k d
      d = get_or_nth (kinds_of t) k hk

      v : Grid
      v = grid_after s.moves g

      us : List Cell
      us = scan order v

      shape : variants d.0.shape ≡ variants g
      shape = ap (λ (x : Kind). variants x.shape) (sym (kind_is k d.0 d.1)) ∙ ap variants e ∙ shape_variants g bits whole

      there : (u : Cell) → Memᴰ u (filled_cells v) → Memᴰ u us
      there = filled_scanned t.board.sides v

      back : (u : Cell) → Memᴰ u us → Memᴰ u (filled_cells v)
      back = scanned_filled t.board.sides v

      o : Cell
      o = origin us

      o_in : Memᴰ o us
      o_in = let u = (turned_tight g bits whole h s.moves s.by_turns).low 0 in origin-of us (there u.0 u.1)

      down : (u : Cell) → Memᴰ u us → T (any (same_cell (set_down s.corner u)) cs)
      down u m = all_at (λ (w : Cell). any (same_cell (set_down s.corner w)) cs) (filled_cells v) s.on_board (back u m)

      on : Cell
      on = set_down s.corner o

      p : (n : ℕ) × Nth cs n on
      p = mem_nth order cs (up_board t (shape_facts l ok)) (on-board cs on (down o o_in))

      fit : T (fits cs on us)
      fit = unfold fits in
          and_both (reaches on o) (all (λ u. any (same_cell (lies on o u)) cs) us) (down_reaches s.corner o)
          (all_of (λ u. any (same_cell (lies on o u)) cs) us (λ u m. subst (λ (w : Cell). T (any (same_cell w) cs)) (sym (down_lies s.corner o u)) (down u m)))

      j : (n : ℕ) × Nth (fitting order cs g on) n v
      j =
          mem_nth_of (fitting order cs g on) v
          (keep_of (λ (w : Grid). fits cs on (scan order w)) (variants g) (turned_variant g bits whole s.moves s.by_turns) fit)

      r : (r : Placement) × Memᴰ r c.placements × (r.kind ≡ k) × (r.p ≡ p.0) × (r.j ≡ j.0) × (r.cells ≡ map (λ u. scan_number cs (lies on o u)) us)
      r =
          placed_nth order cs (kinds_of t) k d.0 d.1 p.0 on p.1 j.0 us
          (nth_kept (scan order) (fits cs on) (variants d.0.shape) j.0 v
          (subst (λ (vs : List Grid). Nth (keep (λ w. fits cs on (scan order w)) vs) j.0 v) (sym shape) j.1))

      stands : Stands order cs g v r.0
      stands =
          record {
            on = on;
            is_on = subst (λ (n : ℕ). Nth cs n on) (sym r.3) p.1;
            is_j = subst (λ (n : ℕ). Nth (fitting order cs g on) n v) (sym r.4) j.1;
          }

      as_down : r.0.cells ≡ map (λ u. scan_number cs (set_down s.corner u)) us
      as_down = r.5 ∙ map_same (λ u. scan_number cs (lies on o u)) (λ u. scan_number cs (set_down s.corner u)) us (λ u m. ap (scan_number cs) (down_lies s.corner o u))

      are : r.0.cells ≡ cells
      are =
          as_down ∙ sorted_of (λ u. scan_number cs (set_down s.corner u)) us (filled_cells v)
          (subst (λ (ns : List ℕ). T (ascending ltb ns)) as_down ((W l ok).cells_ascend r.0 r.1)) back there
          ∙ sym s.cells_are

  pub placement_complete : (k : ℕ) → k < length (compile (tray_of l)).kinds → (g : Grid) → T (are_bits g) → length g.cells ≡ volume g.sides → T (is_tight g)
      → (kind_at (compile (tray_of l)) k).shape ≡ smallest g → (cells : List ℕ) → SetDown (compile (tray_of l)) g cells
      → (r : Placement) × Memᴰ r (compile (tray_of l)).placements × (r.kind ≡ k) × (r.cells ≡ cells)
  placement_complete k hk g bits whole h e cells s = let x = placement_stands k hk g bits whole h e cells s in (x.0, x.1, x.2, x.3)
