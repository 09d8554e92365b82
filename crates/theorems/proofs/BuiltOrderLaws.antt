-- The cells of a row in the order of the board's box are the filled cells of the turned grid in the order of its own, set down: the order in which the original
-- builds the row. Assumes nothing.
use Prim.Native.Nat.{ℕ, ◌-◌, ◌<◌}
use mathlib.Core.List.Memᴰ
use mathlib.Core.List.{List, [], ◌∷◌, map, Memᴰ}
use mathlib.Core.Path.{◌≡◌, refl, sym, ap, ap₂, ◌∙◌, subst}
use native.Mathlib.Omega.{arith}
use lib.Dec.{T, eqb, eqb→eq}
use lib.ListN.{length, get_or, length-map}
use Rattle.lists.specs.Lists.{keep, member}
use Rattle.lists.proofs.TestLaws.{tests_same, eqb_of}
use Rattle.lists.proofs.ListLaws.{keep_map, keep_same, keep_at, map_same, get_or_mem, get_or_map, nonempty_length}
use Rattle.lists.proofs.RangeLaws.{member_at, member_of}
use Rattle.lists.proofs.NthLaws.{Nth, nth_mem, nth_below, nth_map, nth_at, nth_value, nth_unique}
use Rattle.definitions.specs.Grid.{Cell, Grid, set_down, box, byte_at, filled_cells}
use Rattle.definitions.specs.Maps.{side, coordinate}
use Rattle.definitions.specs.Scan.{axes, scan, scan_number}
use Rattle.definitions.specs.Stripping.{FitsIn}
use Rattle.definitions.specs.Kinds.{Tray, Kind, kinds_of, variants}
use Rattle.definitions.specs.Placements.{origin, lies, fits, Placement, Compiled, compile}
use Rattle.definitions.specs.PlacementsRight.{kind_at, no_grid}
use Rattle.definitions.specs.Demands.{nowhere}
use Rattle.definitions.specs.Refusals.{Call, tray_of, rows_of, refusal}
use Rattle.definitions.specs.TextCalls.{TextCall, as_listing, text_tray, text_of, text_refusal}
use Rattle.definitions.specs.Dlx1.{cell_item, kind_item, boxed, built_cells, dlx1_text}
use Rattle.definitions.specs.Dlx1Covers.{fitting, built, BuiltOrder}
use Rattle.theorems.proofs.MapLaws.{box_at, filled_at, filled_of}
use Rattle.theorems.proofs.CellLaws.{Tight, scan_filled, filled_scan}
use Rattle.theorems.proofs.StrippedLaws.{set_down_one}
use Rattle.theorems.proofs.WellMadeLaws.{Made, from_made, kind_in, some-cells, up_variant, up_board, lies_on}
use Rattle.theorems.proofs.ShapeLaws.{shape_facts}
use Rattle.theorems.proofs.GeometryLaws.{W, good, numbered_cells, in-box}
use Rattle.theorems.proofs.TextCallLaws.{listing_accepted, some_cell}
use Rattle.theorems.proofs.Dlx1ReadingLaws.{tray_options}
use Rattle.theorems.proofs.BoxOrderLaws.{walked, row_cell, built_box}

module _ (l : Call) (ok : refusal l ≡ 0) (q : Placement) (m : Memᴰ q (compile (tray_of l)).placements) where
  abbrev t : Tray
  t = tray_of l

  abbrev c : Compiled
  c = compile (tray_of l)

  abbrev order : List ℕ
  order = axes t.board.sides

  abbrev cs : List Cell
  cs = scan order t.board

  -- how the placement was made, and the turned grid that it is
  x : Made order cs (kinds_of t) q
  x = from_made t (shape_facts l ok) q m

  abbrev turned : List Grid
  turned = keep (λ g. fits cs x.on (scan order g)) (variants x.kind.shape)

  fitting_is : fitting c q ≡ turned
  unfolding fitting kind_at compile
  fitting_is =
      ap (λ (v : Cell). keep (λ g. fits cs v (scan order g)) (variants (kind_at c q.kind).shape)) (nth_value cs q.p x.on (record { x = 0; y = 0; z = 0 }) x.is_on)
      ∙ ap (λ (d : Kind). keep (λ g. fits cs x.on (scan order g)) (variants d.shape)) (nth_value (kinds_of t) q.kind x.kind _ x.is_kind)

  -- those that fit in scan order are the grids that fit, scanned
  scanned : Nth (map (scan order) turned) q.j x.variant
  scanned = subst (λ (us : List (List Cell)). Nth us q.j x.variant) (keep_map (scan order) (fits cs x.on) (variants x.kind.shape)) x.is_j

  turned_below : q.j < length turned
  turned_below = let h = nth_below (map (scan order) turned) q.j x.variant scanned in let e = length-map turned (scan order) in omega arith

  abbrev g : Grid
  g = get_or turned q.j no_grid

  g_nth : Nth turned q.j g
  g_nth = nth_at no_grid turned q.j turned_below

  g_in : Memᴰ g (variants x.kind.shape)
  g_in = (keep_at (λ h. fits cs x.on (scan order h)) (variants x.kind.shape) (nth_mem turned q.j g_nth)).0

  g_scanned : scan order g ≡ x.variant
  g_scanned = nth_unique (map (scan order) turned) q.j (scan order g) x.variant (nth_map (scan order) turned q.j g g_nth) scanned

  tight-g : Tight g
  tight-g = (good l ok x.kind (kind_in t (shape_facts l ok) q x) g g_in).0

  there : (u : Cell) → Memᴰ u (filled_cells g) → Memᴰ u x.variant
  there u k = subst (λ (us : List Cell). Memᴰ u us) g_scanned (filled_scan t (shape_facts l ok) (W l ok) (good l ok) g u k)

  back : (u : Cell) → Memᴰ u x.variant → Memᴰ u (filled_cells g)
  back u k = scan_filled t (shape_facts l ok) (W l ok) (good l ok) g u (subst (λ (us : List Cell). Memᴰ u us) (sym g_scanned) k)

  -- where the corner of its box lies
  abbrev o : Cell
  o = origin x.variant

  abbrev corner : Cell
  corner = record { x = x.on.x - o.x; y = x.on.y - o.y; z = x.on.z - o.z }

  abbrev number : Cell → ℕ
  number = scan_number c.cells

  lies_down : (u : Cell) → lies x.on o u ≡ set_down corner u
  unfolding lies set_down
  lies_down u = refl

  -- its filled cells lie on the board, and their numbers are the row's
  on_board : (u : Cell) → Memᴰ u (filled_cells g) → Memᴰ (set_down corner u) c.cells
  unfolding compile
  on_board u k =
      Memᴰ.cast (sym (lies_down u))
      (lies_on order cs (up_board t (shape_facts l ok)) (kinds_of t) q x (some-cells t (shape_facts l ok) q x) (up_variant t (shape_facts l ok) q x) u (there u k))

  row_has : (u : Cell) → Memᴰ u (filled_cells g) → Memᴰ (number (set_down corner u)) q.cells
  unfolding compile
  row_has u k =
      subst (λ (ns : List ℕ). Memᴰ (number (set_down corner u)) ns) (sym x.cells_are)
      (Memᴰ.cast (ap number (sym (lies_down u))) (Memᴰ.map (λ w. scan_number cs (lies x.on o w)) (there u k)))

  row_at : (n : ℕ) → Memᴰ n q.cells → (u : Cell) × Memᴰ u (filled_cells g) × (number (set_down corner u) ≡ n)
  unfolding compile
  row_at n k =
      let r = Memᴰ.of_map (λ w. scan_number cs (lies x.on o w)) x.variant (subst (λ (ns : List ℕ). Memᴰ n ns) x.cells_are k) in
      (r.0, back r.0 r.1, ap number (sym (lies_down r.0)) ∙ r.2)

  -- a board cell with a number of the row is one of them, set down
  lying : (u : Cell) → T (member (number u) q.cells) → (v : Cell) × Memᴰ v (filled_cells g) × (set_down corner v ≡ u)
  lying u k =
      let r = row_at (number u) (member_at (number u) q.cells k) in
      let nu = numbered_cells l ok in
      (r.0, r.1, sym (nu.cell_number (set_down corner r.0) (on_board r.0 r.1)) ∙ ap (λ (n : ℕ). get_or c.cells n (record { x = 0; y = 0; z = 0 })) r.2 ∙ nu.cell_number u (row_cell l ok q m c.cells refl u k))

  -- its box lies in the board's, since it is tight
  fits_in : FitsIn (record { lent = c.board.sides; at = corner }) g.sides
  unfolding set_down coordinate side
  fits_in =
      let a = tight-g.high 0 in let b = tight-g.high 1 in let d = tight-g.high 2 in
      let i = (in-box l ok (set_down corner a.0) (on_board a.0 a.1)).0 in
      let j = (in-box l ok (set_down corner b.0) (on_board b.0 b.1)).1 in
      let k = (in-box l ok (set_down corner d.0) (on_board d.0 d.1)).2 in
      let e = a.2 in let f = b.2 in let h = d.2 in
      record { along_x = omega arith; along_y = omega arith; along_z = omega arith }

  filled : (u : Cell) → Memᴰ u (box g.sides) → member (number (set_down corner u)) q.cells ≡ eqb (byte_at g u) 1
  filled u k =
      tests_same (member (number (set_down corner u)) q.cells) (eqb (byte_at g u) 1)
      (λ h. let r = lying (set_down corner u) h in eqb_of (filled_at g u (Memᴰ.cast (sym (set_down_one corner r.0 u r.2)) r.1)).1)
      (λ h. member_of q.cells (row_has u (filled_of g u (box_at g.sides u k) (eqb→eq (byte_at g u) 1 h))))

  built_same : built_cells (boxed (compile (tray_of l))) q ≡ map (λ u. number (lies x.on (origin (scan order g)) u)) (filled_cells g)
  unfolding filled_cells
  built_same =
      built_box l ok q m ∙ walked q.cells number c.board.sides g.sides corner fits_in (λ u b k. let r = lying u k in (r.0, (filled_at g r.0 r.1).0, r.2))
      ∙ keep_map (λ u. number (set_down corner u)) (λ n. member n q.cells) (box g.sides)
      ∙ ap (map (λ u. number (set_down corner u))) (keep_same _ _ (box g.sides) filled)
      ∙ map_same (λ u. number (set_down corner u)) (λ u. number (lies x.on (origin (scan order g)) u)) (filled_cells g)
      (λ u k. ap number (sym (lies_down u) ∙ ap (λ (us : List Cell). lies x.on (origin us) u) (sym g_scanned)))

  pub built_is : (q.j < length (fitting (compile (tray_of l)) q)) × (built_cells (boxed (compile (tray_of l))) q ≡ built (compile (tray_of l)) q)
  unfolding built compile
  built_is = (
    subst (λ (gs : List Grid). q.j < length gs) (sym fitting_is) turned_below,
    built_same
        ∙ ap₂ (λ (v : Cell) (h : Grid). map (λ u. number (lies v (origin (scan order h)) u)) (filled_cells h)) (sym on_is) (ap (λ (gs : List Grid). get_or gs q.j no_grid) (sym fitting_is)),
  )
    where
      on_is : get_or c.cells q.p (record { x = 0; y = 0; z = 0 }) ≡ x.on
      on_is = unfold compile in nth_value cs q.p x.on (record { x = 0; y = 0; z = 0 }) x.is_on

-- ---- the options of the text are the rows as the original builds them
module _ (l : Call) (ok : refusal l ≡ 0) (some : 0 < length (compile (tray_of l)).cells) where
  abbrev compiled : Compiled
  compiled = compile (tray_of l)

  placed : (r : ℕ) → r < length (rows_of compiled) → Memᴰ (get_or (rows_of compiled) r nowhere) compiled.placements
  unfolding rows_of
  placed r h = (keep_at _ compiled.placements (get_or_mem nowhere (rows_of compiled) r h)).0

  pub rows_built : BuiltOrder (compile (tray_of l)) (dlx1_text (compile (tray_of l)))
  rows_built =
      record {
        as_many = ap length (tray_options compiled some) ∙ length-map (rows_of compiled) option;
        turned = λ r h. (built_is l ok (get_or (rows_of compiled) r nowhere) (placed r h)).0;
        option = λ r h.
            ap (λ (os : List (List (List ℕ))). get_or os r []) (tray_options compiled some) ∙ get_or_map nowhere [] option (rows_of compiled) r h
            ∙ ap (λ (ns : List ℕ). kind_item (get_or (rows_of compiled) r nowhere).kind ∷ map cell_item ns) (built_is l ok (get_or (rows_of compiled) r nowhere) (placed r h)).1;
      }
    where
      option : Placement → List (List ℕ)
      option q = kind_item q.kind ∷ map cell_item (built_cells (boxed compiled) q)

pub built_order : (l : TextCall) → text_refusal l ≡ 0 → BuiltOrder (compile (text_tray l)) (text_of l)
unfolding text_of text_tray
built_order l ok = rows_built (as_listing l) (listing_accepted l ok) (nonempty_length (compile (text_tray l)).cells (some_cell l ok))
