-- A tray's system from its parts: its cells and their numbers, its rows, its kinds and pieces, and the images under its board's maps are those that the
-- definitions give, since an accepted tray is one of a call that is not refused; and the stripped tray's cells where they lie in the lent box. Assumes
-- nothing.
use Prim.Native.Nat.{ℕ, zero, suc, ◌+◌, ◌*◌, ◌-◌, ◌≤◌, ◌<◌}
use mathlib.Core.Bool.{Bool, false}
use mathlib.Core.List.Memᴰ
use mathlib.Core.List.{List, [], ◌∷◌, ◌++◌, map, map-append, Memᴰ, map-map}
use mathlib.Core.Path.{◌≡◌, refl, sym, ap, ap₂, ◌∙◌, subst, subst₂}
use native.Mathlib.Omega.{arith}
use borrow.Author.Tests.{le-ltb}
use lib.Dec.{T, eqb, ltb, ltb→lt, lt→ltb}
use lib.ListN.{length, take, drop, length-map}
use lib.Seq.{take_at, drop_at, length-take-le}
use Rattle.lists.specs.Lists.{all, before, from, below, keep}
use Rattle.lists.proofs.ListLaws.{all_at, all_of, keep_length, map_same, drop_later}
use Rattle.lists.proofs.RangeLaws.{take_from, below_at, length_from, length_below, from_append}
use Rattle.definitions.specs.Grid.{Grid, Sides, Cell, set_down, volume, box, same_grid}
use Rattle.definitions.specs.Stripping.{strip, Frame, FitsIn, frame_of}
use Rattle.definitions.specs.Framing.{unframed}
use Rattle.definitions.specs.Answers.{lent_cells}
use Rattle.definitions.specs.Packing.{limits}
use Rattle.definitions.specs.Orders.{sizes}
use Rattle.definitions.specs.Maps.{Map, map_of, maps, turns, mirrorings, transform, permutations, parity, map_grid}
use Rattle.definitions.specs.Scan.{axes, scan, scan_number}
use Rattle.definitions.specs.Kinds.{Tray, sorted, kinds_of}
use Rattle.definitions.specs.Placements.{Placement, Compiled, compile}
use Rattle.definitions.specs.Kept.{symmetries, cell_after}
use Rattle.definitions.specs.Refusals.{Call, Row, lent_of, strip_tray, tray_of, sides_of, grid_of, is_ported, is_knuth, placement_count, first_that_applies, refusal}
use Rattle.definitions.specs.declared.Record.{Record}
use Rattle.definitions.specs.declared.SolverKind.TheVariants.{Fast}
use Rattle.theorems.proofs.StrippingLaws.{strip_fits}
use Rattle.theorems.proofs.GeometryLaws.{W}
use Rattle.shape.specs.Coords.{as_cell}
use Rattle.shape.specs.Places.{cell_at}
use Rattle.shape.proofs.PlaceLaws.{cell_in_box, cell_at_place, place_lt, place_of_cell}
use Rattle.shape.proofs.StrippingLaws.{part_in_box}
use Rattle.shape.proofs.GridLaws.{box_places}
use Rattle.placements.specs.declared.Pieces.{Pieces}
use Rattle.placements.specs.Pieces.{records_of, framed_in, lent_in, tray_in}
use Rattle.placements.specs.Stages.{lent_rows, grid_rows, config_rows, slice_rows, count_rows_by, count_rows}
use Rattle.placements.specs.Counting.{OnBoard, Accepted9, Counted}
use Rattle.placements.specs.declared.counted.Turnings.{Turnings}
use Rattle.placements.specs.declared.counting.Counts.{Counts}
use Rattle.placements.specs.declared.stripping.StrippedRecords.{StrippedRecords}
use Rattle.placements.specs.Stripping.{lent_place, StripsTray}
use Rattle.placements.proofs.FittingLaws.{scan_number_place}
use Rattle.theorems.proofs.RefusalLaws.{first_passes}
use Rattle.theorems.proofs.FewLaws.{few_cells, few_kinds}
use Rattle.placements.proofs.CountingLaws.{cells_many, counts_stripped}
use Rattle.placements.proofs.StageLaws.{refusal_stages}
use Rattle.rows.specs.Rows.{rows_in, spread, RowsFit, Appended}
use Rattle.rows.specs.Boards.{Numbered, Pictured, board_images}
use Rattle.rows.specs.declared.Dims.{Dims}
use Rattle.rows.specs.declared.chart.Kind.{Kind}
use Rattle.rows.specs.declared.chart.Owned.{Owned}
use Rattle.rows.specs.Ranges.{Ranged}
use Rattle.rows.specs.Built.{BuiltLent}
use Rattle.rows.specs.Systems.{KindsIn, owned, owned_in, images_in, cell_images, system_over, system_of}
use Rattle.rows.proofs.SystemLaws.{spread_placements}
use Rattle.rows.proofs.RowLaws.{append_first}

-- ---- a call that lends an accepted tray
-- a call is accepted where its rows 2 to 9, 10 and 11, 12 and 13, and 14 and 15 let it pass
pub accepted_call : (l : Call) → first_that_applies (lent_rows l.pieces l.board l.bytes) ≡ 0 → first_that_applies (config_rows l.config) ≡ 0
    → first_that_applies (slice_rows l.config (length l.work) (length l.links)) ≡ 0
    → first_that_applies (count_rows (compile (tray_in l.pieces l.board l.bytes)) l.config) ≡ 0 → refusal l ≡ 0
accepted_call l a b c d =
    refusal_stages l ∙ ap first_that_applies nested ∙ first_passes lent (chosen ++ (slices ++ counts)) lent_numbered a
    ∙ first_passes chosen (slices ++ counts) config_numbered b ∙ first_passes slices counts slices_numbered c ∙ d
  where
    lent : List Row
    lent = lent_rows l.pieces l.board l.bytes

    chosen : List Row
    chosen = config_rows l.config

    slices : List Row
    slices = slice_rows l.config (length l.work) (length l.links)

    counts : List Row
    counts = count_rows (compile (tray_in l.pieces l.board l.bytes)) l.config

    nested : lent ++ chosen ++ slices ++ counts ≡ lent ++ (chosen ++ (slices ++ counts))
    nested = unfold lent_rows grid_rows config_rows slice_rows in refl

    lent_numbered : T (all (λ r. ltb 0 r.number) (lent_rows l.pieces l.board l.bytes))
    lent_numbered = unfold lent_rows grid_rows in tt

    config_numbered : T (all (λ r. ltb 0 r.number) (config_rows l.config))
    config_numbered = unfold config_rows in tt

    slices_numbered : T (all (λ r. ltb 0 r.number) (slice_rows l.config (length l.work) (length l.links)))
    slices_numbered = unfold slice_rows in tt

module _ (t : Pieces) (board : Record) (bytes work : List ℕ) where
  -- the call for all packings by the engine Fast
  abbrev pub fast_call : Call
  fast_call =
      record {
        pieces = records_of t;
        board = board;
        bytes = bytes;
        config = record { identify_transformed_answers = false; identify_mirrored_answers = false; solver = Fast };
        skip = 0;
        answers = [];
        work = work;
        links = [];
      }

  pub fast_accepted : Accepted9 t board bytes → placement_count (compile (tray_in (records_of t) board bytes)) ≤ 1024 → 8192 ≤ length work → refusal fast_call ≡ 0
  unfolding config_rows slice_rows count_rows_by count_rows is_ported is_knuth
  fast_accepted ok few long = accepted_call fast_call ok refl (rw (le-ltb (length work) 8192 long)) (rw (le-ltb 1024 (placement_count (compile (tray_in (records_of t) board bytes))) few))

-- ---- the scan numbers of a board's box
take_map : (f : ℕ → ℕ) (v : ℕ) (xs : List ℕ) → take v (map f xs) ≡ map f (take v xs)
take_map f zero xs = refl
take_map f (suc v) [] = refl
take_map f (suc v) (x ∷ xs) = ap (λ (l : List ℕ). f x ∷ l) (take_map f v xs)

pub places_below : (order : List ℕ) (g : Grid) (places : List ℕ) (n size : ℕ) → OnBoard order g places n → volume g.sides ≤ size → T (all (λ i. ltb i size) (take n places))
places_below order g places n size on room =
    all_of (λ i. ltb i size) (take n places)
    (λ i m. let h = ltb→lt i (volume g.sides) (all_at (λ (j : ℕ). ltb j (volume g.sides)) (take n places) on.in_box m) in lt→ltb i size (omega arith))

-- numbers that say of each place how many of some places stand before it are the scan numbers of the cells at these places
pub numbers_are : (s : Sides) (us : List Cell) (ps scans : List ℕ) (size : ℕ) → map (cell_at s) ps ≡ us → volume s ≤ size → scans ≡ map (λ i. before (eqb i) ps) (below size)
    → take (volume s) scans ≡ map (scan_number us) (box s)
numbers_are s us ps scans size is room e =
    ap (take v) e ∙ take_map number v (below size) ∙ ap (map number) (take_from 0 v size room)
    ∙ map_same number (λ i. scan_number us (cell_at s i)) (below v) (λ i m. same i (below_at v m))
    ∙ sym (map-map (scan_number us) (cell_at s) (below v)) ∙ ap (map (scan_number us)) (sym (box_places s))
  where
    v : ℕ
    v = volume s

    number : ℕ → ℕ
    number i = before (eqb i) ps

    same : (i : ℕ) → i < volume s → before (eqb i) ps ≡ scan_number us (cell_at s i)
    same i h =
        ap (λ (j : ℕ). before (eqb j) ps) (sym (place_of_cell s i)) ∙ sym (scan_number_place s ps (cell_at s i) (cell_in_box s i h))
        ∙ ap (λ (vs : List Cell). scan_number vs (cell_at s i)) is

pub numbered_board : (order : List ℕ) (g : Grid) (places scans : List ℕ) (n size : ℕ) → OnBoard order g places n → volume g.sides ≤ size
    → scans ≡ map (λ i. before (eqb i) (take n places)) (below size) → Numbered order g scans
numbered_board order g places scans n size on room e =
    record {
      is_order = on.is_order;
      few = (let m = cells_many order g places n on in let f = on.few in omega arith);
      each = numbers_are g.sides (scan order g) (take n places) scans size on.cells room e;
    }

-- ---- the images under turns, and behind them those under mirrorings
pub images_both : (old mid new : List ℕ) (a b size : ℕ) (fs gs : List (List ℕ)) → Pictured old 0 mid a size fs → Pictured mid a new b size gs
    → (images_in new size 0 a ≡ fs) × (images_in new size a (b - a) ≡ gs)
unfolding images_in
images_both old mid new a b size fs gs p q = (
  sym (take_at (map at (from 0 a)) (map at (from a (b - a))) a long) ∙ ap (take a) joined ∙ take_at fs gs a fs_long,
  sym (drop_at (map at (from 0 a)) (map at (from a (b - a))) a long) ∙ ap (drop a) joined ∙ drop_at fs gs a fs_long,
)
  where
    at : ℕ → List ℕ
    at m = take size (drop (128 * m) new)

    long : length (map at (from 0 a)) ≡ a
    long = length-map (from 0 a) at ∙ length_below a

    fs_long : length fs ≡ a
    fs_long = let e = p.count in omega arith

    joined : map at (from 0 a) ++ map at (from a (b - a)) ≡ fs ++ gs
    joined =
        let z : 0 + a ≡ a = omega arith in
        let s : a + (b - a) ≡ b = let e = q.count in omega arith in
        sym (map-append at (from 0 a) (from a (b - a)))
        ∙ ap (map at) (ap (λ (k : ℕ). from 0 a ++ from k (b - a)) (sym z) ∙ from_append 0 a (b - a) ∙ ap (from 0) s)
        ∙ q.images ∙ ap (λ (l : List (List ℕ)). l ++ gs) p.images

-- there are no more images than maps
pub images_few : (old new order : List ℕ) (g : Grid) (n a size start k : ℕ) → Pictured old n new a size (map (board_images order g) (symmetries g (map map_of (from start k)))) → a ≤ n + k
unfolding symmetries
images_few old new order g n a size start k p =
    let ms : List Map = map map_of (from start k) in
    let keeps : Map → Bool = λ m. same_grid (map_grid m g) g in
    let b = p.count in
    let d = length-map (keep keeps ms) (board_images order g) in
    let e = keep_length keeps ms in
    let f = length-map (from start k) map_of in
    let h = length_from start k in
    omega arith

-- the maps by their numbers
pub turns_numbered : map map_of (from 0 24) ≡ turns
unfolding map_of maps turns mirrorings transform permutations parity
turns_numbered = refl

pub mirrorings_numbered : map map_of (from 24 24) ≡ mirrorings
unfolding map_of maps turns mirrorings transform permutations parity
mirrorings_numbered = refl

module _ (t : Tray) (order : List ℕ) (g : Grid) (is : g ≡ t.board) (is-order : axes t.board.sides ≡ order) where
  images_are : (m : Map) → board_images order g m ≡ cell_images (compile t) m
  unfolding board_images cell_images cell_after compile
  images_are m = ap₂ (λ (o : List ℕ) (h : Grid). board_images o h m) (sym is-order) is

  pub all_images : (turnings : List ℕ) (ms : List Map) → map map_of turnings ≡ ms
      → map (board_images order g) (symmetries g (map map_of turnings)) ≡ map (cell_images (compile t)) (symmetries (compile t).board ms)
  unfolding compile
  all_images turnings ms e =
      map_same (board_images order g) (cell_images (compile t)) (symmetries g (map map_of turnings)) (λ m k. images_are m)
      ∙ ap₂ (λ (h : Grid) (ns : List Map). map (cell_images (compile t)) (symmetries h ns)) is e

-- ---- the rows of a tray
-- the placements of an accepted tray fit into rows
pub rows_fit : (t : Pieces) (board : Record) (bytes work : List ℕ) → Accepted9 t board bytes → placement_count (compile (tray_in (records_of t) board bytes)) ≤ 1024 → 8192 ≤ length work
    → RowsFit (compile (tray_in (records_of t) board bytes))
unfolding lent_of tray_of
rows_fit t board bytes work ok few long = record { spreads = spread_placements call passes; in_range = all_of (λ q. ltb (128 * q.kind + q.p) 2048) C.placements (λ q m. lt→ltb (128 * q.kind + q.p) 2048 (few_ranges q m)) }
  where
    call : Call
    call = fast_call t board bytes work

    C : Compiled
    C = compile (tray_in (records_of t) board bytes)

    passes : refusal (fast_call t board bytes work) ≡ 0
    passes = fast_accepted t board bytes work ok few long

    few_ranges : (q : Placement) → Memᴰ q (compile (tray_in (records_of t) board bytes)).placements → 128 * q.kind + q.p < 2048
    few_ranges q m =
        let a = (W (fast_call t board bytes work) passes).on_board q m q.p ((W (fast_call t board bytes work) passes).covers_p q m) in
        let b = few_cells (fast_call t board bytes work) passes in
        let d = (W (fast_call t board bytes work) passes).of_kinds q m in
        let e = few_kinds (fast_call t board bytes work) passes in
        omega arith

-- (the frame decides no placement)
pub rows_unframed : (t : Tray) {s : Tray} → s ≡ unframed t → RowsFit (compile t) → RowsFit (compile s)
unfolding unframed compile kinds_of sorted
rows_unframed t {s} e h = subst (λ (u : Tray). RowsFit (compile u)) (sym e) (record { spreads = h.spreads; in_range = h.in_range })

module _ (c : Compiled) (fit : RowsFit c) (few : placement_count c ≤ 1024) (work new : List ℕ) (r : ℕ) (rows : Appended work 0 new r (map spread c.placements)) where
  -- the rows written: as many as placements, and each of one of 2,048 ranges
  pub rows_are : rows_in new r ≡ c.placements
  rows_are = append_first rows ∙ fit.spreads

  pub rows_few : r ≤ 1024
  unfolding placement_count
  rows_few = let a = rows.count in let b = length-map c.placements spread in omega arith

  pub rows_in_range : T (all (λ q. ltb (128 * q.kind + q.p) 2048) (rows_in new r))
  rows_in_range = subst (λ (qs : List Placement). T (all (λ q. ltb (128 * q.kind + q.p) 2048) qs)) (sym rows_are) fit.in_range

  pub rows_behind : drop 8192 new ≡ drop 8192 work
  rows_behind = let k = rows_few in drop_later (8 * r) 8192 new work (omega arith) rows.behind

-- ---- the parts by the board's geometry
module _ (rs : List Record) (board : Record) (bytes order : List ℕ) (g : Grid) (is : g ≡ grid_of bytes board) (places : List ℕ) (cells : ℕ)
    (on : OnBoard order (grid_of bytes board) places cells) where
  cells_are : cells ≡ length (compile (lent_in rs board bytes)).cells
  unfolding compile
  cells_are = sym (cells_many order (grid_of bytes board) places cells on) ∙ ap (λ (o : List ℕ). length (scan o (grid_of bytes board))) (sym on.is_order)

  pub built_lent : (work after starts old mid images : List ℕ) (r a b : ℕ) → rows_in after r ≡ (compile (lent_in rs board bytes)).placements
      → Pictured old 0 mid a cells (map (board_images order g) (symmetries g (map map_of (from 0 24))))
      → Pictured mid a images b cells (map (board_images order g) (symmetries g (map map_of (from 24 24))))
      → Ranged after starts r → drop 8192 after ≡ drop 8192 work
      → BuiltLent (compile (lent_in rs board bytes)) cells (record { rows = r; turns = a; mirrorings = b - a }) work after starts images
  built_lent work after starts old mid images r a b rows p q ranged behind =
      let both = images_both old mid images a b cells _ _ p q in
      let t = lent_in rs board bytes in
      record {
        size = cells_are;
        rows = rows;
        turned = both.0 ∙ all_images t order g is on.is_order (from 0 24) turns turns_numbered;
        mirrored = both.1 ∙ all_images t order g is on.is_order (from 24 24) mirrorings mirrorings_numbered;
        few = (let e = images_few old mid order g 0 a cells 0 24 p in let f = images_few mid images order g a b cells 24 24 q in omega arith);
        ranged = ranged;
        behind = behind;
      }

-- ---- the system of a tray in a frame, which decides nothing of it but the scan numbers: those of the lent box
pub system_framed : (rs : List Record) (board : Record) (bytes : List ℕ) (f : Frame) (d : Dims) (work after starts images : List ℕ) (kinds : List Kind) (pieces : List Owned) (scans : List ℕ)
    → BuiltLent (compile (lent_in rs board bytes)) d.size (record { rows = d.rows; turns = d.turns; mirrorings = d.mirrorings }) work after starts images
    → KindsIn kinds d.kinds (compile (lent_in rs board bytes)) → owned_in pieces d.pieces ≡ owned (lent_in rs board bytes)
    → take d.places scans ≡ map (scan_number (lent_cells (compile (framed_in rs board bytes f)))) (box (compile (framed_in rs board bytes f)).frame.lent)
    → system_over d after images scans kinds pieces ≡ system_of (framed_in rs board bytes f)
unfolding system_over system_of compile kinds_of sorted limits sizes owned cell_images cell_after
system_framed rs board bytes f d work after starts images kinds pieces scans b ks own new =
    (λ i. record {
      size = b.size i;
      rows = b.rows i;
      copies = ks.copies i;
      partners = ks.partners i;
      sizes = ks.sizes_are i;
      turned = b.turned i;
      mirrored = b.mirrored i;
      scans = new i;
      pieces = own i;
    })

-- the places put back are those of the board's cells where they lie in the lent box
pub put_back_cells : (s : Sides) (f : Frame) (ps : List ℕ) (cells : List Cell) → FitsIn f s → T (all (λ i. ltb i (volume s)) ps) → map (cell_at s) ps ≡ cells
    → map (cell_at f.lent) (map (lent_place s f) ps) ≡ map (set_down f.at) cells
unfolding lent_place
put_back_cells s f ps cells fits below is =
    map-map (cell_at f.lent) (lent_place s f) ps
    ∙ map_same (λ i. cell_at f.lent (lent_place s f i)) (λ i. set_down f.at (cell_at s i)) ps
    (λ i m. cell_at_place f.lent (set_down f.at (cell_at s i))
    (part_in_box f.lent s f.at (cell_at s i) fits (cell_in_box s i (ltb→lt i (volume s) (all_at (λ (j : ℕ). ltb j (volume s)) ps below m)))))
    ∙ sym (map-map (set_down f.at) (cell_at s) ps) ∙ ap (map (set_down f.at)) is

-- and they lie in the lent box
pub put_back_below : (s : Sides) (f : Frame) (ps : List ℕ) (size : ℕ) → FitsIn f s → T (all (λ i. ltb i (volume s)) ps) → volume f.lent ≤ size → T (all (λ i. ltb i size) (map (lent_place s f) ps))
unfolding lent_place
put_back_below s f ps size fits below room =
    all_of (λ i. ltb i size) (map (lent_place s f) ps)
    (λ k m. let r = Memᴰ.of_map (lent_place s f) ps m in
    let u = cell_at s r.0 in
    let b = part_in_box f.lent s f.at u fits (cell_in_box s r.0 (ltb→lt r.0 (volume s) (all_at (λ (j : ℕ). ltb j (volume s)) ps below r.1))) in
    lt→ltb k size (omega (arith, place_lt f.lent (set_down f.at u) b, r.2)))

-- ---- the board of a framed tray where it lies in the lent box
module _ (rs : List Record) (board : Record) (bytes : List ℕ) (f : Frame) (s : Sides) (is-part : s ≡ sides_of board) (fits : FitsIn f s)
    (places : List ℕ) (n : ℕ) (on : OnBoard (axes (sides_of board)) (grid_of bytes board) places n) where
  pub part_below : T (all (λ i. ltb i (volume s)) (take n places))
  unfolding grid_of
  part_below = subst (λ (z : Sides). T (all (λ i. ltb i (volume z)) (take n places))) (sym is-part) on.in_box

  cells_at : map (cell_at s) (take n places) ≡ (compile (framed_in rs board bytes f)).cells
  unfolding compile grid_of
  cells_at = ap (λ (z : Sides). map (cell_at z) (take n places)) is-part ∙ on.cells

  module _ (new : List ℕ) (put : new ≡ map (lent_place s f) (take n places)) (size : ℕ) (room : volume f.lent ≤ size) where
    pub new_few : length new ≤ 128
    new_few = let e = ap length put ∙ length-map (take n places) (lent_place s f) ∙ length-take-le n places on.within in let h = on.few in omega arith

    pub new_below : T (all (λ i. ltb i size) new)
    new_below = subst (λ (xs : List ℕ). T (all (λ i. ltb i size) xs)) (sym put) (put_back_below s f (take n places) size fits part_below room)

    pub new_scans : (scans : List ℕ) → scans ≡ map (λ i. before (eqb i) new) (below size)
        → take (volume f.lent) scans ≡ map (scan_number (lent_cells (compile (framed_in rs board bytes f)))) (box (compile (framed_in rs board bytes f)).frame.lent)
    unfolding compile
    new_scans scans e =
        numbers_are f.lent (map (set_down f.at) (compile (framed_in rs board bytes f)).cells) new scans size
        (ap (map (cell_at f.lent)) put ∙ put_back_cells s f (take n places) (compile (framed_in rs board bytes f)).cells fits part_below cells_at) room e

-- ---- a tray whose grids are stripped
module _ (t : Pieces) (board : Record) (bytes : List ℕ) {r : StrippedRecords} {cells : List ℕ} (stripped : StripsTray t board bytes r cells) where
  part_is : grid_of cells r.board ≡ strip (grid_of bytes board)
  unfolding unframed strip_tray
  part_is = ap (λ (x : Tray). x.board) stripped.tray

  -- its board lies in the lent box
  pub part_fits : (lent : Sides) → lent ≡ sides_of board → FitsIn (record { lent = lent; at = as_cell r.at }) (sides_of r.board)
  unfolding strip_tray frame_of grid_of
  part_fits lent e =
      subst₂ FitsIn (λ i. record { lent = sym e i; at = sym stripped.at i }) (ap (λ (g : Grid). g.sides) (sym part_is)) (strip_fits (grid_of bytes board))

  -- and its placements fit into rows
  pub rows_stripped : {places first : List ℕ} {turnings : List Turnings} {counts : Counts} → Counted r.pieces r.board cells places first turnings counts → (work : List ℕ)
      → Accepted9 t board bytes → counts.placements ≤ 1024 → 8192 ≤ length work → RowsFit (compile (lent_in (records_of r.pieces) r.board cells))
  rows_stripped counted work ok few long =
      rows_unframed (tray_in (records_of t) board bytes) stripped.tray
      (rows_fit t board bytes work ok (let e = (counts_stripped t board bytes stripped counted).placements in omega arith) long)
