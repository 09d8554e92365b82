-- Counting: how many placements a kind has, how many placements and links a tray has, and what rows 2 to 9 tell of a tray that they let pass.
-- Assumes nothing.
use Prim.Native.Nat.{ℕ, suc, ◌+◌, ◌*◌, ◌≤◌, ◌<◌}
use mathlib.Core.Bool.{Bool, true, false, cond}
use mathlib.Core.List.{List, [], ◌∷◌, ◌++◌, map, Memᴰ, map-map}
use mathlib.Core.Path.{◌≡◌, refl, sym, ap, ap₂, ◌∙◌, subst}
use native.Mathlib.Nat.{mul-zero, mul-one, mul-le-mul}
use native.Mathlib.Numerals.{add-one}
use native.Mathlib.Omega.{arith}
use borrow.Author.Count.{below_more}
use borrow.Author.Tests.{leb-true}
use lib.Dec.{T, ltb, leb, eqb, ltb→lt, lt→ltb, eqb→eq}
use lib.ListN.{length, get_or, take, drop, set, length-replicate, length-map, length-drop, drop_of_length-le}
use lib.Seq.{take-length, length-take-le, drop-cons, get_or-take, take-take, get_or-set_same, get_or-set_other}
use Rattle.lists.specs.Lists.{all, how_many, keep, sum, joined, numbered, numbered_from}
use Rattle.lists.proofs.TestLaws.{and_left, and_right, holds, is_true, is_false}
use Rattle.lists.proofs.ListLaws.{all_at, all_of, keep_at, map_same}
use Rattle.lists.proofs.CountLaws.{total_numbered, total_times, total_each, total_keep, total_append, total, total_one, how_many_length, sum_map}
use Rattle.lists.proofs.NthLaws.{Nth, nth_mem, nth_get_or, nth_at}
use Rattle.definitions.specs.Grid.{Sides, Cell, Grid, volume, filled_cells}
use Rattle.definitions.specs.Scan.{axes, scan, scan_number}
use Rattle.definitions.specs.Kinds.{Tray, Form, Kind, kind_named, kinds_of, variants, smallest, sorted, forms, copies_of}
use Rattle.definitions.specs.Placements.{origin, lies, fits, Placement, placements_at, placements_of, Compiled, compile}
use Rattle.definitions.specs.Packing.{limits}
use Rattle.definitions.specs.Framing.{unframed}
use Rattle.definitions.specs.Refusals.{Row, grid_of, sides_of, sides_fit, cells_lie, board_cell_count, placement_count, link_count, rows_of, first_that_applies}
use Rattle.definitions.specs.Outcomes.{number_of}
use Rattle.definitions.specs.declared.Record.{Record}
use Rattle.definitions.specs.declared.Config.{Config}
use Rattle.definitions.specs.declared.Refusal.{Refusal}
use Rattle.definitions.specs.declared.Refusal.TheVariants.{TooManyPieces, SideOutOfRange, CellsOutsideBytes, CellNotZeroOrOne, PieceWithoutFilledCell, TooManyCopies, TooManyBoardCells}
use Rattle.definitions.specs.declared.Refusal.TheVariants.{MirroredWithoutTurned, EngineNotPorted, WorkTooShort, LinksTooShort, TooManyPlacements, TooManyLinks, NoText, OutputTooShort, CellCountOutOfRange}
use Rattle.theorems.proofs.MapLaws.{turn_fits, filled_at, filled_length}
use Rattle.theorems.proofs.GroupLaws.{filled_bytes}
use Rattle.theorems.proofs.ShapeLaws.{scan_length, smallest_at}
use Rattle.theorems.proofs.RefusalLaws.{PassedLent, first_decides, first_passes, none_applies, passed_lent, test_of}
use Rattle.theorems.proofs.PartnerLaws.{variants_turned}
use Rattle.shape.specs.declared.Coord.{Coord}
use Rattle.shape.specs.Coords.{as_sides}
use Rattle.shape.specs.Grids.{Whole}
use Rattle.shape.specs.Places.{cell_at}
use Rattle.shape.proofs.PlaceLaws.{place_lt, place_of_cell, volume_small}
use Rattle.shape.proofs.VariantLaws.{variant_filled, scan_from}
use Rattle.placements.specs.declared.Pieces.{Pieces}
use Rattle.placements.specs.Pieces.{no_record, lent_records, records_of, lent_in, tray_in}
use Rattle.placements.specs.Stages.{lent_rows, grid_rows, config_rows, slice_rows, count_rows_by, count_rows}
use Rattle.placements.specs.Merging.{Sound, Ordered, grid_at, shape_at, form_at, forms_of, AreKinds, copies_at}
use Rattle.placements.specs.Counting.{fits_in, placements_in, OnBoard, Accepted9, CountsOf, no_turnings, AreVariants, Counted}
use Rattle.placements.specs.Stripping.{StripsTray}
use Rattle.placements.specs.declared.counted.Turnings.{Turnings}
use Rattle.placements.specs.declared.counting.Counts.{Counts}
use Rattle.placements.specs.declared.stripping.StrippedRecords.{StrippedRecords}
use Rattle.placements.proofs.RefusalLaws.{cells_end, record_passes}

-- ---- sums over joined and numbered lists
module _ {A B : Type 0} (f : B → ℕ) (g : A → ℕ) where
  total_joined : (F : ℕ → A → List B) (i : ℕ) (xs : List A) → ((n : ℕ) (x : A) → Nth xs n x → total f (F (n + i) x) ≡ g x) → total f (joined (numbered_from i xs F)) ≡ total g xs
  total_joined F i [] h = refl
  total_joined F i (x ∷ xs) h =
      total_append f (F i x) (joined (numbered_from (suc i) xs F))
      ∙ ap₂ (λ (a b : ℕ). a + b) (ap (λ (k : ℕ). total f (F k x)) (omega arith) ∙ h 0 x refl)
      (total_joined F (suc i) xs (λ n z m. ap (λ (k : ℕ). total f (F k z)) (omega arith) ∙ h (suc n) z m))

-- ---- the placements of a kind
-- a sum over a kind's placements, where each counts the same
module _ (order : List ℕ) (board : Grid) (k : ℕ) (d : Kind) (f : Placement → ℕ) (c : ℕ) where
  abbrev cs : List Cell
  cs = scan order board

  abbrev vs : List (List Cell)
  vs = map (scan order) (variants d.shape)

  abbrev at : ℕ → Cell → ℕ → List Cell → Placement
  at n v i us = record { kind = k; p = n; j = i; cells = map (λ u. scan_number cs (lies v (origin us) u)) us }

  pub total_placements : ((n : ℕ) (v : Cell) (i : ℕ) (us : List Cell) → Memᴰ us vs → f (at n v i us) ≡ c)
      → total f (placements_of order cs k d) ≡ fits_in order board (variants d.shape) * c
  unfolding placements_of placements_at fits_in
  total_placements h =
      total_joined f (λ v. how_many (fits cs v) vs * c) (placements_at cs k vs) 0 cs (λ n v m. here (n + 0) v)
      ∙ total_times (λ v. how_many (fits cs v) vs) c cs ∙ ap (λ (n : ℕ). n * c) (sym (sum_map (λ v. how_many (fits cs v) vs) cs))
    where
      here : (n : ℕ) (v : Cell) → total f (placements_at cs k vs n v) ≡ how_many (fits cs v) vs * c
      here n v =
          total_numbered f (λ us. c) (at n v) 0 (keep (fits cs v) vs) (λ i us m. h n v i us (keep_at (fits cs v) vs m).0)
          ∙ total_each (λ us. c) c (keep (fits cs v) vs) (λ us m. refl) ∙ ap (λ (n : ℕ). n * c) (sym (how_many_length (fits cs v) vs))

-- they are as many as the fits of its variants
pub count_placements : (order : List ℕ) (board : Grid) (k : ℕ) (d : Kind) → length (placements_of order (scan order board) k d) ≡ fits_in order board (variants d.shape)
count_placements order board k d =
    sym (total_one (placements_of order (scan order board) k d)) ∙ total_placements order board k d (λ q. 1) 1 (λ n v i us m. refl) ∙ mul-one (fits_in order board (variants d.shape))

-- ---- a kind's smallest turned grid counts as any other
pub variants_smallest : (g : Grid) → length g.cells ≡ volume g.sides → variants (smallest g) ≡ variants g
variants_smallest g e = let r = smallest_at g in ap variants (sym r.2) ∙ variants_turned r.0 r.1 g e

pub filled_smallest : (g : Grid) → length (filled_cells (smallest g)) ≡ length (filled_cells g)
filled_smallest g = let r = smallest_at g in ap (λ (h : Grid). length (filled_cells h)) (sym r.2) ∙ filled_length r.0 (turn_fits r.0 r.1) g

-- the cells of a kind's placements are as many as its shape's filled cells
scanned_size : (s : Sides) (g : Grid) (us : List Cell) → Memᴰ us (map (scan (axes s)) (variants g)) → length us ≡ length (filled_cells g)
scanned_size s g us m =
    let r = mathlib.Core.List.Memᴰ.of_map (scan (axes s)) (variants g) m in
    ap length (sym r.2) ∙ scan_length s r.0 ∙ variant_filled g r.0 r.1

-- ---- the counts of a tray, kind by kind
module _ (t : Tray) where
  abbrev ord : List ℕ
  ord = axes t.board.sides

  abbrev bd : List Cell
  bd = scan ord t.board

  -- the placements of a kind by its shape, and the links of its rows
  abbrev pub placements_by : Grid → ℕ
  placements_by g = fits_in ord t.board (variants g)

  abbrev pub links_by : Form → ℕ
  links_by f = cond (ltb 0 (length (copies_of (sorted t) f))) (placements_by f.grid * suc (length (filled_cells f.grid))) 0

  abbrev made : Form → Kind
  made = kind_named (sorted t) (forms (sorted t))

  total_kinds : (f : Form → ℕ) (h : Kind → ℕ) → ((g : Form) → h (made g) ≡ f g) → total h (kinds_of t) ≡ sum (map f (forms (sorted t)))
  unfolding kinds_of
  total_kinds f h e = go (forms (sorted t))
    where
      go : (gs : List Form) → total h (map made gs) ≡ sum (map f gs)
      go [] = refl
      go (g ∷ gs) = ap₂ (λ (a b : ℕ). a + b) (e g) (go gs)

  pub placements_sum : placement_count (compile t) ≡ sum (map (λ f. placements_by f.grid) (forms (sorted t)))
  unfolding placement_count compile
  placements_sum =
      sym (total_one (joined (numbered (kinds_of t) (placements_of ord bd))))
      ∙ total_joined (λ q. 1) (λ d. placements_by d.shape) (placements_of ord bd) 0 (kinds_of t)
      (λ n d m. total_one (placements_of ord bd (n + 0) d) ∙ count_placements ord t.board (n + 0) d)
      ∙ total_kinds (λ f. placements_by f.grid) (λ d. placements_by d.shape) (λ g. refl)

  abbrev weight : Placement → ℕ
  weight q = cond (ltb 0 (get_or (map (λ d. length d.copies) (kinds_of t)) q.kind 0)) (suc (length q.cells)) 0

  abbrev links_of : Kind → ℕ
  links_of d = cond (ltb 0 (length d.copies)) (placements_by d.shape * suc (length (filled_cells d.shape))) 0

  links-of : (k : ℕ) (d : Kind) → Nth (kinds_of t) k d → total weight (placements_of ord bd k d) ≡ links_of d
  links-of k d m =
      total_placements ord t.board k d weight (cond (ltb 0 (length d.copies)) (suc (length (filled_cells d.shape))) 0)
      (λ n v i us h. ap₂ {C = ℕ} (λ (a b : ℕ). cond (ltb 0 a) (suc b) 0) (nth_get_or (λ (x : Kind). length x.copies) 0 (kinds_of t) k m)
      (length-map us _ ∙ scanned_size t.board.sides d.shape us h))
      ∙ go (ltb 0 (length d.copies))
    where
      go : (b : Bool) → placements_by d.shape * cond b (suc (length (filled_cells d.shape))) 0 ≡ cond b (placements_by d.shape * suc (length (filled_cells d.shape))) 0
      go true = refl
      go false = mul-zero (placements_by d.shape)

  kinds_length : length (kinds_of t) ≡ length (forms (sorted t))
  unfolding kinds_of
  kinds_length = length-map (forms (sorted t)) made

  pub links_sum : link_count (compile t) ≡ length (scan ord t.board) + length (forms (sorted t)) + sum (map links_by (forms (sorted t)))
  unfolding link_count rows_of limits compile
  links_sum = ap₂ (λ (a b : ℕ). length bd + a + b) kinds_length (rows ∙ total_kinds links_by links_of (λ g. refl))
    where
      all-of-them : List Placement
      all-of-them = joined (numbered (kinds_of t) (placements_of ord bd))

      p : Placement → Bool
      p q = ltb 0 (get_or (limits (compile t)) q.kind 0)

      rows : sum (map (λ q. suc (length q.cells)) (keep p all-of-them)) ≡ total links_of (kinds_of t)
      rows =
          sum_map (λ q. suc (length q.cells)) (keep p all-of-them) ∙ total_keep p (λ q. suc (length q.cells)) all-of-them
          ∙ total_joined weight links_of (placements_of ord bd) 0 (kinds_of t) (λ n d m. links-of (n + 0) d (subst (λ (k : ℕ). Nth (kinds_of t) k d) (omega arith) m))

-- ---- rows of the table of refusals
-- a refusal has a number from 1 on
pub refused_some : (why : Refusal) → number_of why ≡ 0 → ⊥
refused_some TooManyPieces e = omega arith
refused_some SideOutOfRange e = omega arith
refused_some CellsOutsideBytes e = omega arith
refused_some CellNotZeroOrOne e = omega arith
refused_some PieceWithoutFilledCell e = omega arith
refused_some TooManyCopies e = omega arith
refused_some TooManyBoardCells e = omega arith
refused_some MirroredWithoutTurned e = omega arith
refused_some EngineNotPorted e = omega arith
refused_some WorkTooShort e = omega arith
refused_some LinksTooShort e = omega arith
refused_some TooManyPlacements e = omega arith
refused_some TooManyLinks e = omega arith
refused_some NoText e = omega arith
refused_some OutputTooShort e = omega arith
refused_some CellCountOutOfRange e = omega arith

-- the table in its four parts: the first part of which a row applies decides, among the three that are told without counting, and then the counts
module _ (t : Pieces) (board : Record) (bytes : List ℕ) (config : Config) (work links : ℕ) where
  abbrev lent : List Row
  lent = lent_rows (records_of t) board bytes

  abbrev chosen : List Row
  chosen = config_rows config

  abbrev slices : List Row
  slices = slice_rows config work links

  abbrev early : List Row
  early = lent_rows (records_of t) board bytes ++ config_rows config ++ slice_rows config work links

  lent_numbered : T (all (λ r. ltb 0 r.number) lent)
  unfolding lent_rows grid_rows
  lent_numbered = tt

  config_numbered : T (all (λ r. ltb 0 r.number) chosen)
  unfolding config_rows
  config_numbered = tt

  early_numbered : T (all (λ r. ltb 0 r.number) early)
  unfolding lent_rows grid_rows config_rows slice_rows
  early_numbered = tt

  early_nested : early ≡ lent ++ (chosen ++ slices)
  unfolding lent_rows grid_rows config_rows slice_rows
  early_nested = refl

  pub lent_decides : (first_that_applies lent ≡ 0 → ⊥) → first_that_applies early ≡ first_that_applies lent
  lent_decides d = ap first_that_applies early_nested ∙ first_decides lent (chosen ++ slices) d

  past_lent : first_that_applies lent ≡ 0 → first_that_applies early ≡ first_that_applies (chosen ++ slices)
  past_lent e = ap first_that_applies early_nested ∙ first_passes lent (chosen ++ slices) lent_numbered e

  pub config_decides : first_that_applies lent ≡ 0 → (first_that_applies chosen ≡ 0 → ⊥) → first_that_applies early ≡ first_that_applies chosen
  config_decides e d = past_lent e ∙ first_decides chosen slices d

  pub slices_decide : first_that_applies lent ≡ 0 → first_that_applies chosen ≡ 0 → first_that_applies early ≡ first_that_applies slices
  slices_decide e f = past_lent e ∙ first_passes chosen slices config_numbered f

  pub early_decides : (counts : List Row) → (first_that_applies early ≡ 0 → ⊥) → first_that_applies (early ++ counts) ≡ first_that_applies early
  early_decides counts d = first_decides early counts d

  pub counts_decide : (counts : List Row) → first_that_applies early ≡ 0 → first_that_applies (early ++ counts) ≡ first_that_applies counts
  counts_decide counts e = first_passes early counts early_numbered e

-- the counts decide by their numbers
pub count-rows : {c : Compiled} {r : Counts} (config : Config) → CountsOf c r → count_rows_by r.placements r.links config ≡ count_rows c config
unfolding count_rows
count-rows config h = ap₂ (λ (a b : ℕ). count_rows_by a b config) h.placements h.links

-- ---- what rows 2 to 9 leave: their bounds, and so few records that the pieces have them all
pub record Lent (t : Pieces) (board : Record) (bytes : List ℕ) : Type 0 where
  pub few : t.count ≤ 16
  pub passed : PassedLent (records_of t) board bytes (lent_in (records_of t) board bytes)

few_records : (t : Pieces) → length (records_of t) ≤ 16 → t.count ≤ 16
unfolding records_of
few_records t = go (leb t.count 16) refl
  where
    go : (b : Bool) → leb t.count 16 ≡ b → length (lent_records b t) ≤ 16 → t.count ≤ 16
    go true e h = leb-true t.count 16 e
    go false e h = let k = length-replicate t.count no_record in omega arith

pub lent_passes : (t : Pieces) (board : Record) (bytes : List ℕ) → Accepted9 t board bytes → Lent t board bytes
unfolding lent_rows grid_rows
lent_passes t board bytes ok =
    let rs = records_of t in
    let none : (n : ℕ) → test_of (lent_rows rs board bytes) n ≡ false = none_applies (lent_rows rs board bytes) tt ok in
    let h = passed_lent rs board bytes (lent_in rs board bytes) (none 2) (none 3) (none 4) (none 5) (none 6) (none 8) (none 9) in
    record { few = few_records t h.few_pieces; passed = h }

-- ---- a tray's counts by a piece of each kind
-- the placements of piece i on a board, and the links of their rows
abbrev pub placements_at_piece : List ℕ → Grid → Pieces → List ℕ → ℕ → ℕ
placements_at_piece order g t bytes i = placements_in order g (grid_at t bytes i)

abbrev pub links_at_piece : List ℕ → Grid → Pieces → List ℕ → ℕ → ℕ
links_at_piece order g t bytes i = cond (ltb 0 (copies_at t bytes i)) (placements_at_piece order g t bytes i * (1 + how_many (eqb 1) (grid_at t bytes i).cells)) 0

module _ (t : Pieces) (board : Record) (bytes : List ℕ) (l : Lent t board bytes) where
  pub sound : Sound t bytes
  sound =
      record {
        few = l.few;
        sides = and_right (sides_fit board) (all sides_fit (records_of t)) l.passed.sides;
        lie = and_right (cells_lie bytes board) (all (cells_lie bytes) (records_of t)) l.passed.lie;
      }

  pub board_few : sum (grid_of bytes board).cells ≤ 128
  unfolding board_cell_count
  board_few = l.passed.few_cells

  pub board_fits : T (sides_fit board) × T (cells_lie bytes board)
  board_fits = (and_left (sides_fit board) (all sides_fit (records_of t)) l.passed.sides, and_left (cells_lie bytes board) (all (cells_lie bytes) (records_of t)) l.passed.lie)

  -- the grid of a lent record is whole
  pub grid_size : (r : Record) → T (cells_lie bytes r) → length (grid_of bytes r).cells ≡ volume (grid_of bytes r).sides
  unfolding grid_of
  grid_size r h = let k = cells_end bytes r h in length-take-le (volume (sides_of r)) (drop r.start bytes) (simp length-drop (omega arith))

  pub board_size : length (grid_of bytes board).cells ≡ volume (grid_of bytes board).sides
  board_size = grid_size board board_fits.1

  abbrev tray : Tray
  tray = lent_in (records_of t) board bytes

  abbrev order : List ℕ
  order = axes (grid_of bytes board).sides

  module _ (long : length t.records ≡ 16) where
    piece_size : (i : ℕ) → i < t.count → length (grid_at t bytes i).cells ≡ volume (grid_at t bytes i).sides
    unfolding grid_at
    piece_size i h = grid_size (get_or t.records i no_record) (record_passes t l.few long i h (cells_lie bytes) sound.lie)

    placements-at : (i : ℕ) → i < t.count → placements_by tray (shape_at t bytes i) ≡ placements_at_piece order (grid_of bytes board) t bytes i
    unfolding placements_in shape_at
    placements-at i h = ap (fits_in order (grid_of bytes board)) (variants_smallest (grid_at t bytes i) (piece_size i h))

    placements-by : (i : ℕ) → i < t.count → placements_by tray (form_at t bytes i).grid ≡ placements_at_piece order (grid_of bytes board) t bytes i
    unfolding form_at
    placements-by i h = placements-at i h

    links_at : (i : ℕ) → i < t.count → links_by tray (form_at t bytes i) ≡ links_at_piece order (grid_of bytes board) t bytes i
    unfolding copies_at sorted form_at shape_at
    links_at i h =
        ap₂ {C = ℕ} (λ (a b : ℕ). cond (ltb 0 (copies_at t bytes i)) (a * b) 0) (placements-at i h)
        (let e = filled_smallest (grid_at t bytes i) in let f = filled_bytes (grid_at t bytes i) (piece_size i h) in omega arith)

    module _ (first : List ℕ) (n : ℕ) (are : AreKinds t bytes first n) where
      sum_kinds : (f : Form → ℕ) (g : ℕ → ℕ) → ((i : ℕ) → i < t.count → f (form_at t bytes i) ≡ g i) → sum (map f (forms (sorted tray))) ≡ sum (map g (take n first))
      unfolding forms_of sorted
      sum_kinds f g e =
          ap (λ (fs : List Form). sum (map f fs)) (sym are.forms_are)
          ∙ ap sum (map-map f (form_at t bytes) (take n first) ∙ map_same (λ i. f (form_at t bytes i)) g (take n first)
          (λ i m. e i (ltb→lt i t.count (all_at (λ (j : ℕ). ltb j t.count) (take n first) are.ordered.pieces m))))

      pub placements_by_pieces : placement_count (compile (lent_in (records_of t) board bytes))
          ≡ sum (map (placements_at_piece (axes (grid_of bytes board).sides) (grid_of bytes board) t bytes) (take n first))
      placements_by_pieces = placements_sum tray ∙ sum_kinds (λ f. placements_by tray f.grid) (placements_at_piece order (grid_of bytes board) t bytes) placements-by

      pub links_by_pieces : n ≤ length first → link_count (compile (lent_in (records_of t) board bytes))
          ≡ length (scan (axes (grid_of bytes board).sides) (grid_of bytes board)) + n + sum (map (links_at_piece (axes (grid_of bytes board).sides) (grid_of bytes board) t bytes) (take n first))
      unfolding forms_of sorted
      links_by_pieces h =
          links_sum tray
          ∙ ap₂ (λ (a b : ℕ). length (scan order (grid_of bytes board)) + a + b)
          (ap length (sym are.forms_are) ∙ length-map (take n first) (form_at t bytes) ∙ length-take-le n first h)
          (sum_kinds (links_by tray) (links_at_piece order (grid_of bytes board) t bytes) links_at)

-- the kinds of a tray, given by a piece of each: their shapes are the pieces' smallest turned grids, and they are as many
module _ (t : Pieces) (board : Record) (bytes first : List ℕ) (n : ℕ) (are : AreKinds t bytes first n) where
  pub kinds_shapes : map (λ d. d.shape) (kinds_of (lent_in (records_of t) board bytes)) ≡ map (shape_at t bytes) (take n first)
  unfolding kinds_of sorted forms_of form_at
  kinds_shapes =
      map-map (λ (d : Kind). d.shape) (made (lent_in (records_of t) board bytes)) (forms (sorted (lent_in (records_of t) board bytes)))
      ∙ ap (map (λ (f : Form). f.grid)) (sym are.forms_are) ∙ map-map (λ (f : Form). f.grid) (form_at t bytes) (take n first)

  pub kinds_many : n ≤ length first → length (kinds_of (lent_in (records_of t) board bytes)) ≡ n
  kinds_many h =
      sym (length-map (kinds_of (lent_in (records_of t) board bytes)) (λ d. d.shape)) ∙ ap length kinds_shapes ∙ length-map (take n first) (shape_at t bytes) ∙ length-take-le n first h

-- the links of piece i as the code counts them
module _ (order : List ℕ) (g : Grid) (t : Pieces) (bytes : List ℕ) (i rows copies : ℕ) (r : rows ≡ placements_at_piece order g t bytes i) (m : copies ≡ copies_at t bytes i) where
  pub links_some : (f : ℕ) → f ≡ how_many (eqb 1) (grid_at t bytes i).cells → 0 < copies → links_at_piece order g t bytes i ≡ rows * (1 + f)
  links_some f e h =
      ap {B = ℕ} (λ (b : Bool). cond b (placements_at_piece order g t bytes i * (1 + how_many (eqb 1) (grid_at t bytes i).cells)) 0)
      (is_true (ltb 0 (copies_at t bytes i)) (lt→ltb 0 (copies_at t bytes i) (omega arith)))
      ∙ ap₂ {C = ℕ} (λ (a b : ℕ). a * (1 + b)) (sym r) (sym e)

  pub links_none : copies ≤ 0 → links_at_piece order g t bytes i ≡ 0
  links_none h =
      ap {B = ℕ} (λ (b : Bool). cond b (placements_at_piece order g t bytes i * (1 + how_many (eqb 1) (grid_at t bytes i).cells)) 0)
      (is_false (ltb 0 (copies_at t bytes i)) (λ u. let l = ltb→lt 0 (copies_at t bytes i) u in omega arith))

-- ---- sums over the first n entries, from entry k on
abbrev pub sum_from : (ℕ → ℕ) → List ℕ → ℕ → ℕ → ℕ
sum_from f xs n k = sum (map f (drop k (take n xs)))

module _ (f : ℕ → ℕ) (xs : List ℕ) (n : ℕ) (h : n ≤ length xs) (k : ℕ) where
  pub sum_next : k < n → sum_from f xs n k ≡ f (get_or xs k 0) + sum_from f xs n (k + 1)
  sum_next i =
      let e = length-take-le n xs h in
      rw (add-one, drop-cons (take n xs) k 0 (omega arith), get_or-take n xs k 0 i)

  pub sum_end : n ≤ k → sum_from f xs n k ≡ 0
  sum_end i =
      let e : length (take n xs) ≤ k = let l = length-take-le n xs h in omega arith in
      ap (λ (l : List ℕ). sum (map f l)) (drop_of_length-le (take n xs) e)

-- two counts over the first entries, each from what is left: what is counted and what is left make all, and the counts stay small
pub record CountedTo (f g : ℕ → ℕ) (first : List ℕ) (kinds base k placements links : ℕ) : Type 0 where
  pub within : k ≤ kinds
  pub few : placements ≤ 3072 * k
  pub few_links : links ≤ 144 + 1575936 * k
  pub all : placements + sum_from f first kinds k ≡ sum_from f first kinds 0
  pub all_links : links + sum_from g first kinds k ≡ base + sum_from g first kinds 0

module _ (f g : ℕ → ℕ) (first : List ℕ) (kinds base : ℕ) where
  pub counted_none : base ≤ 144 → CountedTo f g first kinds base 0 0 base
  counted_none h = record { within = omega arith; few = omega arith; few_links = omega arith; all = omega arith; all_links = refl }

  module _ (h : kinds ≤ length first) (k placements links : ℕ) (c : CountedTo f g first kinds base k placements links) where
    pub counted_next : k < kinds → (rows added all : ℕ) → rows ≡ f (get_or first k 0) → rows ≤ 3072 → added ≡ g (get_or first k 0) → added ≤ 1575936 → all ≡ links + added
        → CountedTo f g first kinds base (k + 1) (placements + rows) all
    counted_next i rows added all e a d b s =
        let x = sum_next f first kinds h k i in
        let y = sum_next g first kinds h k i in
        record {
          within = omega arith;
          few = omega (arith, c.few);
          few_links = omega (arith, c.few_links);
          all = omega (arith, c.all);
          all_links = omega (arith, c.all_links);
        }

    pub counted_all : kinds ≤ k → (placements ≡ sum (map f (take kinds first))) × (links ≡ base + sum (map g (take kinds first)))
    counted_all i =
        let x = sum_end f first kinds h k i in
        let y = sum_end g first kinds h k i in
        (omega (arith, c.all), omega (arith, c.all_links))

pub links_small : (rows f : ℕ) → rows ≤ 3072 → f ≤ 512 → rows * (1 + f) ≤ 1575936
links_small rows f h k = let l : 1 + f ≤ 513 = omega arith in mul-le-mul h l

pub whole_few : (s : Coord) (cells : List ℕ) (f : ℕ) → Whole s cells → f ≤ length cells → f ≤ 512
whole_few s cells f w h = let v = volume_small (as_sides s) w.short in let e = w.size in omega arith

-- ---- the filled cells of a board by their places
-- how many grids fit at a place
abbrev pub fits_at_place : List ℕ → Grid → List Grid → ℕ → ℕ
fits_at_place order g grids i = how_many (fits (scan order g) (cell_at g.sides i)) (map (scan order) grids)

module _ (order : List ℕ) (g : Grid) (places : List ℕ) (n : ℕ) (on : OnBoard order g places n) where
  pub fits_by_places : (grids : List Grid) → fits_in order g grids ≡ sum_from (fits_at_place order g grids) places n 0
  unfolding fits_in
  fits_by_places grids =
      let f : Cell → ℕ = λ v. how_many (fits (scan order g) v) (map (scan order) grids) in
      ap (λ (us : List Cell). sum (map f us)) (sym on.cells) ∙ ap sum (map-map f (cell_at g.sides) (take n places))

  pub cells_many : length (scan order g) ≡ n
  cells_many = ap length (sym on.cells) ∙ length-map (take n places) (cell_at g.sides) ∙ length-take-le n places on.within

  pub place_below : (k : ℕ) → k < n → get_or places k 0 < volume g.sides
  place_below k h =
      let e = length-take-le n places on.within in
      let i = get_or-take n places k 0 h in
      let l = ltb→lt (get_or (take n places) k 0) (volume g.sides)
      (all_at (λ (j : ℕ). ltb j (volume g.sides)) (take n places) on.in_box (nth_mem (take n places) k (nth_at 0 (take n places) k (omega arith)))) in
      omega arith

-- what the code finds of a board is on it
module _ (order : List ℕ) (g : Grid) (places : List ℕ) (n : ℕ) (is : axes g.sides ≡ order) (within : n ≤ length places)
    (cells : map (cell_at g.sides) (take n places) ≡ scan order g) (whole : length g.cells ≡ volume g.sides) (few : sum g.cells ≤ 128) where
  ones : (xs : List ℕ) → how_many (eqb 1) xs ≤ sum xs
  ones [] = omega arith
  ones (x ∷ xs) = go (eqb 1 x) refl (ones xs)
    where
      go : (b : Bool) → eqb 1 x ≡ b → how_many (eqb 1) xs ≤ sum xs → cond b 1 0 + how_many (eqb 1) xs ≤ x + sum xs
      go true e l = let i : 1 ≡ x = eqb→eq 1 x (holds (eqb 1 x) e) in omega arith
      go false e l = omega arith

  pub on-board : OnBoard order g places n
  on-board =
      record {
        is_order = is;
        within = within;
        few = (let a = ap length cells in let b = length-map (take n places) (cell_at g.sides) in let d = length-take-le n places within in
            let e = ap (λ (o : List ℕ). length (scan o g)) (sym is) ∙ scan_length g.sides g in let f = filled_bytes g whole in let i = ones g.cells in omega arith);
        in_box = all_of (λ i. ltb i (volume g.sides)) (take n places) (λ i m. lt→ltb i (volume g.sides) (below i m));
        cells = cells;
      }
    where
      below : (i : ℕ) → Memᴰ i (take n places) → i < volume g.sides
      below i m =
          let a : Memᴰ (cell_at g.sides i) (scan order g) = subst (λ (us : List Cell). Memᴰ (cell_at g.sides i) us) cells (mathlib.Core.List.Memᴰ.map (cell_at g.sides) m) in
          let b = (filled_at g (cell_at g.sides i) (scan_from order (record { box = g.sides; is_its = is }) g (cell_at g.sides i) a)).0 in
          subst (λ (k : ℕ). k < volume g.sides) (place_of_cell g.sides i) (place_lt g.sides (cell_at g.sides i) b)

-- the counts of a tray from what the code adds up, a piece of each kind
module _ (t : Pieces) (board : Record) (bytes : List ℕ) (l : Lent t board bytes) (long : length t.records ≡ 16) (first : List ℕ) (kinds : ℕ) (are : AreKinds t bytes first kinds)
    (h : kinds ≤ length first) (order places : List ℕ) (n : ℕ) (on : OnBoard order (grid_of bytes board) places n) (g : Grid) (is : g ≡ grid_of bytes board) where
  pub placements_counted : sum (map (placements_at_piece order g t bytes) (take kinds first)) ≡ placement_count (compile (lent_in (records_of t) board bytes))
  placements_counted =
      ap₂ (λ (o : List ℕ) (b : Grid). sum (map (placements_at_piece o b t bytes) (take kinds first))) (sym on.is_order) is
      ∙ sym (placements_by_pieces t board bytes l long first kinds are)

  pub links_counted : n + kinds + sum (map (links_at_piece order g t bytes) (take kinds first)) ≡ link_count (compile (lent_in (records_of t) board bytes))
  links_counted =
      ap (λ (m : ℕ). m + kinds + sum (map (links_at_piece order g t bytes) (take kinds first))) (sym (cells_many order (grid_of bytes board) places n on))
      ∙ ap₂ (λ (o : List ℕ) (b : Grid). length (scan o (grid_of bytes board)) + kinds + sum (map (links_at_piece o b t bytes) (take kinds first))) (sym on.is_order) is
      ∙ sym (links_by_pieces t board bytes l long first kinds are h)

-- ---- the frame decides no placement
pub counts_unframed : (t : Tray) {s : Tray} {r : Counts} → s ≡ unframed t → CountsOf (compile s) r → CountsOf (compile t) r
unfolding unframed compile kinds_of sorted placement_count link_count rows_of limits
counts_unframed t {s} {r} e h =
    let k = subst (λ (u : Tray). CountsOf (compile u) r) e h in
    record { placements = k.placements; links = k.links }

-- so what is counted of a stripped tray are the counts of the tray that is listed
pub counts_stripped : (t : Pieces) (board : Record) (bytes : List ℕ) {s : StrippedRecords} {cells places first : List ℕ} {turnings : List Turnings} {r : Counts}
    → StripsTray t board bytes s cells → Counted s.pieces s.board cells places first turnings r → CountsOf (compile (tray_in (records_of t) board bytes)) r
counts_stripped t board bytes s c = counts_unframed (tray_in (records_of t) board bytes) s.tray c.counts

-- ---- variants of kinds
-- those of each kind before k, and those of kind k put behind them
pub variants_next : (grids : ℕ → Grid) (old : List Turnings) (k : ℕ) → k < length old → ((j : ℕ) → j < k → AreVariants (grids j) (get_or old j no_turnings))
    → (v : Turnings) → AreVariants (grids k) v → (j : ℕ) → j < k + 1 → AreVariants (grids j) (get_or (set old k v) j no_turnings)
variants_next grids old k room h v n =
    below_more (λ (j : ℕ). AreVariants (grids j) (get_or (set old k v) j no_turnings)) k
    (λ j l. subst (AreVariants (grids j)) (sym (get_or-set_other old k j v no_turnings (λ e. omega arith))) (h j l))
    (subst (AreVariants (grids k)) (sym (get_or-set_same old k v no_turnings room)) n)

-- ---- what counts of the first numbers of a list
-- the first n places, and the first n kinds
pub on_board_front : {order places : List ℕ} {g : Grid} {n : ℕ} → n ≤ length places → OnBoard order g (take n places) n → OnBoard order g places n
on_board_front {order} {places} {g} {n} h on =
    let e = take-take n n places (omega arith) in
    record {
      is_order = on.is_order;
      within = h;
      few = on.few;
      in_box = subst (λ (is : List ℕ). T (all (λ i. ltb i (volume g.sides)) is)) e on.in_box;
      cells = ap (map (cell_at g.sides)) (sym e) ∙ on.cells;
    }

pub kinds_front : {t : Pieces} {bytes first : List ℕ} {n : ℕ} → AreKinds t bytes (take n first) n → AreKinds t bytes first n
kinds_front {t} {bytes} {first} {n} k =
    let e = take-take n n first (omega arith) in
    record {
      few = k.few;
      ordered = subst (Ordered t bytes) e k.ordered;
      forms_are = ap (forms_of t bytes) (sym e) ∙ k.forms_are;
    }

pub counted_front : {t : Pieces} {board : Record} {bytes places first : List ℕ} {turnings : List Turnings} {r : Counts} → r.size ≤ length places → r.kinds ≤ length first
    → Counted t board bytes (take r.size places) (take r.kinds first) turnings r → Counted t board bytes places first turnings r
counted_front {t} {board} {bytes} {places} {first} {turnings} {r} h k c =
    record {
      on_board = on_board_front h c.on_board;
      are_kinds = kinds_front c.are_kinds;
      each_kind = λ j l. subst (λ (i : ℕ). AreVariants (grid_at t bytes i) (get_or turnings j no_turnings)) (get_or-take r.kinds first j 0 l) (c.each_kind j l);
      counts = c.counts;
    }

-- and the other way round: the first kinds are a list of kinds of its own
pub kinds_listed : {t : Pieces} {bytes first : List ℕ} {n : ℕ} → n ≤ length first → AreKinds t bytes first n → AreKinds t bytes (take n first) (length (take n first))
kinds_listed {t} {bytes} {first} {n} h k =
    let e = take-length (take n first) in
    record {
      few = (let l = length-take-le n first h in omega (arith, k.few));
      ordered = subst (Ordered t bytes) (sym e) k.ordered;
      forms_are = ap (forms_of t bytes) e ∙ k.forms_are;
    }
