-- Which part of the table refuses a call; and where none does, the slices in which its row system stands are as the engines ask. Assumes nothing.
use Prim.Native.Nat.{ℕ, ◌≤◌, ◌<◌}
use mathlib.Core.Bool.{◌&&◌}
use mathlib.Core.List.{List, ◌++◌, map}
use mathlib.Core.Path.{◌≡◌, refl, sym, ap, ◌∙◌, subst}
use Rattle.std.specs.Prelude.{Result, Err}
use native.Mathlib.Nat.{mul-pos}
use native.Mathlib.Omega.{arith}
use lib.Dec.{T}
use lib.ListN.{length, take, length-map, length-take}
use Rattle.lists.specs.Lists.{below, from}
use Rattle.lists.proofs.TestLaws.{and_left, and_right}
use Rattle.lists.proofs.ListLaws.{keep_length}
use Rattle.lists.proofs.RangeLaws.{length_from, length_below}
use Rattle.placements.proofs.RefusalLaws.{side_some}
use Rattle.definitions.specs.Answers.{lent_cells}
use Rattle.definitions.specs.Grid.{Grid, box, volume, same_grid}
use Rattle.definitions.specs.Scan.{scan_number}
use Rattle.definitions.specs.Maps.{Map, map_of, turns, mirrorings, map_grid}
use Rattle.definitions.specs.Kinds.{Tray}
use Rattle.definitions.specs.Placements.{Compiled, compile}
use Rattle.definitions.specs.Kept.{symmetries}
use Rattle.definitions.specs.Orders.{start}
use Rattle.definitions.specs.Refusals.{Call, lent_of, strip_piece, strip_tray, tray_of, sides_of, is_side, sides_fit, placement_count, first_that_applies, refusal, piece_of, grid_of}
use Rattle.definitions.specs.Outcomes.{number_of}
use Rattle.definitions.specs.declared.Refusal.{Refusal}
use Rattle.definitions.specs.Framing.{unframed}
use Rattle.definitions.specs.Stripping.{frame_of}
use Rattle.definitions.specs.declared.Config.{Config}
use Rattle.definitions.specs.declared.Record.{Record}
use Rattle.theorems.proofs.RefusalLaws.{passed, fit-volume}
use Rattle.placements.specs.declared.Pieces.{Pieces}
use Rattle.placements.specs.Pieces.{framed_in, records_of, tray_in}
use Rattle.placements.specs.Stripping.{StripsTray}
use Rattle.placements.specs.declared.stripping.StrippedRecords.{StrippedRecords}
use Rattle.placements.specs.Counting.{Accepted9, Counted}
use Rattle.placements.specs.Stages.{config_rows, count_rows_by, lent_rows, slice_rows}
use Rattle.placements.specs.declared.counted.Turnings.{Turnings}
use Rattle.placements.specs.declared.counting.Counts.{Counts}
use Rattle.placements.proofs.AcceptedLaws.{placements_few}
use Rattle.placements.proofs.CountingLaws.{board_fits, config_decides, count-rows, counts_decide, counts_stripped, early_decides, lent_decides, lent_passes, refused_some, slices_decide}
use Rattle.rows.specs.declared.Dims.{Dims}
use Rattle.rows.specs.Built.{BuiltSystem, frame_at}
use Rattle.rows.specs.Ranges.{Ranged}
use Rattle.shape.specs.Coords.{as_sides}
use Rattle.shape.specs.declared.Coord.{Coord}
use Rattle.solver.specs.Preparing.{Prepares, Stands, refusal_by}
use Rattle.rows.specs.declared.chart.Chart.{Chart}
use Rattle.rows.specs.Systems.{System, owned, owned_in, images_in, cell_images, system_in, system_over, system_of}
use Rattle.rows.specs.Lawful.{Lawful}
use Rattle.rows.proofs.SystemLaws.{lawful}
use Rattle.rows.proofs.AnswerLaws.{copies_many}
use Rattle.rows.proofs.BuildSystemLaws.{fast_call, fast_accepted, turns_numbered, mirrorings_numbered}
use Rattle.rows.specs.Ready.{Ready, Sized}
use Rattle.rows.proofs.ReadyLaws.{few-rows, sized_by}
use Rattle.theorems.proofs.GridLaws.{length_box}

-- ---- what is lent
-- no more maps of a board than maps
maps_few : (g : Grid) (ms : List Map) (start : ℕ) → map map_of (from start 24) ≡ ms → length (symmetries g ms) ≤ 24
unfolding symmetries
maps_few g ms start e =
    let a = keep_length (λ m. same_grid (map_grid m g) g) ms in
    let b : length ms ≡ length (from start 24) = ap (λ (l : List Map). length l) (sym e) ∙ length-map (from start 24) map_of in
    let c = length_from start 24 in
    omega arith

module _ (t : Pieces) (board : Record) (bytes : List ℕ) (ok : Accepted9 t board bytes) where
  sides : T (sides_fit board)
  sides = (board_fits t board bytes (lent_passes t board bytes ok)).0

  pub box_some : 0 < volume (sides_of board)
  unfolding sides_of volume sides_fit
  box_some =
      let u = and_right (is_side board.a) (is_side board.b && is_side board.c) sides in
      let a = side_some board.a (and_left (is_side board.a) (is_side board.b && is_side board.c) sides) in
      let b = side_some board.b (and_left (is_side board.b) (is_side board.c) u) in
      let c = side_some board.c (and_right (is_side board.b) (is_side board.c) u) in
      mul-pos (mul-pos a b) c

  pub box_few : volume (sides_of board) ≤ 512
  box_few = fit-volume board sides

module _ (t : Pieces) (board : Record) (bytes : List ℕ) (ok : Accepted9 t board bytes) (few : placement_count (compile (tray_in (records_of t) board bytes)) ≤ 1024) (work₀ : List ℕ) (long : 8192 ≤ length work₀) where
  abbrev tray : Tray
  tray = tray_in (records_of t) board bytes

  abbrev C : Compiled
  C = compile (tray_in (records_of t) board bytes)

  abbrev call : Call
  call = fast_call t board bytes work₀

  pub passes : refusal call ≡ 0
  passes = fast_accepted t board bytes work₀ ok few long

  system_lawful : Lawful (system_of (tray_in (records_of t) board bytes))
  unfolding lent_of tray_of
  system_lawful = lawful call passes (copies_many (tray_of call))

  pieces_few : length (owned (tray_in (records_of t) board bytes)) ≤ 16
  unfolding owned strip_tray
  pieces_few =
      let a = (passed call passes).lent.few_pieces in
      let b = length-map (records_of t) (piece_of bytes) in
      let c = length-map (map (piece_of bytes) (records_of t)) strip_piece in
      let e : length (owned tray) ≡ length tray.pieces = length-map tray.pieces _ in
      omega arith

  -- ---- the slices that the system stands in
  module _ (d : Dims) (work : List ℕ) (chart : Chart) (is : system_in d work chart ≡ system_of (tray_in (records_of t) board bytes)) where
    abbrev S : System
    S = system_in d work chart

    law : Lawful S
    law = subst Lawful (sym is) system_lawful

    turns_few : d.turns ≤ 24
    unfolding system_in system_over system_of images_in
    turns_few =
        let a : length S.turned ≡ length (from 0 d.turns) = length-map (from 0 d.turns) _ in
        let b = length_from 0 d.turns in
        let e = ap (λ (s : System). length s.turned) is in
        let f = length-map (symmetries C.board turns) (cell_images C) in
        let g = maps_few C.board turns 0 turns_numbered in
        omega arith

    mirrorings_few : d.mirrorings ≤ 24
    unfolding system_in system_over system_of images_in
    mirrorings_few =
        let a : length S.mirrored ≡ length (from d.turns d.mirrorings) = length-map (from d.turns d.mirrorings) _ in
        let b = length_from d.turns d.mirrorings in
        let e = ap (λ (s : System). length s.mirrored) is in
        let f = length-map (symmetries C.board mirrorings) (cell_images C) in
        let g = maps_few C.board mirrorings 24 mirrorings_numbered in
        omega arith

    owned_few : d.pieces ≤ 16
    unfolding system_in system_over system_of owned_in
    owned_few =
        let a : length S.pieces ≡ length (below d.pieces) = length-map (below d.pieces) _ in
        let b = length_below d.pieces in
        let e = ap (λ (s : System). length s.pieces) is in
        let f = pieces_few in
        omega arith

    pub ready : Ranged work chart.starts d.rows → 8192 ≤ length work → d.places ≡ volume (sides_of board) → Ready d work chart
    ready ch w v =
        let r = few-rows d work chart law in
        let a = turns_few in
        let b = mirrorings_few in
        let o = owned_few in
        let x = box_few t board bytes ok in
        record {
          lawful = law;
          ranged = ch;
          rows_fit = omega arith;
          few_maps = omega arith;
          few_places = omega arith;
          few_pieces = o;
        }

-- ---- a tray whose grids are stripped, in the box that was lent
pub framed_tray : (t : Pieces) (board : Record) (bytes : List ℕ) {r : StrippedRecords} {cells : List ℕ} → StripsTray t board bytes r cells → (lent : Coord) → as_sides lent ≡ sides_of board
    → framed_in (records_of r.pieces) r.board cells (frame_at lent r.at) ≡ tray_in (records_of t) board bytes
unfolding unframed strip_tray frame_of grid_of
framed_tray t board bytes s lent e = λ i. record { board = (s.tray i).board; pieces = (s.tray i).pieces; frame = record { lent = e i; at = s.at i } }

-- what was built of it is the row system of the tray, ready for the engines
pub system_stands : (t : Pieces) (board : Record) (bytes : List ℕ) {r : StrippedRecords} {cells : List ℕ} (s : StripsTray t board bytes r cells) (config : Config) (words links : ℕ) (lent : Coord)
    → as_sides lent ≡ sides_of board → (work after : List ℕ) (chart : Chart) (d : Dims) → Accepted9 t board bytes → length after ≡ length work → 8192 ≤ length work
    → refusal_by (records_of t) board bytes config words links ≡ 0 → placement_count (compile (tray_in (records_of t) board bytes)) ≤ 1024
    → BuiltSystem (framed_in (records_of r.pieces) r.board cells (frame_at lent r.at)) d work after chart
    → Stands d (records_of t) board bytes config words links work after chart
system_stands t board bytes s config words links lent e work after chart d ok same long accepted few b =
    let is = b.system ∙ ap system_of (framed_tray t board bytes s lent e) in
    let v : d.places ≡ volume (sides_of board) = b.places ∙ ap volume e in
    record {
      accepted = accepted;
      ready = ready t board bytes ok few work long d after chart is b.ranged (omega arith) v;
      system = is;
      places = v;
      behind = b.behind;
    }

-- and it is no larger than they ask: each place of the lent box has a scan number
module _ (d : Dims) (work : List ℕ) (chart : Chart) (rs : List Record) (board : Record) (bytes : List ℕ) where
  scans_fit : system_in d work chart ≡ system_of (tray_in rs board bytes) → d.places ≡ volume (sides_of board) → d.places ≤ length chart.scans
  unfolding system_in system_over system_of compile strip_tray frame_of grid_of
  scans_fit is v =
      let scans : take d.places chart.scans ≡ map (scan_number (lent_cells (compile (tray_in rs board bytes)))) (box (sides_of board)) = ap (λ (s : System). s.scans) is in
      let a = ap (λ (l : List ℕ). length l) scans ∙ length-map (box (sides_of board)) _ ∙ length_box (sides_of board) in
      let b = length-take d.places chart.scans in
      omega arith

  pub stands_sized : (config : Config) (words links : ℕ) (before : List ℕ) → Stands d rs board bytes config words links before work chart → Sized d work chart
  stands_sized config words links before s = sized_by d work chart s.ready (scans_fit s.system s.places)

-- ---- refusals
-- a call that is refused finds nothing written
pub refuses : {r : Result Dims Refusal} {why : Refusal} (rs : List Record) (board : Record) (bytes : List ℕ) (config : Config) (words links : ℕ) (work : List ℕ) (chart : Chart)
    → (x : Refusal) × (r ≡ Err x) × (x ≡ why) → number_of why ≡ refusal_by rs board bytes config words links
    → Prepares r rs board bytes config words links work chart work chart
unfolding Prepares
refuses rs board bytes config words links work chart is first =
    subst (λ (r : Result Dims Refusal). Prepares r rs board bytes config words links work chart work chart) (sym (is.1 ∙ ap (λ (x : Refusal). Err x) is.2))
    (record { first = first; untouched = refl; uncharted = refl })

-- the part of the table that refuses, where those before it do not, decides
module _ (t : Pieces) (board : Record) (bytes : List ℕ) (config : Config) (work links : ℕ) where
  early_refused : (why : Refusal) → number_of why ≡ first_that_applies (lent_rows (records_of t) board bytes ++ config_rows config ++ slice_rows config work links)
      → number_of why ≡ refusal_by (records_of t) board bytes config work links
  unfolding refusal_by
  early_refused why e = e ∙ sym (early_decides t board bytes config work links _ (λ z. refused_some why (e ∙ z)))

  pub lent_refused : (why : Refusal) → number_of why ≡ first_that_applies (lent_rows (records_of t) board bytes)
      → number_of why ≡ refusal_by (records_of t) board bytes config work links
  lent_refused why e = early_refused why (e ∙ sym (lent_decides t board bytes config work links (λ z. refused_some why (e ∙ z))))

  module _ (lent : 0 ≡ first_that_applies (lent_rows (records_of t) board bytes)) where
    pub config_refused : (why : Refusal) → number_of why ≡ first_that_applies (config_rows config) → number_of why ≡ refusal_by (records_of t) board bytes config work links
    config_refused why e = early_refused why (e ∙ sym (config_decides t board bytes config work links (sym lent) (λ z. refused_some why (e ∙ z))))

    module _ (chosen : 0 ≡ first_that_applies (config_rows config)) where
      pub slices_refused : (why : Refusal) → number_of why ≡ first_that_applies (slice_rows config work links) → number_of why ≡ refusal_by (records_of t) board bytes config work links
      slices_refused why e = early_refused why (e ∙ sym (slices_decide t board bytes config work links (sym lent) (sym chosen)))

      -- rows 14 and 15, of what is counted of the stripped tray
      module _ (slices : 0 ≡ first_that_applies (slice_rows config work links)) {r : StrippedRecords} {cells : List ℕ} (s : StripsTray t board bytes r cells)
          {places first : List ℕ} {turnings : List Turnings} {counts : Counts} (counted : Counted r.pieces r.board cells places first turnings counts) where
        past : first_that_applies (lent_rows (records_of t) board bytes ++ config_rows config ++ slice_rows config work links) ≡ 0
        past = slices_decide t board bytes config work links (sym lent) (sym chosen) ∙ sym slices

        number_is : first_that_applies (count_rows_by counts.placements counts.links config) ≡ refusal_by (records_of t) board bytes config work links
        unfolding refusal_by
        number_is =
            ap first_that_applies (count-rows config (counts_stripped t board bytes s counted)) ∙ sym (counts_decide t board bytes config work links _ past)

        pub counts_refused : (why : Refusal) → number_of why ≡ first_that_applies (count_rows_by counts.placements counts.links config)
            → number_of why ≡ refusal_by (records_of t) board bytes config work links
        counts_refused why e = e ∙ number_is

        module _ (few : 0 ≡ first_that_applies (count_rows_by counts.placements counts.links config)) where
          pub accepted_by : refusal_by (records_of t) board bytes config work links ≡ 0
          accepted_by = sym (few ∙ number_is)

          pub few_placements : placement_count (compile (tray_in (records_of t) board bytes)) ≤ 1024
          few_placements =
              placements_few _ config (sym (ap first_that_applies (count-rows config (counts_stripped t board bytes s counted))) ∙ sym few)
