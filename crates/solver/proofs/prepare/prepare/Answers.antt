-- `prepare` meets its contract: the first part of the table that refuses decides, and nothing is written then; else what was counted is
-- built. Assumes nothing.
use Rattle.std.proofs.Common.{◌≡◌, ◌≤◌, ℕ, List, min, length, sym, subst, arith}
use Rattle.std.proofs.lemmas.Result.{err_from_is_err_and}
use Rattle.definitions.specs.Placements.{compile}
use Rattle.definitions.specs.Refusals.{first_that_applies, placement_count, sides_of}
use Rattle.definitions.specs.declared.Config.{Config}
use Rattle.definitions.specs.Stripping.{FitsIn}
use Rattle.shape.specs.Coords.{ShortSides}
use Rattle.placements.specs.Counting.{Counted}
use Rattle.placements.specs.Pieces.{framed_in, records_of, tray_in}
use Rattle.placements.specs.Stages.{slice_rows}
use Rattle.placements.specs.Trays.{lent_tray}
use Rattle.placements.specs.declared.counted.CountedTray.{CountedTray}
use Rattle.placements.specs.declared.trays.LentTray.{LentTray}
use Rattle.placements.proofs.AcceptedLaws.{work-long}
use Rattle.placements.proofs.CountingLaws.{board_fits, counts_stripped, lent_passes}
use Rattle.placements.proofs.RefusalLaws.{sides_small}
use Rattle.rows.specs.Built.{BuiltSystem, frame_at}
use Rattle.rows.specs.Rows.{RowsFit}
use Rattle.rows.proofs.BuildSystemLaws.{part_fits, rows_stripped}
use Rattle.solver.specs.Preparing.{Prepares}
use Rattle.solver.proofs.PreparedLaws.{accepted_by, config_refused, counts_refused, few_placements, lent_refused, refuses, slices_refused, system_stands}
use Rattle.solver.proofs.prepare.prepare.Goals as goal

-- the slice holds 8,192 words where the call's does
room_for_rows : (config : Config) (words links : ℕ) (work : List ℕ) → min words 8192 ≤ length work → 0 ≡ first_that_applies (slice_rows config words links) → 8192 ≤ length work
room_for_rows config words links work h e = let k = work-long config words links (sym e) in omega arith

-- what is counted is counted of the tray that was handed over
counted_of : (k : CountedTray) {t : LentTray} → k.tray ≡ t → Counted t.pieces t.board t.bytes.now k.places k.first k.turnings k.counts
counted_of k e = subst (λ (t : LentTray). Counted t.pieces t.board t.bytes.now k.places k.first k.turnings k.counts) e k.counted

pub returns-in_err-check_lent : goal.returns-in_err-check_lent
returns-in_err-check_lent c =
    let a = c.args in
    let is = err_from_is_err_and c.from_residual.result c.from_residual.ensures.1 in
    refuses (records_of a.pieces.now) a.board a.bytes.now a.config a.words a.links a.work.now a.chart.now is (lent_refused a.pieces.now a.board a.bytes.now a.config a.words a.links _ c.in_err-check_lent.ensures)

pub returns-in_err-check_config : goal.returns-in_err-check_config
returns-in_err-check_config c =
    let a = c.args in
    let x = c.from_residual-in_err-check_config in
    let is = err_from_is_err_and x.result x.ensures.1 in
    refuses (records_of a.pieces.now) a.board a.bytes.now a.config a.words a.links a.work.now a.chart.now is
    (config_refused a.pieces.now a.board a.bytes.now a.config a.words a.links c.in_ok-check_lent.ensures _ c.in_err-check_config.ensures)

pub returns-in_err-check_slices : goal.returns-in_err-check_slices
returns-in_err-check_slices c =
    let a = c.args in
    let x = c.from_residual-in_err-check_slices in
    let is = err_from_is_err_and x.result x.ensures.1 in
    refuses (records_of a.pieces.now) a.board a.bytes.now a.config a.words a.links a.work.now a.chart.now is
    (slices_refused a.pieces.now a.board a.bytes.now a.config a.words a.links c.in_ok-check_lent.ensures c.in_ok-check_config.ensures _ c.in_err-check_slices.ensures)

pub returns-in_err-check_counts : goal.returns-in_err-check_counts
returns-in_err-check_counts c =
    let a = c.args in
    let x = c.from_residual-in_err-check_counts in
    let is = err_from_is_err_and x.result x.ensures.1 in
    refuses (records_of a.pieces.now) a.board a.bytes.now a.config a.words a.links a.work.now a.chart.now is
    (counts_refused a.pieces.now a.board a.bytes.now a.config a.words a.links c.in_ok-check_lent.ensures c.in_ok-check_config.ensures c.in_ok-check_slices.ensures
    c.strip_tray-stripped.ensures.0 (counted_of c.count_tray-counted.result c.count_tray-counted.ensures) _ c.in_err-check_counts.ensures)

pub build_system-requires-clause-counted : goal.build_system-requires-clause-counted
build_system-requires-clause-counted c =
    let a = c.args in
    let k = c.count_tray-counted in
    let s = c.strip_tray-stripped.ensures.0 in
    let counted = counted_of k.result k.ensures in
    let few : placement_count (compile (tray_in (records_of a.pieces.now) a.board a.bytes.now)) ≤ 1024 =
    few_placements a.pieces.now a.board a.bytes.now a.config a.words a.links c.in_ok-check_lent.ensures c.in_ok-check_config.ensures c.in_ok-check_slices.ensures
    s counted c.in_ok-check_counts.ensures in
    let same = (counts_stripped a.pieces.now a.board a.bytes.now s counted).placements in
    let placements : k.result.counts.placements ≤ 1024 = omega arith in
    let fit = rows_stripped _ _ _ s counted a.work.now (sym c.in_ok-check_lent.ensures) placements (room_for_rows a.config a.words a.links a.work.now c.requires c.in_ok-check_slices.ensures) in
    (placements, subst (λ (t : LentTray). RowsFit (compile (lent_tray t))) (sym k.ensures) fit)

pub build_system-requires-clause-fit : goal.build_system-requires-clause-fit
build_system-requires-clause-fit c =
    let a = c.args in
    let sides = c.sides_of-sides.ensures in
    let k = c.count_tray-counted in
    let s = c.strip_tray-stripped.ensures.0 in (
      subst ShortSides (sym sides) (sides_small a.board (board_fits _ _ _ (lent_passes a.pieces.now a.board a.bytes.now (sym c.in_ok-check_lent.ensures))).0),
      subst (λ (t : LentTray). FitsIn (frame_at c.sides_of-sides.result c.strip_tray-stripped.result.at) (sides_of t.board)) (sym k.ensures) (part_fits _ _ _ s _ sides),
    )

pub build_system-requires-clause-room : goal.build_system-requires-clause-room
build_system-requires-clause-room c =
    let a = c.args in
    room_for_rows a.config a.words a.links a.work.now c.requires c.in_ok-check_slices.ensures

pub returns : goal.returns
unfolding Prepares
returns c =
    let a = c.args in
    let k = c.count_tray-counted in
    let s = c.strip_tray-stripped.ensures.0 in
    let counted = counted_of k.result k.ensures in
    let b = c.build_system in
    let lent = c.in_ok-check_lent.ensures in
    let chosen = c.in_ok-check_config.ensures in
    let slices = c.in_ok-check_slices.ensures in
    let few = c.in_ok-check_counts.ensures in
    let built =
    subst (λ (t : LentTray). BuiltSystem (framed_in (records_of t.pieces) t.board t.bytes.now (frame_at c.sides_of-sides.result c.strip_tray-stripped.result.at)) b.result a.work.now b.new.work b.new.chart)
    k.ensures b.ensures in
    system_stands a.pieces.now a.board a.bytes.now s a.config a.words a.links c.sides_of-sides.result c.sides_of-sides.ensures a.work.now b.new.work b.new.chart b.result (sym lent)
    b.auto.work (room_for_rows a.config a.words a.links a.work.now c.requires slices)
    (accepted_by a.pieces.now a.board a.bytes.now a.config a.words a.links lent chosen slices s counted few)
    (few_placements a.pieces.now a.board a.bytes.now a.config a.words a.links lent chosen slices s counted few) built
