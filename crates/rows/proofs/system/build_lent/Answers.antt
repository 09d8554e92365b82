-- `rows::system::build_lent` meets its contract: each callee writes its part of the system, and the parts are those of the tray that is lent. Assumes nothing.
use Prim.Native.Nat.{ℕ, ◌≤◌}
use mathlib.Core.List.{List, map}
use mathlib.Core.Path.{◌≡◌, sym, subst}
use native.Mathlib.Omega.{arith}
use lib.Dec.{T, ltb}
use lib.ListN.{length, take}
use Rattle.lists.specs.Lists.{all, from}
use Rattle.definitions.specs.Maps.{map_of}
use Rattle.definitions.specs.Kept.{symmetries}
use Rattle.definitions.specs.Scan.{axes}
use Rattle.definitions.specs.Placements.{compile}
use Rattle.definitions.specs.Refusals.{grid_of, sides_of, placement_count}
use Rattle.shape.specs.CubicGrids.{grid_of as cubic}
use Rattle.shape.specs.Scans.{as_order}
use Rattle.placements.specs.declared.counted.CountedTray.{CountedTray}
use Rattle.placements.specs.Counting.{OnBoard}
use Rattle.placements.specs.Pieces.{records_of}
use Rattle.placements.specs.Trays.{lent_tray}
use Rattle.rows.specs.Boards.{Pictured, board_images}
use Rattle.rows.proofs.BuildSystemLaws.{places_below, images_few, rows_are, rows_few, rows_in_range, rows_behind, built_lent}
use Rattle.rows.proofs.CountedLaws.{on_front, numbered_front, box_small}
use Rattle.rows.proofs.system.build_lent.Goals as goal

-- ---- the places of the board's cells
module _ (d : CountedTray) (ps : List ℕ) (is : ps ≡ take d.counts.size d.places) where
  abbrev o : List ℕ
  o = axes (sides_of d.tray.board)

  front : (length ps ≡ d.counts.size) × OnBoard o (grid_of d.tray.bytes.now d.tray.board) ps (length ps)
  front = on_front o (grid_of d.tray.bytes.now d.tray.board) d.places d.counts.size d.counted.on_board ps is

  front_below : T (all (λ i. ltb i 512) ps)
  front_below =
      subst (λ (xs : List ℕ). T (all (λ i. ltb i 512) xs)) (sym is)
      (places_below o (grid_of d.tray.bytes.now d.tray.board) d.places d.counts.size 512 d.counted.on_board (box_small d))

-- there are few placements
few : (d : CountedTray) → d.counts.placements ≤ 1024 → placement_count (compile (lent_tray d.tray)) ≤ 1024
few d = subst (λ (n : ℕ). n ≤ 1024) d.counted.counts.placements

pub number_places-requires : goal.number_places-requires
number_places-requires c =
    let d = c.args.counted.now in
    (omega (arith, (front d c.places.result.now c.places.ensures).0, d.counted.on_board.few), front_below d c.places.result.now c.places.ensures)

pub invariant_of-board : goal.invariant_of-board
invariant_of-board c =
    let d = c.args.counted.now in
    record {
      numbered = numbered_front (axes (sides_of d.tray.board)) (grid_of d.tray.bytes.now d.tray.board) c.places.result.now c.number_places.new.scans
          (front d c.places.result.now c.places.ensures).1 (box_small d) c.number_places.ensures (as_order c.order.result) c.order.ensures
          (cubic c.board_grid-grid.result) c.board_grid-grid.ensures;
    }

pub board_images-maps-requires : goal.board_images-maps-requires
board_images-maps-requires c =
    let turns = c.board_images-turns in
    let most = images_few c.args.images.now turns.new.images (as_order c.order.result) (cubic c.board_grid-grid.result) 0 turns.result
    (length c.places-2.result.now) 0 24 turns.ensures in
    (omega arith, omega arith, omega (arith, most, turns.auto.images))

pub range_rows-requires : goal.range_rows-requires
range_rows-requires c =
    let a = c.args in
    let d = a.counted.now in
    let w = c.build_rows-rows in
    let tray = compile (lent_tray d.tray) in
    let fit = c.requires.counted.1 in
    let most = few d c.requires.counted.0 in
    let small = rows_few tray fit most a.work.now w.new.work w.result w.ensures in
    (omega (arith, small, w.auto.work), small, rows_in_range tray fit most a.work.now w.new.work w.result w.ensures)

pub returns : goal.returns
returns c =
    let a = c.args in
    let d = a.counted.now in
    let t = d.tray in
    let w = c.build_rows-rows in
    let order = as_order c.order.result in
    let g = cubic c.board_grid-grid.result in
    let tray = compile (lent_tray t) in
    let fit = c.requires.counted.1 in
    let most = few d c.requires.counted.0 in
    let many = (front d c.places-2.result.now c.places-2.ensures).0 in
    let on = subst (λ (x : List ℕ). OnBoard x (grid_of t.bytes.now t.board) d.places d.counts.size) (sym c.order.ensures) d.counted.on_board in
    built_lent (records_of t.pieces) t.board t.bytes.now order g c.board_grid-grid.ensures d.places d.counts.size on
    a.work.now w.new.work c.range_rows.new.starts a.images.now c.board_images-turns.new.images c.board_images-maps.new.images w.result
    c.board_images-turns.result c.board_images-maps.result
    (rows_are tray fit most a.work.now w.new.work w.result w.ensures)
    (subst (λ (n : ℕ). Pictured a.images.now 0 c.board_images-turns.new.images c.board_images-turns.result n
    (map (board_images order g) (symmetries g (map map_of (from 0 24))))) many c.board_images-turns.ensures)
    (subst (λ (n : ℕ). Pictured c.board_images-turns.new.images c.board_images-turns.result c.board_images-maps.new.images c.board_images-maps.result n
    (map (board_images order g) (symmetries g (map map_of (from 24 24))))) many c.board_images-maps.ensures)
    c.range_rows.ensures (rows_behind tray fit most a.work.now w.new.work w.result w.ensures)
