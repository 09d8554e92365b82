-- `placements::counting::count_tray` meets its contract: the cells of the board, the kinds, and what `count_kinds` counts. Assumes nothing.
use Rattle.std.proofs.Common.{ℕ, List, ◌≤◌, ◌≡◌, ◌∙◌, sym, ap, subst, map, take, length, arith}
use lib.Seq.{take-length, length-take-le}
use Rattle.lists.specs.Lists.{sum}
use Rattle.definitions.specs.Grid.{Grid}
use Rattle.definitions.specs.Scan.{axes, scan}
use Rattle.definitions.specs.Refusals.{grid_of}
use Rattle.shape.specs.Coords.{as_sides}
use Rattle.shape.specs.CubicGrids.{grid_of as cubic}
use Rattle.shape.specs.Places.{cell_at}
use Rattle.shape.specs.Scans.{as_order}
use Rattle.shape.proofs.PlaceLaws.{volume_small}
use Rattle.placements.specs.Counting.{Counted}
use Rattle.placements.proofs.CountingLaws.{board_few, on-board, counted_front, kinds_listed}
use Rattle.placements.proofs.TrayLaws.{lent, few_pieces, sound_pieces}
use Rattle.placements.proofs.counting.count_tray.Goals as goal
use Rattle.placements.proofs.counting.count_tray.Goals.{After-merge-kinds}

pub plan_coords-size-requires : goal.plan_coords-size-requires
plan_coords-size-requires c =
    let grid = c.board_grid-grid.result in
    (volume_small (as_sides grid.sides) grid.whole.short).1

pub smallest_maps-small-requires : goal.smallest_maps-small-requires
smallest_maps-small-requires c = sound_pieces c.args.tray

pub invariant_of-pieces : goal.invariant_of-pieces
invariant_of-pieces c = record { many = omega arith; sound = sound_pieces c.args.tray; smallest = c.smallest_maps-small.ensures.0 }

pub invariant_of-board : goal.invariant_of-board
unfolding grid_of
invariant_of-board c =
    let t = c.args.tray in
    let l = lent t in
    let grid = c.board_grid-grid in
    let order = as_order c.order-order.result in
    let g = cubic grid.result in
    let places = take c.plan_coords-size.result c.plan_coords-size.new.places in
    let is : axes g.sides ≡ order = ap (λ (h : Grid). axes h.sides) grid.ensures ∙ sym c.order-order.ensures in
    let cells : map (cell_at g.sides) (take (length places) places) ≡ scan order g =
    ap (map (cell_at g.sides)) (take-length places) ∙ c.plan_coords-size.ensures.cells in
    let few : sum g.cells ≤ 128 = subst (λ (h : Grid). sum h.cells ≤ 128) (sym grid.ensures) (board_few _ _ _ l) in
    record { on_board = on-board order g places (length places) is (omega arith) cells grid.result.whole.size few }

-- the kinds are few
few_kinds : (c : After-merge-kinds) → c.merge-kinds.result ≤ length c.merge-kinds.new.first
few_kinds c = let few = few_pieces c.args.tray in omega (arith, c.merge-kinds.ensures.0.few, c.merge-kinds.auto.first)

pub slice_bounds-first-end : goal.slice_bounds-first-end
slice_bounds-first-end c = few_kinds (goal.at.slice_bounds-first-end c).After-merge-kinds

pub slice_bounds-count_kinds-end-2 : goal.slice_bounds-count_kinds-end-2
slice_bounds-count_kinds-end-2 c =
    sym (length-take-le c.merge-kinds.result c.merge-kinds.new.first (few_kinds (goal.at.slice_bounds-count_kinds-end-2 c).After-merge-kinds))

pub count_kinds-counts-requires-clause-kinds : goal.count_kinds-counts-requires-clause-kinds
count_kinds-counts-requires-clause-kinds c =
    kinds_listed (few_kinds (goal.at.count_kinds-counts-requires-clause-kinds c).After-merge-kinds) c.merge-kinds.ensures.0

pub invariant_of-result : goal.invariant_of-result
invariant_of-result c =
    let t = c.args.tray in
    let counts = c.count_kinds-counts in
    let size = c.plan_coords-size.result in
    let places = c.plan_coords-size.new.places in
    let kinds = c.merge-kinds.result in
    let first = c.merge-kinds.new.first in
    let few = few_kinds (goal.at.invariant_of-result c).After-merge-kinds in
    let within : size ≤ length places = omega (arith, c.plan_coords-size.ensures.within, c.plan_coords-size.auto.places) in
    let all_places : counts.result.size ≡ size = counts.ensures.sizes.0 ∙ length-take-le size places within in
    let all_kinds : counts.result.kinds ≡ kinds = counts.ensures.sizes.1 ∙ length-take-le kinds first few in
    record {
      counted = counted_front (omega arith) (omega arith)
          (subst (λ (ps : List ℕ). Counted t.pieces t.board t.bytes.now ps (take counts.result.kinds first) counts.new.turnings counts.result)
          (ap (λ (n : ℕ). take n places) (sym all_places))
          (subst (λ (ks : List ℕ). Counted t.pieces t.board t.bytes.now (take size places) ks counts.new.turnings counts.result)
          (ap (λ (n : ℕ). take n first) (sym all_kinds)) counts.ensures.counted));
      smallest = c.smallest_maps-small.ensures.0;
    }
