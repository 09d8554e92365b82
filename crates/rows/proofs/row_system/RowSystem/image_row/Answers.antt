-- The method `image_row` meets its contract: what the function asks is known of a system that is ready. Assumes nothing.
use native.Mathlib.Omega.{arith}
use Rattle.rows.proofs.ReadyLaws.{first_cells, in-order, map_permutes, row_kind, row_on_board}
use Rattle.rows.proofs.StandingLaws.{stands}
use Rattle.rows.proofs.row_system.RowSystem.image_row.Goals as goal

-- the rows of each range stand together, in order
pub image_row-requires-clause-rows_in_bounds : goal.image_row-requires-clause-rows_in_bounds
image_row-requires-clause-rows_in_bounds c =
    let s = c.args.self.now in
    let ready = stands s in
    (s.sized.rows_fit, s.sized.few_rows, ready.ranged, first_cells s.d s.work.now s.chart.now ready.lawful, in-order s.d s.work.now s.chart.now ready.lawful)

-- the row is one of the rows, of a kind, on the board
pub image_row-requires-clause-r_lt_rows : goal.image_row-requires-clause-r_lt_rows
image_row-requires-clause-r_lt_rows c =
    let s = c.args.self.now in
    let ok = (stands s).lawful in
    let row = c.requires.1 in
    (row, s.sized.few_kinds, row_kind s.d s.work.now s.chart.now ok c.args.r row, row_on_board s.d s.work.now s.chart.now ok c.args.r row)

-- the map is one of the board's
pub image_row-requires-clause-size_bound : goal.image_row-requires-clause-size_bound
image_row-requires-clause-size_bound c =
    let s = c.args.self.now in
    let m = c.args.m in
    let few = s.sized.few_maps in
    let own = c.requires.0 in
    (s.sized.few_cells, omega arith, map_permutes s.d s.work.now s.chart.now (stands s).lawful m own)
