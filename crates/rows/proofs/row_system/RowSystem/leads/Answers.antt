-- The method `leads` meets its contract: the row stands in the work slice, and its first cell is on the board. Assumes nothing.
use native.Mathlib.Omega.{arith}
use Rattle.rows.specs.Rows.{row_at}
use Rattle.rows.proofs.ReadyLaws.{row_in, row-cells}
use Rattle.rows.proofs.StandingLaws.{stands}
use Rattle.rows.proofs.row_system.RowSystem.leads.Goals as goal

pub leads-requires : goal.leads-requires
leads-requires c =
    let s = c.args.self.now in
    let r = c.args.r in
    let h = c.requires in
    let ok = (stands s).lawful in
    let few = s.sized.few_cells in
    let fit = s.sized.rows_fit in
    let row = ok.row (row_at s.work.now r) (row_in s.d s.work.now s.chart.now r h) in
    let on = row-cells s.d s.work.now s.chart.now ok r h (row_at s.work.now r).p row.covers_p in
    (omega arith, omega arith, s.sized.few_pieces)
