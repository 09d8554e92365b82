-- `rows::building::write_row` meets its contract: five words at the row's place, none before it and none behind it. Assumes nothing.
use native.Mathlib.Omega.{arith}
use Rattle.rows.proofs.RowLaws.{written}
use Rattle.rows.proofs.building.write_row.Goals as goal

pub returns : goal.returns
returns c =
    let a = c.args in
    written a.work.now a.r a.mask.low a.mask.high a.kind a.p a.j (omega arith)
