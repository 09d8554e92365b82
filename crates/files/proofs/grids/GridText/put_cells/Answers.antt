-- The invariant: the first i cells stand there as bytes 0 and 1. Assumes nothing.
use Rattle.std.proofs.Common.{◌-◌, arith, rules}
use Rattle.files.proofs.CellLaws.{cell_put}
use Rattle.files.proofs.grids.GridText.put_cells.Goals as goal

pub loop-i-preserved : goal.loop-i-preserved
loop-i-preserved c =
    let l = c.loop-i in
    let a = c.args in
    (search rules, cell_put (λ x. x - 48) a.cells.now a.self.now.cells.now a.at l.i (omega arith) (omega arith) l.invariant.1)
