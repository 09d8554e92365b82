-- The invariant: the first i cells stand there as digits. Assumes nothing.
use Rattle.std.proofs.Common.{◌+◌, arith, rules}
use Rattle.files.proofs.CellLaws.{cell_put}
use Rattle.catalogue_output.proofs.lines.put_cells.Goals as goal

pub loop-i-preserved : goal.loop-i-preserved
loop-i-preserved c =
    let l = c.loop-i in
    let a = c.args in
    (search rules, cell_put (λ n. n + 48) a.out.now a.cells.now a.at l.i (omega arith) (omega arith) l.invariant.1)
