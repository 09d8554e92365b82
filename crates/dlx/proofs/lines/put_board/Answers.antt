-- The first item is put, and each turn of the loop puts the next. Assumes nothing.
use Rattle.std.proofs.Common.{◌∙◌, arith}
use Rattle.dlx.proofs.LineLaws.{put_first_cell, put_next_cell}
use Rattle.dlx.proofs.lines.put_board.Goals as goal

pub loop-n-init : goal.loop-n-init
loop-n-init c = let z = c.put_item-end in (z.auto.line, omega arith, put_first_cell z.ensures.0)

pub loop-n-preserved : goal.loop-n-preserved
loop-n-preserved c =
    let l = c.loop-n in
    let z = c.put_next-end in
    (z.auto.line ∙ l.invariant.0, omega arith, put_next_cell l.n (omega arith) l.invariant.2 z.ensures.0 (omega arith))
