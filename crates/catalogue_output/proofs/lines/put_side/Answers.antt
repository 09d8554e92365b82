-- The digit and the tab are put. Assumes nothing.
use Rattle.std.proofs.Common.{ap, length, arith}
use Rattle.texts.proofs.DecimalLaws.{decimal_digit}
use Rattle.texts.proofs.PutLaws.{put_byte}
use Rattle.catalogue_output.proofs.lines.put_side.Goals as goal

pub returns : goal.returns
returns c =
    let p = c.put_decimal-tab.ensures.0 in
    let one = ap length (decimal_digit c.args.side c.requires.1) in
    let e = p.end in
    (put_byte 9 p (omega arith), omega arith)
