-- `texts::put_labelled` meets its contract: the word, a tab, the number and a line feed are put. Assumes nothing.
use native.Mathlib.Omega.{arith}
use Rattle.texts.proofs.PutLaws.{put_line}
use Rattle.texts.proofs.put_labelled.Goals as goal

pub returns : goal.returns
returns c =
    let w = c.put_bytes-tab in
    let z = c.put_decimal-end in
    (put_line w.ensures z.ensures.0 (omega arith), omega arith)
