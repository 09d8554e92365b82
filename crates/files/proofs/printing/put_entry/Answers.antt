-- `files::printing::put_entry` meets its contract: the entry's number, a tab, the cells and a line feed are put. Assumes nothing.
use native.Mathlib.Omega.{arith}
use Rattle.definitions.specs.Files.{entry_line}
use Rattle.texts.proofs.PutLaws.{put_line}
use Rattle.files.proofs.printing.put_entry.Goals as goal

pub returns : goal.returns
unfolding entry_line
returns c =
    let d = c.put_decimal-tab in
    let z = c.put_cells-end in
    (put_line d.ensures.0 z.ensures.0 (omega arith), omega arith)
