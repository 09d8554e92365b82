-- `head_within` meets its contract: of a text with other lengths nothing is a file, and of the others `head_of` says it. Assumes nothing.
use Rattle.std.proofs.Common.{leb, arith}
use Rattle.definitions.specs.Files.{is_file}
use Rattle.files.proofs.FileLaws.{file_long, unread, narrow, within}
use Rattle.files.proofs.lines.head_within.Goals as goal
use Rattle.files.proofs.lines.head_within.Goals.{then-text-gt16384-via-then-text-gt16384, then-text-gt16384-via-else-text-gt16384+then-cells-lt16384}

pub returns-then-text-gt16384 : goal.returns-then-text-gt16384
returns-then-text-gt16384 c =
    let text = c.args.text.now in
    elim c.then-text-gt16384.branch [
      | then-text-gt16384-via-then-text-gt16384 w ↦ unread (leb 16384 c.args.cells) (file_long text (omega arith))
      | then-text-gt16384-via-else-text-gt16384+then-cells-lt16384 w ↦ narrow c.args.cells (is_file text) (omega arith)
    ]

pub returns : goal.returns
returns c = within c.args.text.now c.args.cells (omega arith) (omega arith) _ c.head_of.ensures
