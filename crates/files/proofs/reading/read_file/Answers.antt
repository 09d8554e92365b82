-- A file is read whole, and of any other text the cells stay as they are. Assumes nothing.
use Rattle.std.proofs.Common.{leb, length, refl, sym, ◌∙◌, arith}
use Rattle.files.proofs.FileLaws.{file_is, unread, is_read, asks}
use Rattle.files.proofs.reading.read_file.Goals as goal

pub returns-in_err-head : goal.returns-in_err-head
returns-in_err-head c = rw c.from_residual.ensures (c.in_err-head.ensures, refl)

pub returns-then-not-are_pieces : goal.returns-then-not-are_pieces
returns-then-not-are_pieces c =
    let head = c.in_ok-head.ensures in
    let none = sym c.are_pieces.ensures ∙ c.if-not-are_pieces.true in
    (unread (leb 16384 (length c.args.cells.now)) (file_is c.args.text.now head.0 head.2 head.3 ∙ none), refl)

pub returns : goal.returns
returns c =
    let head = c.in_ok-head.ensures in
    let all = sym c.are_pieces.ensures ∙ c.if-not-are_pieces.false in (
      is_read c.args.cells.now head.1 (file_is c.args.text.now head.0 head.2 head.3 ∙ all),
      asks head.3 (omega (arith, head.0)) c.args.cells.now head.1 c.read_pieces-used.ensures c.record.ensures c.put_cells.ensures,
    )
