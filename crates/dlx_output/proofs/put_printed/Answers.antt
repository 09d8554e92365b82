-- What is printed for a text that is no file, for an accepted call and for a refused one. Assumes nothing.
use Rattle.std.proofs.Common.{◌∙◌}
use Rattle.lists.proofs.ListLaws.{drop_later}
use Rattle.theorems.proofs.TextRightLaws.{text_printed_right_holds}
use Rattle.dlx_output.proofs.PrintedLaws.{accepted, asked_outcome, is_read, malformed, malformed_work, refused}
use Rattle.dlx_output.proofs.put_printed.Goals as goal

pub returns-in_default-clause-printed : goal.returns-in_default-clause-printed
returns-in_default-clause-printed c =
    let x = c.args in
    rw (malformed x.text.now (is_read x.cells.now c.requires.0 c.in_default.ensures.0)) c.put_refused.ensures.0

pub returns-in_default-clause-work : goal.returns-in_default-clause-work
returns-in_default-clause-work c =
    let x = c.args in
    malformed_work x.text.now x.work.now (is_read x.cells.now c.requires.0 c.in_default.ensures.0)

pub returns-in_default-clause-right : goal.returns-in_default-clause-right
returns-in_default-clause-right c = text_printed_right_holds

pub returns-in-Ok : goal.returns-in-Ok
returns-in-Ok c =
    let x = c.args in
    let asked = c.in-Some.asked in
    let asks = c.in-Some.ensures.1 in
    let file = is_read x.cells.now c.requires.0 c.in-Some.ensures.0 in
    let e = c.in-Ok.ensures.outcome ∙ asked_outcome x.text.now _ asked.pieces asked.board asks.pieces_are asks.board_is asks.bytes_are x.out.now x.work.now in
    let done = accepted x.text.now x.out.now x.work.now c.requires.1 c.requires.2 c.in-Ok.written _ _ file e in
    record {
      printed = done.0;
      cells = drop_later asked.used 16384 _ _ asks.few asks.behind;
      work = done.1;
      right = text_printed_right_holds;
    }

pub returns-in-Err : goal.returns-in-Err
returns-in-Err c =
    let x = c.args in
    let asked = c.in-Some.asked in
    let asks = c.in-Some.ensures.1 in
    let file = is_read x.cells.now c.requires.0 c.in-Some.ensures.0 in
    let e = c.in-Err.ensures.outcome ∙ asked_outcome x.text.now _ asked.pieces asked.board asks.pieces_are asks.board_is asks.bytes_are x.out.now x.work.now in
    let why = refused x.text.now x.out.now x.work.now c.requires.1 c.requires.2 c.in-Err.why _ _ file e in
    record {
      printed = rw why.0 (rw (c.number.ensures, why.1) at c.put_refused-in-Err.ensures.0);
      cells = drop_later asked.used 16384 _ _ asks.few asks.behind;
      work = why.2;
      right = text_printed_right_holds;
    }
