-- The call is accepted, as the one before it was, and its page is the entries that follow. Assumes nothing.
use Rattle.std.proofs.Common.{arith}
use Rattle.output.proofs.TurnLaws.{never_missing, never_refused, turned}
use Rattle.output.proofs.pages.turn_page.Goals as goal

pub unreachable-requires : goal.unreachable-requires
unreachable-requires c =
    let x = c.args in
    let q = c.requires in
    let room_some = q.1.room_some in
    never_missing x.text.now x.held.now x.cells.now x.work.now x.links.now q.0 x.answers.now q.1 q.2 q.3
    c.grown-room.result (let h = c.grown-room.ensures.1 in omega arith) c.grown-room.ensures.2
    c.page_after.ensures.page _ _ (rw (c.in-Ok-None.is, c.in-Ok-None.field-0-is) at c.page_after.ensures.outcome_is)

pub unreachable-requires-in-Err : goal.unreachable-requires-in-Err
unreachable-requires-in-Err c =
    let x = c.args in
    let q = c.requires in
    let room_some = q.1.room_some in
    never_refused x.text.now x.held.now x.cells.now x.work.now x.links.now q.0 x.answers.now q.1 q.2 q.3
    c.grown-room.result (let h = c.grown-room.ensures.1 in omega arith) c.grown-room.ensures.2
    _ c.page_after.ensures.page _ _ (rw c.in-Err.is at c.page_after.ensures.outcome_is)

pub returns : goal.returns
returns c =
    let x = c.args in
    let q = c.requires in
    let room_some = q.1.room_some in
    let page = c.in-Ok-Some.page in
    turned x.text.now x.held.now x.cells.now x.work.now x.links.now q.0 x.answers.now q.1 q.2 q.3
    c.grown-room.result (let h = c.grown-room.ensures.1 in omega arith) c.grown-room.ensures.2
    page.written page.further c.page_after.ensures.page _ _ _ (rw (c.in-Ok-Some.is, c.in-Ok-Some.field-0-is) at c.page_after.ensures.outcome_is) c.page_after.ensures.answers_are
    c.page_after.auto.answers
