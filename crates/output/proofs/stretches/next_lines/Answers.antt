-- The lines come from the page that stands, or from the next; or it is the last line. Assumes nothing.
use Rattle.std.proofs.Common.{◌≡◌, arith}
use Rattle.output.proofs.StretchLaws.{turned_made, last_made, scratch_same}
use Rattle.output.proofs.stretches.next_lines.Goals as goal

pub returns-then-held-2 : goal.returns-then-held-2
returns-then-held-2 c =
    let x = c.args in
    let passed = c.requires.1.passed in
    let all : x.held.now.from ≡ x.held.now.written = omega (arith, c.if-held.false) in
    let turned = c.turn_page-turned in (
      turned_made x.text.now x.held.now turned.result x.out.now _ _ _ _ _ _ _ c.held_lines-then-held-2.result all turned.ensures c.held_lines-then-held-2.ensures,
      turned.ensures.scratch,
    )

pub returns : goal.returns
returns c =
    let x = c.args in
    let q = c.requires in
    let room = q.2 in
    let few = c.put_last.ensures.1 in (
      last_made x.text.now x.held.now x.answers.now x.out.now _ c.put_last.result q.1 c.if-held.false c.if-held-2.false c.put_last.ensures.0 (omega arith),
      scratch_same _ _,
    )
