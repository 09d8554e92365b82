-- The entry numbers are used up, or the listing goes on. Assumes nothing.
use Rattle.output.proofs.StretchLaws.{held_last, held_on}
use Rattle.output.proofs.stretches.held_lines.Goals as goal

pub returns-then-base-next : goal.returns-then-base-next
returns-then-base-next c =
    let x = c.args in
    held_last x.text.now x.held.now x.answers.now x.out.now _ c.requires.0 c.end_of-end.result c.end_of-end.ensures.0 c.end_of-end.ensures.1 c.put_lines-made.result c.put_lines-made.ensures c.if-base-next.true

pub returns : goal.returns
returns c =
    let x = c.args in
    held_on x.text.now x.held.now x.answers.now x.out.now _ c.requires.0 c.end_of-end.result c.end_of-end.ensures.0 c.end_of-end.ensures.1 c.put_lines-made.result c.put_lines-made.ensures c.if-base-next.false
