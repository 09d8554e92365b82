-- The pieces of the lines passed are read, and what is left is the lines behind them. Assumes nothing.
use Rattle.std.proofs.Common.{arith}
use Rattle.files.specs.Lines.{FirstLine, NoLine}
use Rattle.files.proofs.ReadingLaws.{none_read, count_bound, all_read, one_more}
use Rattle.files.proofs.reading.read_pieces.Goals as goal

pub loop-line-init : goal.loop-line-init
loop-line-init c = none_read c.args.text.now c.args.cells.now c.requires.2 c.empty-pieces.ensures

pub push_record-requires : goal.push_record-requires
push_record-requires c =
    let s : FirstLine c.loop-line.rest.now c.in-Some.line.now c.in-Some.next.now = c.in-Some.ensures in
    omega (arith, count_bound c.loop-line.invariant, s.shorter)

pub loop-line-preserved : goal.loop-line-preserved
loop-line-preserved c =
    let s : FirstLine c.loop-line.rest.now c.in-Some.line.now c.in-Some.next.now = c.in-Some.ensures in
    let p = rw c.unwrap-piece.ensures at c.piece_of.ensures in
    one_more c.loop-line.invariant (omega arith) s c.unwrap-piece.result p.1.0 p.1.1 c.record-entry.ensures c.push_record.ensures c.put_cells-used.ensures

pub returns : goal.returns
returns c =
    let s : NoLine c.loop-line.rest.now = c.in_default.ensures in
    (all_read c.loop-line.invariant s, omega (arith, c.loop-line.invariant.passed))
