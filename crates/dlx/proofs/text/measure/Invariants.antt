-- The lines of the first row and of the rows before r are counted, and none is longer than the buffer.
use Rattle.std.proofs.Common.{◌≡◌, ◌+◌, ◌*◌, ◌≤◌, length}
use Rattle.dlx.proofs.TextLaws.{text_to}
use Rattle.dlx.proofs.text.measure.Given as goal

abbrev pub invariant-loop-r : goal.invariant-loop-r
invariant-loop-r l =
    let s = l.system in
    (l.length ≡ length (text_to s.d s.work.now s.chart.now l.r)) × (l.length ≤ 4096 * (l.r + 1))
