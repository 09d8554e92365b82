-- The text up to row r is put at the start of the output, and `end` is the place behind it.
use Rattle.texts.specs.Put.{Put}
use Rattle.dlx.proofs.TextLaws.{text_to}
use Rattle.dlx.proofs.text.write.Given as goal

abbrev pub invariant-loop-r : goal.invariant-loop-r
invariant-loop-r l =
    let s = l.system in
    Put l.fn.output 0 (text_to s.d s.work.now s.chart.now l.r) l.output l.end
