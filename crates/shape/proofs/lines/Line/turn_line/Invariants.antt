use mathlib.Core.Path.{◌≡◌}
use lib.Seq.{paste}
use Rattle.shape.specs.Lines.{line_of}
use Rattle.shape.proofs.lines.Line.turn_line.Given as goal

abbrev pub invariant-loop-k : goal.invariant-loop-k
invariant-loop-k l = l.out ≡ paste l.initial.out l.at (line_of l.cells l.start l.self) l.k
