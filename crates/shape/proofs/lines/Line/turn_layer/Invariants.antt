use Prim.Native.Nat.{◌*◌}
use mathlib.Core.Path.{◌≡◌}
use lib.Seq.{paste}
use Rattle.shape.specs.Lines.{layer_of}
use Rattle.shape.proofs.lines.Line.turn_layer.Given as goal

abbrev pub invariant-loop-j : goal.invariant-loop-j
invariant-loop-j l = l.out ≡ paste l.initial.out l.at (layer_of l.cells l.start l.self l.z) (l.j * l.z.n)
