-- `turn_layer` meets its contract. The loop's invariant: the cells of the first j lines are written. Assumes nothing.
use Prim.Native.Nat.{ℕ, ◌+◌}
use mathlib.Core.Path.{ap}
use native.Mathlib.Omega.{arith}
use Rattle.shape.proofs.LineLaws.{layer_next}
use Rattle.shape.proofs.lines.Line.turn_layer.Goals as goal

pub loop-j-preserved : goal.loop-j-preserved
loop-j-preserved c =
    let a = c.args in
    let l = c.loop-j in
    layer_next a.cells.now a.start a.self a.z a.out.now l.out _ a.at l.j (a.start + c.step_to.result) c.requires.2 (omega arith) l.invariant
    (ap (λ (p : ℕ). a.start + p) c.step_to.ensures.0) c.turn_line.ensures
