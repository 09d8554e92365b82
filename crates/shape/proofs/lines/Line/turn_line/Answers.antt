-- `turn_line` meets its contract. The loop's invariant: the first k cells of the line are written. Assumes nothing.
use Prim.Native.Nat.{ℕ, ◌+◌}
use mathlib.Core.Path.{ap}
use native.Mathlib.Omega.{arith}
use Rattle.shape.proofs.LineLaws.{line_next}
use Rattle.shape.proofs.lines.Line.turn_line.Goals as goal

pub loop-k-preserved : goal.loop-k-preserved
loop-k-preserved c =
    let a = c.args in
    let l = c.loop-k in
    line_next a.cells.now a.start a.self a.out.now l.out a.at l.k (a.start + c.step_to.result) c.requires.1 (omega arith)
    (ap (λ (p : ℕ). a.start + p) c.step_to.ensures.0) l.invariant
