-- `put_copies` meets its contract. The loop's invariant: the copies of the columns before j are written. Assumes nothing.
use Prim.Native.Nat.{◌<◌}
use mathlib.Core.Path.{ap, ◌∙◌}
use native.Mathlib.Omega.{arith}
use lib.ListN.{length, length-set}
use Rattle.links.specs.Links.{at_copies}
use Rattle.knuth.proofs.LaidLaws.{stock_cell, stock_kind, stock_all}
use Rattle.knuth.proofs.building.put_copies.Goals as goal
use Rattle.knuth.proofs.building.put_copies.Goals.{then-j-d, else-j-d}

pub loop-j-preserved : goal.loop-j-preserved
loop-j-preserved c =
    let a = c.args in
    let l = c.loop-j in
    let h : at_copies l.j < length l.links = omega (arith, length-set l.links (at_copies l.j) c.if-j-d.copies, ap length c.set.ensures, c.set.array_long) in
    rw c.set.ensures (elim c.if-j-d.branch [
      | then-j-d w ↦ stock_cell a.links.now l.links a.system.now.d.size l.j c.if-j-d.copies a.system.now.chart.now l.invariant h w.if-j-d.true w.copies-is
      | else-j-d w ↦
          stock_kind a.links.now l.links a.system.now.d.size l.j c.if-j-d.copies a.system.now.chart.now l.invariant h w.if-j-d.false (w.copies-is ∙ w.copies_of-copies.ensures.0)
    ])

pub returns : goal.returns
returns c =
    let a = c.args in
    let l = c.loop-j in
    stock_all a.links.now l.links a.system.now.d.size a.system.now.d.kinds l.j a.system.now.chart.now (omega arith) l.invariant
