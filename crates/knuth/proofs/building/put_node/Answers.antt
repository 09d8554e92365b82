-- `put_node` meets its contract: four stores, one into each of the node's fields. Assumes nothing.
use native.Mathlib.Omega.{arith}
use Rattle.knuth.proofs.LaidLaws.{laid_one}
use Rattle.knuth.proofs.building.put_node.Goals as goal

pub returns : goal.returns
returns c =
    let a = c.args in
    let n = a.node in
    rw (c.set-4.ensures, c.set-3.ensures, c.set-2.ensures, c.set.ensures)
    (laid_one a.links.now a.x n.column n.first n.end n.row (omega arith) c.requires.0)
