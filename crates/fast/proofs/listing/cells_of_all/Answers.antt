-- `cells_of_all` meets its contract: the cells counted and those of the kinds left make all. Assumes nothing.
use Rattle.std.proofs.Common.{arith}
use Rattle.fast.proofs.ListingLaws.{cells_start, cells_end, cells_next, cells_few}
use Rattle.fast.proofs.listing.cells_of_all.Goals as goal

pub loop-k-preserved : goal.loop-k-preserved
loop-k-preserved c =
    let a = c.args in
    let few = cells_few a.chart.now a.n c.loop-k.k _ _ c.copies_of.ensures.0 c.size_of.ensures.0 c.copies_of.ensures.1 c.size_of.ensures.1 in
    let e = cells_next a.chart.now a.n c.loop-k.k _ _ c.copies_of.ensures.0 c.size_of.ensures.0 (omega arith) in
    (omega arith, omega arith)

pub returns : goal.returns
returns c =
    let a = c.args in
    omega (arith, cells_start a.chart.now a.n, cells_end a.chart.now a.n c.loop-k.k (omega arith))
