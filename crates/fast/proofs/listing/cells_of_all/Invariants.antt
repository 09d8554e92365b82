use Rattle.std.proofs.Common.{◌+◌, ◌*◌, ◌≤◌, ◌≡◌}
use Rattle.fast.proofs.ListingLaws.{cells_from}
use Rattle.fast.proofs.listing.cells_of_all.Given as goal

-- those counted and those of the kinds from k on make all
abbrev pub invariant-loop-k : goal.invariant-loop-k
invariant-loop-k l =
    (l.cells ≤ l.k * 16711425) × (l.cells + cells_from l.chart l.n l.k ≡ cells_from l.chart l.n 0)
