use Prim.Native.Nat.{ℕ, ◌+◌, ◌<◌}
use mathlib.Core.Path.{◌≡◌}
use lib.ListN.{length, get_or}
use Rattle.shape.specs.CubicGrids.{grid_of}
use Rattle.shape.specs.Scans.{as_order}
use Rattle.placements.specs.Merging.{grid_at}
use Rattle.placements.specs.Counting.{no_turnings, AreVariants}
use Rattle.placements.proofs.CountingLaws.{placements_at_piece, links_at_piece, CountedTo}
use Rattle.placements.proofs.counting.count_kinds.Given as goal

-- what is counted and the counts of the kinds from k on make all, and the variants of the kinds before k stand in the slice
abbrev pub invariant-loop-k : goal.invariant-loop-k
invariant-loop-k l =
    let t = l.tray in
    let o = as_order l.board.order in
    let b = grid_of l.board.grid in
    let n = length l.kinds in
    CountedTo (placements_at_piece o b t.pieces t.bytes.now) (links_at_piece o b t.pieces t.bytes.now) l.kinds n (length l.board.places.now + n) l.k l.placements l.links
    × (length l.turnings ≡ 16) × ((j : ℕ) → j < l.k → AreVariants (grid_at t.pieces t.bytes.now (get_or l.kinds j 0)) (get_or l.turnings j no_turnings))
