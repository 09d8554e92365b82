-- `list_pieces` meets its contract. The loop's invariant: the kinds and the counts of the pieces before i stand there. Assumes nothing.
use Prim.Native.Nat.{ℕ, ◌<◌}
use mathlib.Core.Path.{◌≡◌}
use lib.ListN.{length, get_or}
use Rattle.rows.specs.Charts.{nothing_owned}
use Rattle.rows.proofs.KindListLaws.{kind_at, count_at}
use Rattle.rows.proofs.system.list_pieces.Given as goal

abbrev pub invariant-loop-i : goal.invariant-loop-i
invariant-loop-i l =
    let d = l.counted in
    let t = d.tray in
    (length l.pieces ≡ length l.initial.pieces)
    × ((j : ℕ) → j < l.i → get_or l.pieces j nothing_owned ≡ record { kind = kind_at t.pieces t.bytes.now d.first d.counts.kinds j; count = count_at t.pieces j })
