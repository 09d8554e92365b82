-- `list_kinds` meets its contract. The loop's invariant: the kinds before k stand there. Assumes nothing.
use Prim.Native.Nat.{ℕ, ◌<◌}
use mathlib.Core.Path.{◌≡◌}
use lib.ListN.{length}
use Rattle.rows.proofs.KindListLaws.{KindAt}
use Rattle.rows.proofs.system.list_kinds.Given as goal

abbrev pub invariant-loop-k : goal.invariant-loop-k
invariant-loop-k l =
    let d = l.counted in
    (length l.kinds ≡ length l.initial.kinds)
    × ((j : ℕ) → j < l.k → KindAt d.tray.pieces d.tray.bytes.now d.first d.counts.kinds l.kinds j)
