-- `rows::building::build_rows` meets its contract. The loop's invariant: the rows written and the placements of the kinds from k on make all. Assumes nothing.
use Prim.Native.Nat.{ℕ}
use mathlib.Core.List.{List}
use mathlib.Core.Path.{◌≡◌}
use lib.ListN.{length}
use Rattle.definitions.specs.Placements.{Placement}
use Rattle.rows.specs.NumberedBoards.{board_of, order_of}
use Rattle.rows.proofs.RowLaws.{Reached}
use Rattle.rows.proofs.BuildLaws.{left_from}
use Rattle.rows.proofs.building.build_rows.Given as goal

abbrev pub invariant-loop-k : goal.invariant-loop-k
invariant-loop-k l =
    let t = l.counted.tray in
    let left : ℕ → List Placement = left_from (order_of l.board) (board_of l.board) t.pieces t.bytes.now l.counted.first l.counted.counts.kinds in
    (length l.work ≡ length l.initial.work) × Reached l.initial.work 0 l.work l.r (left l.k) (left 0)
