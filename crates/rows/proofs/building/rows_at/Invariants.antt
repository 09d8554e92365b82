-- `rows::building::rows_at` meets its contract. The loop's invariant: the rows written and the placements of the variants left make all. Assumes nothing.
use Prim.Native.Nat.{◌+◌, ◌≤◌}
use mathlib.Core.Path.{◌≡◌}
use lib.ListN.{length, take}
use Rattle.definitions.specs.Scan.{scan}
use Rattle.definitions.specs.Placements.{placements_at}
use Rattle.shape.specs.Coords.{as_cell}
use Rattle.placements.specs.Poses.{variants_in}
use Rattle.rows.specs.NumberedBoards.{board_of, order_of}
use Rattle.rows.proofs.RowLaws.{Reached, left_at}
use Rattle.rows.proofs.building.rows_at.Given as goal

abbrev pub invariant-loop-pose : goal.invariant-loop-pose
invariant-loop-pose l =
    let o = order_of l.board in
    let g = board_of l.board in
    let i = l.pose-index in
    (length l.work ≡ length l.initial.work) × (l.j ≤ i)
    × Reached l.initial.work l.r l.work (l.r + l.j) (left_at o g l.kind l.p (as_cell l.at) (take l.poses.count l.poses.list) l.j i)
    (placements_at (scan o g) l.kind (variants_in o l.poses) l.p (as_cell l.at))
