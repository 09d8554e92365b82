-- `rows::building::rows_by` meets its contract. The loop's invariant: the rows written and the placements at the cells from p on make all. Assumes nothing.
use Prim.Native.Nat.{ℕ}
use mathlib.Core.List.{List}
use mathlib.Core.Path.{◌≡◌}
use lib.ListN.{length, drop}
use Rattle.lists.specs.Lists.{joined, numbered, numbered_from}
use Rattle.definitions.specs.Grid.{Cell, Grid}
use Rattle.definitions.specs.Scan.{scan}
use Rattle.definitions.specs.Placements.{Placement, placements_at}
use Rattle.placements.specs.Poses.{variants_in}
use Rattle.rows.specs.NumberedBoards.{board_of, order_of}
use Rattle.rows.proofs.RowLaws.{Reached}
use Rattle.rows.proofs.building.rows_by.Given as goal

-- the placements of variants on a board, and what is left of them from cell p on
abbrev pub placements : List ℕ → Grid → ℕ → List (List Cell) → List Placement
placements order g kind vs = joined (numbered (scan order g) (placements_at (scan order g) kind vs))

abbrev pub left_by : List ℕ → Grid → ℕ → List (List Cell) → ℕ → List Placement
left_by order g kind vs p = joined (numbered_from p (drop p (scan order g)) (placements_at (scan order g) kind vs))

abbrev pub invariant-loop-p : goal.invariant-loop-p
invariant-loop-p l =
    let o = order_of l.board in
    let g = board_of l.board in
    let vs = variants_in o l.poses in
    (length l.work ≡ length l.initial.work) × Reached l.initial.work l.r l.work l.t (left_by o g l.kind vs l.p) (placements o g l.kind vs)
