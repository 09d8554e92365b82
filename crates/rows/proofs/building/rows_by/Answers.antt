use Prim.Native.Nat.{ℕ, ◌+◌, ◌*◌, ◌≤◌}
use mathlib.Core.List.{List, map}
use mathlib.Core.Path.{refl, sym, ◌∙◌, subst}
use native.Mathlib.Omega.{arith}
use lib.ListN.{length}
use Rattle.definitions.specs.Grid.{Cell}
use Rattle.definitions.specs.Scan.{scan}
use Rattle.definitions.specs.Placements.{placements_at}
use Rattle.shape.specs.Coords.{as_cell}
use Rattle.shape.specs.CubicGrids.{grid_of}
use Rattle.shape.specs.Variants.{turned_by}
use Rattle.placements.specs.Poses.{variants_in}
use Rattle.placements.proofs.PoseLaws.{posed_make}
use Rattle.rows.specs.NumberedBoards.{board_of, order_of}
use Rattle.rows.specs.Rows.{Appended, spread}
use Rattle.rows.proofs.RowLaws.{reached_more, reached_all, reached_room, left_cell, left_cells_end}
use Rattle.rows.proofs.building.rows_by.Goals as goal
use Rattle.rows.proofs.building.rows_by.Invariants.{left_by, placements}

pub rows_at-t-requires-clause-room : goal.rows_at-t-requires-clause-room
rows_at-t-requires-clause-room c =
    let a = c.args in
    let b = a.board.now in
    let l = c.loop-p in
    let o = order_of b in
    let g = board_of b in
    let poses = c.pose_all.new.self in
    let vs = variants_in o poses in
    let here = placements_at (scan o g) a.kind vs l.p (as_cell c.cell_at-at.result) in
    let made = posed_make o o (turned_by (grid_of a.piece.now) a.turnings.now) poses refl c.pose_all.ensures.0 in
    let room = subst (λ (us : List (List Cell)). 8 * (a.r + length (placements o g a.kind us)) ≤ length a.work.now) (sym made) c.requires.room in
    let left_is = left_cell o g b.planned.places.now (length b.planned.places.now) b.planned.on_board a.kind vs l.p (as_cell c.cell_at-at.result)
    (omega arith) c.cell_at-at.ensures.0 in
    subst (λ (m : ℕ). 8 * (l.t + length here) ≤ m) (sym l.invariant.0)
    (reached_room l.invariant.1 (length a.work.now) room here (left_by o g a.kind vs (l.p + 1)) left_is)

pub loop-p-preserved : goal.loop-p-preserved
loop-p-preserved c =
    let a = c.args in
    let b = a.board.now in
    let l = c.loop-p in
    let o = order_of b in
    let g = board_of b in
    let vs = variants_in o c.pose_all.new.self in
    let left_is = left_cell o g b.planned.places.now (length b.planned.places.now) b.planned.on_board a.kind vs l.p (as_cell c.cell_at-at.result)
    (omega arith) c.cell_at-at.ensures.0 in (
      c.rows_at-t.auto.work ∙ l.invariant.0,
      reached_more l.invariant.1 (placements_at (scan o g) a.kind vs l.p (as_cell c.cell_at-at.result)) (left_by o g a.kind vs (l.p + 1)) left_is
          c.rows_at-t.ensures,
    )

pub returns : goal.returns
returns c =
    let a = c.args in
    let b = a.board.now in
    let l = c.loop-p in
    let o = order_of b in
    let g = board_of b in
    let poses = c.pose_all.new.self in
    let made = posed_make o o (turned_by (grid_of a.piece.now) a.turnings.now) poses refl c.pose_all.ensures.0 in
    subst (λ (us : List (List Cell)). Appended a.work.now a.r l.work l.t (map spread (placements o g a.kind us))) made
    (reached_all l.invariant.1
    (left_cells_end o g b.planned.places.now (length b.planned.places.now) b.planned.on_board a.kind (variants_in o poses) l.p (omega arith)))
