-- `cell_images` meets its contract. The loop's invariant: the images of the first i cells are written. Assumes nothing.
use native.Mathlib.Omega.{arith}
use borrow.Author.Rules.{rules}
use lib.ListN.{length}
use Rattle.definitions.specs.Maps.{map_of}
use Rattle.rows.specs.Boards.{CanMove}
use Rattle.rows.specs.NumberedBoards.{board_of, sides_of, order_of}
use Rattle.rows.specs.declared.board.NumberedBoard.{NumberedBoard}
use Rattle.rows.proofs.PictureLaws.{can_move, images_next}
use Rattle.rows.proofs.images.cell_images.Goals as goal

-- the board's cells can be moved
movable : (b : NumberedBoard) → let places = b.planned.places.now in CanMove (sides_of b) places b.scans (length places)
movable b =
    let places = b.planned.places.now in
    can_move (order_of b) (board_of b) places b.scans (length places) b.planned.on_board b.numbered b.planned.grid.whole.short

pub bounds-board-j : goal.bounds-board-j
bounds-board-j c = omega (arith, (movable c.args.board.now).enough)

pub loop-i-preserved : goal.loop-i-preserved
loop-i-preserved c =
    let a = c.args in
    let b = a.board.now in
    let places = b.planned.places.now in
    let l = c.loop-i in (
      search rules,
      images_next (sides_of b) (map_of a.m.0) places b.scans (length places) (omega arith) a.images.now a.start l.i c.image_index-j.result c.requires
          (omega arith) c.image_index-j.ensures.0 l.images l.invariant.1,
    )
