-- `board_images` meets its contract. The loop's invariant: where the maps from m on are done too, all are (`DoneTo`). Assumes nothing.
use mathlib.Core.Path.{sym, ap, ◌∙◌}
use native.Mathlib.Omega.{arith}
use borrow.Author.Rules.{rules}
use lib.ListN.{length}
use Rattle.shape.proofs.GridTestLaws.{whole_tells}
use Rattle.rows.specs.NumberedBoards.{board_of, order_of}
use Rattle.rows.proofs.PictureLaws.{done_none, done_hit, done_miss, done_all}
use Rattle.rows.proofs.images.board_images.Goals as goal
use Rattle.rows.proofs.images.board_images.Goals.{else-keeps, then-keeps}

pub loop-m-init : goal.loop-m-init
loop-m-init c =
    let a = c.args in
    let b = a.board.now in
    (search rules, omega arith, done_none (order_of b) (board_of b) (length b.planned.places.now) a.images.now a.n a.start a.end)

pub loop-m-preserved : goal.loop-m-preserved
loop-m-preserved c =
    let l = c.loop-m in
    let a = c.args in
    let b = a.board.now in
    let g = board_of b in
    let size = length b.planned.places.now in
    let keeps = c.keeps.ensures ∙ whole_tells b.planned.grid.sides b.planned.grid.cells.now b.planned.grid.whole _ in
    elim c.if-keeps.branch [
      | then-keeps w ↦ (
        ap length w.images-is ∙ w.cell_images.auto.images ∙ l.invariant.0,
        omega arith,
        done_hit (order_of b) g size a.images.now a.n a.start a.end l.images l.r l.m (omega arith) l.invariant.2 (sym keeps ∙ w.if-keeps.true)
            b.planned.places.now b.scans b.planned.on_board b.numbered (omega arith) _ (w.images-is ∙ w.cell_images.ensures) _ w.r-is,
      )
      | else-keeps w ↦ (
        ap length w.images-is ∙ l.invariant.0,
        omega arith,
        done_miss (order_of b) g size a.images.now a.n a.start a.end l.images l.r l.m (omega arith) l.invariant.2 (sym keeps ∙ w.if-keeps.false)
            _ w.images-is _ w.r-is,
      )
    ]

pub returns : goal.returns
returns c =
    let a = c.args in
    let b = a.board.now in
    let l = c.loop-m in
    done_all (order_of b) (board_of b) (length b.planned.places.now) a.images.now a.n a.start a.end l.images l.r l.m c.loop-m-test.false l.invariant.2
