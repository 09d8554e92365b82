-- `placements::counting::count_cells` meets its contract. The loop's invariant: what is counted and what fits at the places left make all. Assumes nothing.
use Rattle.std.proofs.Common.{ℕ, List, ◌*◌, ◌≤◌, ◌≡◌, ◌∙◌, sym, ap₂, subst, length, arith}
use Rattle.definitions.specs.Grid.{Cell}
use Rattle.definitions.specs.Scan.{axes}
use Rattle.shape.specs.CubicGrids.{grid_of}
use Rattle.shape.specs.Variants.{turned_by}
use Rattle.shape.specs.Scans.{as_order}
use Rattle.placements.specs.Poses.{variants_in}
use Rattle.placements.proofs.PoseLaws.{posed_make}
use Rattle.placements.proofs.CountingLaws.{sum_from, sum_end, fits_by_places}
use Rattle.placements.proofs.counting.count_cells.Invariants.{fitting}
use Rattle.placements.proofs.counting.count_cells.Goals as goal

pub returns : goal.returns
returns c =
    let b = c.args.board.now in
    let l = c.loop-place in
    let places = b.places.now in
    let on = b.on_board in
    let g = grid_of b.grid in
    let o = axes g.sides in
    let vs = variants_in o c.pose_all.new.self in
    let gs = turned_by (grid_of c.args.piece.now) c.args.turnings.now in
    let end = sum_end (fitting o g vs) places (length places) on.within l.place-index c.loop-place-test.false in
    let all : l.count ≡ sum_from (fitting o g vs) places (length places) 0 = omega (arith, l.invariant.1) in
    let last : l.place-index ≡ length places = omega (arith, c.loop-place-test.false) in
    let are = posed_make (as_order b.order) o gs c.pose_all.new.self on.is_order c.pose_all.ensures.0 in (
      all ∙ ap₂ (λ (o : List ℕ) (vs : List (List Cell)). sum_from (fitting o g vs) places (length places) 0) on.is_order are
          ∙ sym (fits_by_places (as_order b.order) g places (length places) on gs),
      subst (λ (n : ℕ). l.count ≤ length c.args.turnings.now * n) last l.invariant.0,
    )
