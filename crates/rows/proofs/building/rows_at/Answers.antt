use Prim.Native.Nat.{ℕ, ◌+◌, ◌≤◌, ◌<◌}
use mathlib.Core.Bool.{Bool, true}
use mathlib.Core.List.{List, [], ◌∷◌}
use mathlib.Core.Path.{◌≡◌, refl, sym, ap, ◌∙◌, subst}
use native.Mathlib.Omega.{arith}
use lib.Dec.{T}
use lib.ListN.{length, get_or, take}
use Rattle.lists.proofs.TestLaws.{holds}
use Rattle.definitions.specs.Grid.{Cell, Grid}
use Rattle.definitions.specs.Scan.{scan}
use Rattle.definitions.specs.Placements.{Placement, fits}
use Rattle.shape.specs.Coords.{as_cell}
use Rattle.placements.specs.declared.poses.Pose.{Pose}
use Rattle.placements.specs.Poses.{Stands, cells_in, origin_in, variant_in, no_pose}
use Rattle.placements.specs.Fitting.{fits_on, fits_pose}
use Rattle.placements.proofs.FittingLaws.{fits_variant, stands_at}
use Rattle.rows.specs.NumberedBoards.{board_of, order_of}
use Rattle.rows.specs.declared.board.NumberedBoard.{NumberedBoard}
use Rattle.rows.proofs.RowLaws.{reached_start, reached_one, reached_same, reached_all, reached_room, numbered_order}
use Rattle.rows.proofs.RowLaws.{fit_reaches, fit_lands, spread_is, placed, left_at, left_start, left_hit, left_miss, left_end}
use Rattle.rows.proofs.building.rows_at.Goals as goal
use Rattle.rows.proofs.building.rows_at.Goals.{In-loop-pose, else-fits_pose, then-fits_pose}

-- whether a variant fits, and that a variant that fits lies on cells of the board
variant_fits : (b : NumberedBoard) (pose : Pose) (at : Cell) → Stands (order_of b) pose → (found : Bool)
    → found ≡ fits_pose (board_of b) at pose → fits (scan (order_of b) (board_of b)) at (variant_in (order_of b) pose) ≡ found
variant_fits b pose at stands found e =
    fits_variant (order_of b) (numbered_order (order_of b) (board_of b) b.scans b.numbered) (board_of b) at pose stands ∙ sym e

fit : (g : Grid) (at : Cell) (pose : Pose) → fits_pose g at pose ≡ true → T (fits_on g at (origin_in pose) (cells_in pose))
unfolding fits_pose
fit g at pose e = holds _ e

pub loop-pose-init : goal.loop-pose-init
loop-pose-init c =
    let a = c.args in
    let b = a.board.now in
    (refl, omega arith, reached_start a.work.now a.r _ _ (left_start (order_of b) (board_of b) a.kind a.p (as_cell a.at) a.poses.now))

pub as_slice-pose-items-requires : goal.as_slice-pose-items-requires
as_slice-pose-items-requires c = c.requires.cell.1.few

-- of a turn: the variant, which stands there, and its number among the poses
abbrev here : (c : In-loop-pose) → Pose
here c = get_or c.as_slice-pose-items.result.now c.loop-pose.pose-index no_pose

turn : (c : In-loop-pose) → c.loop-pose.pose-index < length (take c.args.poses.now.count c.args.poses.now.list)
turn c = subst (λ (ps : List Pose). c.loop-pose.pose-index < length ps) c.as_slice-pose-items.ensures c.loop-pose-test.true

is_here : (c : In-loop-pose) → here c ≡ get_or (take c.args.poses.now.count c.args.poses.now.list) c.loop-pose.pose-index no_pose
is_here c = ap (λ (ps : List Pose). get_or ps c.loop-pose.pose-index no_pose) c.as_slice-pose-items.ensures

stands_here : (c : In-loop-pose) → Stands (order_of c.args.board.now) (here c)
stands_here c =
    subst (Stands (order_of c.args.board.now)) (sym (is_here c))
    (stands_at (order_of c.args.board.now) c.args.poses.now c.requires.cell.1 c.loop-pose.pose-index (turn c))

pub fits_pose-requires : goal.fits_pose-requires
fits_pose-requires c = (c.requires.cell.0, (stands_here (goal.at.fits_pose-requires c).In-loop-pose).small)

pub mask_of-requires-clause-cell : goal.mask_of-requires-clause-cell
mask_of-requires-clause-cell c =
    let a = c.args in
    let t = (goal.at.mask_of-requires-clause-cell c).In-loop-pose in
    let ok = fit (board_of a.board.now) (as_cell a.at) (here t) (sym c.fits_pose.ensures ∙ c.if-fits_pose.true) in
    (c.requires.cell.0, (stands_here t).small, fit_reaches _ _ _ a.board.now.numbered _ _ _ ok)

pub mask_of-requires-clause-landing : goal.mask_of-requires-clause-landing
mask_of-requires-clause-landing c =
    let a = c.args in
    let t = (goal.at.mask_of-requires-clause-landing c).In-loop-pose in
    fit_lands _ _ _ a.board.now.numbered _ _ _ (fit (board_of a.board.now) (as_cell a.at) (here t) (sym c.fits_pose.ensures ∙ c.if-fits_pose.true))

-- there is room for the row of a variant that fits
pub write_row-requires : goal.write_row-requires
write_row-requires c =
    let a = c.args in
    let l = c.loop-pose in
    let t = (goal.at.write_row-requires c).In-loop-pose in
    let o = order_of a.board.now in
    let g = board_of a.board.now in
    let at = as_cell a.at in
    let i = l.pose-index in
    let listed = take a.poses.now.count a.poses.now.list in
    let fits = variant_fits a.board.now (here t) at (stands_here t) _ c.fits_pose.ensures in
    let room = reached_room l.invariant.2 (length a.work.now) c.requires.room
    (placed o g a.kind a.p at l.j (variant_in o (here t)) ∷ []) (left_at o g a.kind a.p at listed (l.j + 1) (i + 1))
    (left_hit o g a.kind a.p at listed l.j i (here t) (turn t) (is_here t) (fits ∙ c.if-fits_pose.true)) in
    omega (arith, room)

pub loop-pose-preserved : goal.loop-pose-preserved
unfolding variant_in
loop-pose-preserved c =
    let a = c.args in
    let l = c.loop-pose in
    let q = c.requires.cell in
    let t = (goal.at.loop-pose-preserved c).In-loop-pose in
    let b = a.board.now in
    let o = order_of b in
    let g = board_of b in
    let at = as_cell a.at in
    let i = l.pose-index in
    let listed = take a.poses.now.count a.poses.now.list in
    let left : ℕ → List Placement = λ j. left_at o g a.kind a.p at listed j (i + 1) in
    let fits = variant_fits b (here t) at (stands_here t) _ c.fits_pose.ensures in
    elim c.if-fits_pose.branch [
      | then-fits_pose w ↦
          let more : c.if-fits_pose.j ≡ l.j + 1 = w.j-is in
          let ok = fit g at (here t) (sym c.fits_pose.ensures ∙ w.if-fits_pose.true) in (
            ap length w.work-is ∙ w.write_row.auto.work ∙ l.invariant.0,
            omega (arith, more, l.invariant.1),
            reached_one l.j l.invariant.2 left c.if-fits_pose.work c.if-fits_pose.j (placed o g a.kind a.p at l.j (variant_in o (here t))) _ _
                (left_hit o g a.kind a.p at listed l.j i (here t) (turn t) (is_here t) (fits ∙ w.if-fits_pose.true))
                (spread_is o g b.scans b.numbered at (origin_in (here t)) (cells_in (here t)) ok w.mask_of.result a.kind a.p l.j
                (stands_here t).origin_is w.mask_of.ensures)
                w.write_row.ensures w.work-is w.j-is,
          )
      | else-fits_pose w ↦
          let same : c.if-fits_pose.j ≡ l.j = w.j-is in (
            ap length w.work-is ∙ l.invariant.0,
            omega (arith, same, l.invariant.1),
            reached_same l.j l.invariant.2 left c.if-fits_pose.work c.if-fits_pose.j
                (left_miss o g a.kind a.p at listed l.j i (here t) (turn t) (is_here t) (fits ∙ w.if-fits_pose.false)) w.work-is w.j-is,
          )
    ]

pub returns : goal.returns
returns c =
    let a = c.args in
    let l = c.loop-pose in
    let listed = take a.poses.now.count a.poses.now.list in
    let end : length listed ≤ l.pose-index = subst (λ (ps : List Pose). length ps ≤ l.pose-index) c.as_slice-pose-items.ensures c.loop-pose-test.false in
    reached_all l.invariant.2 (left_end (order_of a.board.now) (board_of a.board.now) a.kind a.p (as_cell a.at) listed l.j l.pose-index end)
