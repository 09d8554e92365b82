use Prim.Native.Nat.{ℕ, ◌≤◌, ◌<◌}
use mathlib.Core.Path.{sym, ap, ◌∙◌, subst}
use native.Mathlib.Omega.{arith}
use lib.ListN.{length, get_or}
use Rattle.definitions.specs.Grid.{Cell, place_of}
use Rattle.definitions.specs.Placements.{lies}
use Rattle.masks.specs.Masks.{has, only, either}
use Rattle.masks.proofs.MaskLaws.{cell_taken}
use Rattle.shape.specs.Coords.{as_cell}
use Rattle.placements.specs.Poses.{cell_of, origin_in}
use Rattle.rows.specs.NumberedBoards.{sides_of}
use Rattle.rows.proofs.RowLaws.{mask_start, mask_next, mask_end, landing, numbered_long}
use Rattle.rows.proofs.building.mask_of.Goals as goal

pub loop-k-init : goal.loop-k-init
loop-k-init c =
    let a = c.args in
    let b = a.board.now in
    let number : Cell → ℕ = λ u. get_or b.scans (place_of (sides_of b) (lies (as_cell a.at) (origin_in a.pose.now) u)) 0 in
    let room : a.pose.now.size ≤ length a.pose.now.codes = omega arith in
    mask_start number a.pose.now room (has c.empty-mask.result) c.empty-mask.ensures

-- a filled cell lies on a cell with a number
pub place-requires : goal.place-requires
place-requires c =
    let a = c.args in
    let b = a.board.now in
    let room : a.pose.now.size ≤ length a.pose.now.codes = omega arith in
    let landed = landing (sides_of b) b.scans (as_cell a.at) (origin_in a.pose.now) a.pose.now room c.requires.landing
    c.loop-k.k (omega arith) c.lies_at-u.ensures c.origin-o.ensures.0 c.cell_at.ensures.0 in
    (b.planned.grid.whole.short, landed.0)

pub bounds-board-place : goal.bounds-board-place
bounds-board-place c = omega (arith, numbered_long _ _ _ c.args.board.now.numbered, c.place.ensures.1)

pub loop-k-preserved : goal.loop-k-preserved
loop-k-preserved c =
    let a = c.args in
    let b = a.board.now in
    let l = c.loop-k in
    let number : Cell → ℕ = λ u. get_or b.scans (place_of (sides_of b) (lies (as_cell a.at) (origin_in a.pose.now) u)) 0 in
    let room : a.pose.now.size ≤ length a.pose.now.codes = omega arith in
    let landed = landing (sides_of b) b.scans (as_cell a.at) (origin_in a.pose.now) a.pose.now room c.requires.landing
    l.k (omega arith) c.lies_at-u.ensures c.origin-o.ensures.0 c.cell_at.ensures.0 in
    let numbered = subst (λ (n : ℕ). get_or b.scans n 0 < 128) (sym c.place.ensures.0) landed.1 in
    mask_next (λ n. number (cell_of (get_or a.pose.now.codes n 0))) (has l.mask) l.k a.pose.now.size (has c.with_cell-mask.result) (omega arith)
    (c.with_cell-mask.ensures ∙ cell_taken _ _ _ numbered
    ∙ ap (λ (n : ℕ). either (has l.mask) (only (get_or b.scans n 0))) (c.place.ensures.0 ∙ ap (place_of (sides_of b)) landed.2))
    ∙ l.invariant

pub returns : goal.returns
returns c =
    let a = c.args in
    let b = a.board.now in
    let l = c.loop-k in
    let number : Cell → ℕ = λ u. get_or b.scans (place_of (sides_of b) (lies (as_cell a.at) (origin_in a.pose.now) u)) 0 in
    sym (mask_end (λ n. number (cell_of (get_or a.pose.now.codes n 0))) (has l.mask) l.k a.pose.now.size (omega arith)) ∙ l.invariant
