-- `placements::poses::list_filled` meets its contract. The loop's invariant: the codes of the filled cells passed stand there (`ListedTo`). Assumes nothing.
use Rattle.std.proofs.Common.{◌≤◌, ◌<◌, ◌≡◌, ◌∙◌, refl, sym, take, length, get_or, arith}
use lib.Seq.{get_or-take}
use Rattle.std.proofs.lemmas.List.{length-take}
use Rattle.definitions.specs.Grid.{InBox, volume}
use Rattle.shape.specs.Coords.{as_sides, as_cell}
use Rattle.shape.specs.Grids.{as_grid}
use Rattle.shape.proofs.GridTestLaws.{short_cells}
use Rattle.placements.proofs.PoseLaws.{listed_none, listed_in, listed_yes, listed_no, listed_all}
use Rattle.placements.proofs.poses.list_filled.Goals as goal
use Rattle.placements.proofs.poses.list_filled.Goals.{After-volume_of-v, In-loop-cell, then-cell-eq1, else-cell-eq1}

-- the box is small, so its volume is what is counted to; and the codes have room
volume_is : (c : After-volume_of-v) → c.volume_of-v.result ≡ volume (as_sides c.args.s)
volume_is c = c.volume_of-v.ensures.0 ∙ short_cells (as_sides c.args.s) c.requires.0

room : (c : After-volume_of-v) → c.volume_of-v.result ≤ length c.args.codes.now
room c = let is = volume_is c in omega (arith, c.requires.2)

-- of a turn: a cell is left, which lies in the box, and what is read is its byte
turn : (c : In-loop-cell) → c.loop-cell.cell-index < c.volume_of-v.result
turn c = omega (arith, length-take c.volume_of-v.result c.args.cells.now)

byte : (c : In-loop-cell) → get_or (take c.volume_of-v.result c.args.cells.now) c.loop-cell.cell-index 0 ≡ get_or c.args.cells.now c.loop-cell.cell-index 0
byte c = get_or-take c.volume_of-v.result c.args.cells.now c.loop-cell.cell-index 0 (turn c)

inside : (c : In-loop-cell) → c.volume_of-v.result ≡ volume (as_sides c.args.s) → InBox (as_sides c.args.s) (as_cell c.loop-cell.u)
inside c is =
    listed_in (as_grid c.args.s c.args.cells.now) c.args.codes.now _ is (omega (arith, c.requires.2)) _ _ _ _ c.loop-cell.invariant (turn c)

pub loop-cell-init : goal.loop-cell-init
loop-cell-init c =
    let v = (goal.at.loop-cell-init c).After-volume_of-v in
    listed_none (as_grid c.args.s c.args.cells.now) c.args.codes.now _ (volume_is v) (room v) _ refl

pub code_of-requires : goal.code_of-requires
code_of-requires c =
    let at = goal.at.code_of-requires c in
    let b = inside at.In-loop-cell (volume_is at.After-volume_of-v) in
    let f = c.requires.0 in
    (omega arith, omega arith, omega arith)

pub next_cell-u-requires : goal.next_cell-u-requires
next_cell-u-requires c = let at = goal.at.next_cell-u-requires c in (c.requires.0, inside at.In-loop-cell (volume_is at.After-volume_of-v))

pub loop-cell-preserved : goal.loop-cell-preserved
loop-cell-preserved c =
    let z = (goal.at.loop-cell-preserved c).After-volume_of-v in
    let here = (goal.at.loop-cell-preserved c).In-loop-cell in
    let a = c.args in
    let l = c.loop-cell in
    let v = c.volume_of-v.result in
    let g = as_grid a.s a.cells.now in
    let next = c.next_cell-u in
    elim c.if-cell-eq1.branch [
      | then-cell-eq1 w ↦ rw (w.codes-is, w.n-is) (
          listed_yes g a.codes.now v (volume_is z) (room z) l.codes (as_cell l.u) l.n l.cell-index l.invariant (turn here) (sym (byte here) ∙ w.if-cell-eq1.true)
          (as_cell next.result) next.ensures w.code_of.result w.code_of.ensures
          )
      | else-cell-eq1 w ↦ rw (w.codes-is, w.n-is) (
          listed_no g a.codes.now v (volume_is z) (room z) l.codes (as_cell l.u) l.n l.cell-index l.invariant (turn here)
          (λ e. w.if-cell-eq1.false (byte here ∙ e))
          (as_cell next.result) next.ensures
          )
    ]

pub returns : goal.returns
returns c =
    let v = (goal.at.returns c).After-volume_of-v in
    let l = c.loop-cell in
    listed_all (as_grid c.args.s c.args.cells.now) c.args.codes.now _ (volume_is v) (room v) _ _ _ _ l.invariant
    (omega (arith, c.loop-cell-test.false, length-take c.volume_of-v.result c.args.cells.now, c.requires.1, volume_is v))
