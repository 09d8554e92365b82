-- `copy_part` meets its contract. The loop's invariant: the bytes of the part's first j cells are written. Assumes nothing.
use mathlib.Core.Path.{sym, ap, ◌∙◌, subst}
use native.Mathlib.Omega.{arith}
use Rattle.definitions.specs.Grid.{byte_at, set_down, InBox}
use Rattle.shape.specs.Coords.{as_sides, as_cell}
use Rattle.shape.specs.CubicGrids.{grid_of}
use Rattle.shape.proofs.StrippingLaws.{part_in_box, part_next}
use Rattle.shape.proofs.stripping.copy_part.Goals as goal

pub get-requires : goal.get-requires
get-requires c =
    let a = c.args in
    subst (InBox (grid_of a.grid.now).sides) (sym c.set_down.ensures)
    (part_in_box (grid_of a.grid.now).sides (as_sides a.part.sides) (as_cell a.part.at) (as_cell c.cell_at-u.result) c.requires.0 c.cell_at-u.ensures.1)

pub loop-j-preserved : goal.loop-j-preserved
loop-j-preserved c =
    let a = c.args in
    let l = c.loop-j in
    let g = grid_of a.grid.now in
    let at = as_cell a.part.at in
    part_next g at (as_sides a.part.sides) a.out.now l.out a.start l.j c.get.result c.requires.1 (omega arith) l.invariant
    (c.get.ensures ∙ ap (byte_at g) (c.set_down.ensures ∙ ap (set_down at) c.cell_at-u.ensures.0))
