-- `cell_at` meets its contract: the box has a cell, so no side is 0. Assumes nothing.
use mathlib.Core.Path.{refl}
use Rattle.shape.specs.Coords.{as_sides}
use Rattle.shape.specs.Places.{cell_at}
use Rattle.shape.proofs.PlaceLaws.{filled, cell_in_box}
use Rattle.shape.proofs.cells.cell_at.Goals as goal

pub nonzero_div-result : goal.nonzero_div-result
nonzero_div-result c = (filled (as_sides c.args.s) c.args.i c.requires.1).bc

pub nonzero_div-result-2 : goal.nonzero_div-result-2
nonzero_div-result-2 c = (filled (as_sides c.args.s) c.args.i c.requires.1).c

pub nonzero_rem-result : goal.nonzero_rem-result
nonzero_rem-result c = (filled (as_sides c.args.s) c.args.i c.requires.1).b

pub nonzero_rem-result-2 : goal.nonzero_rem-result-2
nonzero_rem-result-2 c = (filled (as_sides c.args.s) c.args.i c.requires.1).c

pub returns : goal.returns
unfolding cell_at
returns c = (refl, cell_in_box (as_sides c.args.s) c.args.i c.requires.1)
