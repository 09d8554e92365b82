-- `place` meets its contract: the place of a cell of the box is below the number of its cells. Assumes nothing.
use mathlib.Core.Path.{refl}
use Rattle.shape.specs.Coords.{as_sides, as_cell}
use Rattle.shape.proofs.PlaceLaws.{place_lt}
use Rattle.shape.proofs.cells.place.Goals as goal

pub returns : goal.returns
returns c = (refl, place_lt (as_sides c.args.s) (as_cell c.args.u) c.requires.1)
