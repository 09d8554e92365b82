-- `placements::fitting::lies_on` meets its contract: differences that wrap around. Assumes nothing.
use Rattle.std.proofs.Common.{◌∙◌}
use Rattle.shape.specs.Coords.{as_cell}
use Rattle.shape.specs.CubicGrids.{grid_of}
use Rattle.placements.proofs.FitLaws.{lies_wrapped}
use Rattle.placements.proofs.fitting.lies_on.Goals as goal

pub returns : goal.returns
returns c =
    let a = c.args in
    c.is_filled.ensures
    ∙ lies_wrapped (grid_of a.board.now) a.board.now.whole.short (as_cell a.at) (as_cell a.o) (as_cell a.u) c.requires.at c.requires.o c.requires.u
