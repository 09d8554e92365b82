-- `placements::fitting::fits_pose` meets its contract: an origin that reaches too far, or the test's answer. Assumes nothing.
use Rattle.std.proofs.Common.{◌∙◌, sym, ap}
use Rattle.definitions.specs.Placements.{reaches}
use Rattle.shape.specs.Coords.{as_cell}
use Rattle.shape.specs.CubicGrids.{grid_of}
use Rattle.placements.proofs.FittingLaws.{fits_not}
use Rattle.placements.proofs.fitting.fits_pose.Goals as goal

pub returns-then-not-does_reach : goal.returns-then-not-does_reach
returns-then-not-does_reach c =
    let a = c.args in
    fits_not (grid_of a.board.now) (as_cell a.at) a.pose.now
    (ap (reaches (as_cell a.at)) (sym c.origin.ensures.0) ∙ sym c.does_reach.ensures ∙ c.if-not-does_reach.true)
