-- `volume_of` meets its contract: the sides fit, so the box of these sides is no larger than it may be. Assumes nothing.
use Rattle.std.proofs.Common.{◌∙◌, sym, ap, subst}
use Rattle.definitions.specs.Grid.{volume}
use Rattle.shape.specs.Coords.{as_sides, ShortSides}
use Rattle.shape.proofs.GridTestLaws.{short_cells}
use Rattle.placements.proofs.RefusalLaws.{sides_small}
use Rattle.placements.proofs.records.volume_of.Goals as goal

pub returns : goal.returns
returns c =
    let is = c.sides_of.ensures in
    let short = subst ShortSides (sym is) (sides_small c.args.r c.requires) in
    (c.volume_of.ensures.0 ∙ short_cells (as_sides c.sides_of.result) short ∙ ap volume is, c.volume_of.ensures.1)
