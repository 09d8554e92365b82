-- `list_box` meets its contract: no cell of the box is decided when the walk begins. Assumes nothing.
use mathlib.Core.Path.{◌∙◌}
use Rattle.shape.specs.Coords.{as_sides}
use Rattle.polycubes.proofs.WalkLaws.{whole_box}
use Rattle.polycubes.proofs.walk.list_box.Goals as goal

pub returns : goal.returns
returns c = c.walk.ensures.page ∙ whole_box c.args.n (as_sides c.args.sides) _ _ _
