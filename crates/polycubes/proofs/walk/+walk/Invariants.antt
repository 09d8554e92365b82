use Rattle.std.proofs.Common.{◌-◌}
use Rattle.definitions.specs.Grid.{volume}
use Rattle.shape.specs.Coords.{as_sides}
use Rattle.polycubes.proofs.walk.+walk.Given as goal

-- the cells that are left
abbrev pub decreases-walk : goal.decreases-walk
decreases-walk l = volume (as_sides l.sides) - l.i
