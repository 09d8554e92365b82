-- `Map::sides` meets its contract: each side is picked by the axis in the table. Assumes nothing.
use mathlib.Core.Path.{ap, ◌∙◌}
use Rattle.definitions.specs.Maps.{Map, map_sides}
use Rattle.shape.specs.Coords.{as_sides, as_map}
use Rattle.shape.proofs.MapTableLaws.{sides_path}
use Rattle.shape.proofs.maps.Map.sides.Goals as goal

pub returns : goal.returns
unfolding map_sides
returns c =
    let s = as_sides c.args.s in
    let e = c.axes_of-e in
    sides_path {t = map_sides (as_map e.result) s} c.pick.ensures.of_sides c.pick-2.ensures.of_sides c.pick-3.ensures.of_sides
    ∙ ap (λ (m : Map). map_sides m s) e.ensures
