-- `Map::cell` meets its contract: each coordinate is taken by the axis and the flip in the table. Assumes nothing.
use mathlib.Core.Path.{ap, ◌∙◌}
use Rattle.definitions.specs.Maps.{Map, map_cell}
use Rattle.theorems.proofs.MapLaws.{cell_path}
use Rattle.shape.specs.Coords.{as_sides, as_cell, as_map}
use Rattle.shape.proofs.maps.Map.cell.Goals as goal

pub returns : goal.returns
unfolding map_cell
returns c =
    let k = c.args in
    let e = c.axes_of-e in
    cell_path {v = map_cell (as_map e.result) (as_sides k.s) (as_cell k.u)} c.along.ensures c.along-2.ensures c.along-3.ensures
    ∙ ap (λ (m : Map). map_cell m (as_sides k.s) (as_cell k.u)) e.ensures
