-- `show_scan` meets its contract: a grid that is whole has at most 512 cells, the length of the array, which holds all the places. Assumes nothing.
use Rattle.shape.specs.Coords.{as_sides}
use Rattle.shape.proofs.PlaceLaws.{volume_small}
use Rattle.show_shapes.proofs.show_scan.Goals as goal

pub plan_coords-n-requires : goal.plan_coords-n-requires
plan_coords-n-requires g c = let grid = c.args.grid.now in (volume_small (as_sides grid.sides) grid.whole.short).1
