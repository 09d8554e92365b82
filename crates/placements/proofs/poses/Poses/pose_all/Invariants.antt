use mathlib.Core.Path.{◌≡◌}
use lib.ListN.{get_or}
use Rattle.definitions.specs.Grid.{filled_cells}
use Rattle.definitions.specs.Maps.{map_of, map_grid}
use Rattle.shape.specs.CubicGrids.{grid_of}
use Rattle.shape.specs.Orders.{axis_list}
use Rattle.placements.specs.Poses.{with_poses}
use Rattle.placements.proofs.PoseLaws.{PosedTo}
use Rattle.placements.proofs.poses.Poses.pose_all.Given as goal

-- the grids of the numbers before i are posed, and nothing else is written
abbrev pub invariant-loop-i : goal.invariant-loop-i
invariant-loop-i l = record {
  posed : PosedTo (axis_list l.first l.second l.third) (grid_of l.grid) l.turnings l.self.list l.i;
  written : l.self ≡ with_poses (axis_list l.first l.second l.third) (λ j. filled_cells (map_grid (map_of (get_or l.turnings j 0)) (grid_of l.grid))) l.i l.initial.self;
}
