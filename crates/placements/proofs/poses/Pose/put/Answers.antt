-- `put` meets its contract: the codes of the filled cells, and that of their first. Assumes nothing.
use Rattle.std.proofs.Common.{◌≡◌, length, arith}
use Rattle.shape.specs.Coords.{as_sides}
use Rattle.shape.specs.Grids.{as_grid}
use Rattle.shape.specs.Orders.{axis_list}
use Rattle.shape.proofs.PlaceLaws.{volume_small}
use Rattle.placements.proofs.PoseLaws.{pose_of, pose_written}
use Rattle.placements.proofs.poses.Pose.put.Goals as goal

pub list_filled-self-requires : goal.list_filled-self-requires
list_filled-self-requires c = (c.requires.0, c.requires.1, omega (arith, (volume_small (as_sides c.args.s) c.requires.0).1))

pub returns : goal.returns
returns c =
    let a = c.args in
    let g = as_grid a.s a.cells.now in
    let l = c.list_filled-self in
    let long : length a.self.now.codes ≡ 512 = omega arith in (
      pose_of (axis_list a.first a.second a.third) g c.requires.0 a.self.now long l.result l.ensures.0 l.new.codes l.ensures.1 c.first_of-self.result c.first_of-self.ensures,
      pose_written (axis_list a.first a.second a.third) g c.requires.0 a.self.now long l.result l.ensures.0 l.new.codes l.ensures.1 c.first_of-self.result c.first_of-self.ensures,
    )
