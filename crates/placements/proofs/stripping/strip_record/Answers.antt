-- `strip_record` meets its contract: the record of the window that `strip_grid` answers stands for the stripped grid. Assumes nothing.
use Rattle.std.proofs.Common.{arith}
use Rattle.shape.specs.Coords.{as_sides}
use Rattle.shape.specs.CubicGrids.{grid_of}
use Rattle.shape.proofs.PlaceLaws.{volume_small}
use Rattle.placements.proofs.StrippingLaws.{strips_record}
use Rattle.placements.proofs.stripping.strip_record.Goals as goal

pub strip_grid-window-requires : goal.strip_grid-window-requires
strip_grid-window-requires c =
    let grid = c.grid_of.result in
    omega (arith, (volume_small (as_sides grid.sides) grid.whole.short).1, c.requires.2)

pub returns : goal.returns
returns c =
    let a = c.args in
    let grid = c.grid_of in
    strips_record a.bytes.now a.r (grid_of grid.result) grid.ensures grid.result.whole.size c.requires.0 c.strip_grid-window.result a.out.now _
    a.start c.strip_grid-window.ensures c.requires.2
