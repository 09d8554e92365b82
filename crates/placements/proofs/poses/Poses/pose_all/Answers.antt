-- `placements::poses::Poses::pose_all` meets its contract. The loop's invariant: the grids of the numbers before i are posed (`PosedTo`), and nothing else is
-- written (`with_poses`). Assumes nothing.
use Rattle.std.proofs.Common.{ℕ, List, ◌≡◌, ◌∙◌, refl, sym, ap, subst, length, get_or, arith}
use Rattle.definitions.specs.Grid.{Cell, Grid, volume, filled_cells}
use Rattle.definitions.specs.Maps.{map_of, map_grid}
use Rattle.shape.specs.Coords.{as_sides, ShortSides}
use Rattle.shape.specs.Grids.{as_grid}
use Rattle.shape.specs.CubicGrids.{grid_of}
use Rattle.shape.specs.Orders.{axis_list}
use Rattle.shape.proofs.PlaceLaws.{volume_small, mapped_short, map_volume}
use Rattle.placements.specs.declared.poses.Poses.{Poses}
use Rattle.placements.specs.Poses.{with_poses}
use Rattle.placements.proofs.PoseLaws.{PosedTo, turned_filled, posed_none, posed_next, posed_all, poses_none, poses_next}
use Rattle.placements.proofs.poses.Poses.pose_all.Goals as goal

-- the filled cells of the grid that number j makes of a grid
abbrev filled : Grid → List ℕ → ℕ → List Cell
filled g turnings j = filled_cells (map_grid (map_of (get_or turnings j 0)) g)

pub loop-i-init : goal.loop-i-init
loop-i-init c =
    let a = c.args in
    let g = grid_of a.grid.now in
    record {
      posed = posed_none (axis_list a.first a.second a.third) g a.turnings.now a.self.now.list (omega arith);
      written = poses_none (axis_list a.first a.second a.third) (filled g a.turnings.now) a.self.now;
    }

pub turn_into-requires : goal.turn_into-requires
turn_into-requires c = omega (arith, (volume_small (as_sides c.args.grid.now.sides) c.args.grid.now.whole.short).1)

pub put-requires : goal.put-requires
put-requires c =
    let s = as_sides c.args.grid.now.sides in
    let short = c.args.grid.now.whole.short in
    let m = get_or c.args.turnings.now c.loop-i.i 0 in
    let e = c.sides.ensures in (
      subst ShortSides (sym e) (mapped_short (map_of m) s short),
      omega (arith, ap volume e, map_volume m s, (volume_small s short).1, c.turn_into.auto.out),
    )

pub loop-i-preserved : goal.loop-i-preserved
loop-i-preserved c =
    let a = c.args in
    let l = c.loop-i in
    let o = axis_list a.first a.second a.third in
    let g = grid_of a.grid.now in
    let short = a.grid.now.whole.short in
    let bytes = c.turn_into.new.out in
    let h = as_grid c.sides.result bytes in
    let is : filled_cells h ≡ filled g a.turnings.now l.i =
    turned_filled (get_or a.turnings.now l.i 0) g l.turned bytes (as_sides c.sides.result) (omega (arith, (volume_small g.sides short).1))
    c.turn_into.ensures c.sides.ensures in
    record {
      posed = posed_next o g a.turnings.now l.self.list l.i (omega (arith, c.loop-i-test.true, c.requires)) l.invariant.posed h is c.put.new.self c.put.ensures.0;
      written = poses_next o (filled g a.turnings.now) a.self.now l.self l.i l.invariant.written (filled_cells h) is c.put.new.self c.put.ensures.1;
    }

pub returns : goal.returns
returns c =
    let a = c.args in
    let o = axis_list a.first a.second a.third in
    let g = grid_of a.grid.now in
    let ks = a.turnings.now in
    let l = c.loop-i in
    let end : l.i ≡ length ks = omega (arith, c.loop-i-test.false) in (
      posed_all o g ks _ (subst (PosedTo o g ks l.self.list) end l.invariant.posed) c.requires refl,
      ap (λ (p : Poses). record p { count = length ks }) (l.invariant.written ∙ ap (λ (n : ℕ). with_poses o (filled g ks) n a.self.now) end),
    )
