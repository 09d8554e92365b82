-- `strip_grid` meets its contract: the part that it copies is the stripped grid. Assumes nothing.
use native.Mathlib.Omega.{arith}
use Rattle.shape.specs.CubicGrids.{grid_of}
use Rattle.shape.proofs.StrippingLaws.{part_within, part_volume, part_bytes}
use Rattle.shape.proofs.stripping.strip_grid.Goals as goal

pub copy_part-requires : goal.copy_part-requires
copy_part-requires c =
    let g = grid_of c.args.grid.now in
    let e = c.window_of-part.ensures in
    (part_within g e.0 e.1, omega (arith, part_volume g e.0 e.1, c.requires))

pub returns : goal.returns
returns c =
    let a = c.args in
    let e = c.window_of-part.ensures in
    record {
      at = e.0;
      sides = e.1;
      cells = part_bytes (grid_of a.grid.now) e.0 e.1 a.grid.now.whole.size a.out.now a.start c.copy_part.ensures;
    }
