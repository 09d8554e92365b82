-- `grid_of` meets its contract: the part of the bytes that begins at the start and has the grid's volume is its cells. Assumes nothing.
use Rattle.std.proofs.Common.{arith}
use Rattle.placements.proofs.RefusalLaws.{cells_end, cells_part, grid_is, grid_whole}
use Rattle.placements.proofs.records.grid_of.Goals as goal

pub overflow_add-end : goal.overflow_add-end
overflow_add-end c = omega (arith, cells_end c.args.bytes.now c.args.r c.requires.1, c.volume_of.ensures.0)

pub slice_bounds-cells-end : goal.slice_bounds-cells-end
slice_bounds-cells-end c = omega (arith, cells_end c.args.bytes.now c.args.r c.requires.1, c.volume_of.ensures.0)

pub invariant_of-result : goal.invariant_of-result
invariant_of-result c =
    let part = cells_part c.args.bytes.now c.args.r _ c.requires.1 c.volume_of.ensures.0 in
    record { whole = grid_whole c.args.bytes.now c.args.r _ _ c.sides_of.ensures c.requires.0 part.1 }

pub returns : goal.returns
returns c =
    let part = cells_part c.args.bytes.now c.args.r _ c.requires.1 c.volume_of.ensures.0 in
    grid_is c.args.bytes.now c.args.r _ _ c.sides_of.ensures part.0
