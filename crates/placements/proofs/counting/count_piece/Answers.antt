-- `placements::counting::count_piece` meets its contract: the map numbers make the grid's variants, at most 24. Assumes nothing.
use Rattle.std.proofs.Common.{◌≤◌, ◌∙◌, ap, take, length, arith}
use native.Mathlib.Nat.{le_trans, mul-le-mul_right}
use Rattle.std.proofs.lemmas.List.{length-take}
use Rattle.shape.specs.CubicGrids.{grid_of}
use Rattle.shape.specs.Scans.{as_order}
use Rattle.placements.specs.Counting.{fits_in, placements_in}
use Rattle.placements.proofs.counting.count_piece.Goals as goal

pub returns : goal.returns
unfolding placements_in
returns c =
    let b = c.args.board.now in
    let v = c.variants_of-count in
    let made = v.ensures.0 in
    let short : length (take v.result v.new.turnings) ≤ 24 = omega (arith, length-take v.result v.new.turnings, made.within) in (
      made,
      c.count_cells-rows.ensures.0 ∙ ap (fits_in (as_order b.order) (grid_of b.grid)) made.make,
      le_trans c.count_cells-rows.ensures.1 (mul-le-mul_right (length b.places.now) short),
    )
