-- `hangs` meets its contract: all filled cells are reached where the sets of places are the same. Assumes nothing.
use Prim.Native.Nat.{ℕ, ◌-◌}
use mathlib.Core.Path.{ap, ◌∙◌}
use native.Mathlib.Omega.{arith}
use Rattle.masks.specs.Masks.{has}
use Rattle.masks.proofs.MaskLaws.{same_cells}
use Rattle.shape.specs.CubicGrids.{grid_of}
use Rattle.polycubes.proofs.HangingLaws.{hangs_told}
use Rattle.polycubes.proofs.hanging.hangs.Goals as goal

pub returns : goal.returns
returns c =
    let grid = c.args.grid.now in
    let g = grid_of grid in
    let filled = c.filled_places-filled in
    hangs_told g grid.whole.size (has filled.result) (has c.first_alone.result) (has c.reach.result) c.saturating_sub-rounds.result c.eq.result filled.ensures
    (c.first_alone.ensures.first _ c.requires) (c.saturating_sub-rounds.ensures ∙ ap (λ (n : ℕ). n - 1) c.count_filled.ensures.0) c.reach.ensures.cells c.reach.ensures.within
    (same_cells c.eq.result c.reach.result filled.result (omega arith) (omega arith) (omega arith) (omega arith) c.eq.ensures)
