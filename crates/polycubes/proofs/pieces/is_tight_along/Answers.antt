-- `is_tight_along` meets its contract: the first layer has a cell, so there is a last layer. Assumes nothing.
use Prim.Native.Nat.{ℕ, ◌+◌, ◌-◌}
use mathlib.Core.Bool.{Bool, ◌&&◌}
use mathlib.Core.Path.{sym, ap, ◌∙◌}
use native.Mathlib.Omega.{arith}
use lib.Dec.{eqb}
use Rattle.definitions.specs.Maps.{coordinate, side}
use Rattle.definitions.specs.Refusals.{filled_where}
use Rattle.shape.specs.Coords.{axis_number}
use Rattle.shape.specs.CubicGrids.{grid_of}
use Rattle.polycubes.proofs.LayerLaws.{some_layer, last_layer}
use Rattle.polycubes.proofs.pieces.is_tight_along.Goals as goal

pub overflow_sub-pick : goal.overflow_sub-pick
overflow_sub-pick c =
    let first = sym c.is_layer_filled.ensures ∙ c.if-is_layer_filled.true in
    omega (arith, c.pick.ensures.of_sides, some_layer (grid_of c.args.grid.now) (axis_number c.args.axis) first)

pub returns-then-is_layer_filled : goal.returns-then-is_layer_filled
returns-then-is_layer_filled c =
    let g = grid_of c.args.grid.now in
    let axis = axis_number c.args.axis in
    let first = sym c.is_layer_filled.ensures ∙ c.if-is_layer_filled.true in
    c.is_layer_filled-then-is_layer_filled.ensures ∙ ap (λ (n : ℕ). filled_where g (λ u. eqb (coordinate u axis) (n - 1))) c.pick.ensures.of_sides
    ∙ last_layer g axis (some_layer g axis first) ∙ sym (ap (λ (b : Bool). b && filled_where g (λ u. eqb (coordinate u axis + 1) (side g.sides axis))) first)
