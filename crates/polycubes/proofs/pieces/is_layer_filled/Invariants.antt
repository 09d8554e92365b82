-- `is_layer_filled` meets its contract. The loop's invariant: the places from j on decide. Assumes nothing.
use Prim.Native.Nat.{◌-◌}
use mathlib.Core.Path.{◌≡◌}
use Rattle.lists.specs.Lists.{any, below, from}
use Rattle.shape.specs.Coords.{axis_number}
use Rattle.shape.specs.CubicGrids.{grid_of}
use Rattle.polycubes.proofs.LayerLaws.{in_layer}
use Rattle.polycubes.proofs.pieces.is_layer_filled.Given as goal

abbrev pub invariant-loop-j : goal.invariant-loop-j
invariant-loop-j l =
    let test = in_layer (grid_of l.grid) (axis_number l.axis) l.at in
    any test (from l.j (l.j-end - l.j)) ≡ any test (below l.j-end)
