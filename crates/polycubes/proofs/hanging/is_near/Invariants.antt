-- `is_near` meets its contract. The loop's invariant: the places from i on decide. Assumes nothing.
use Prim.Native.Nat.{◌-◌}
use mathlib.Core.Path.{◌≡◌}
use Rattle.lists.specs.Lists.{any, below, from}
use Rattle.masks.specs.Masks.{has}
use Rattle.shape.specs.Coords.{as_sides}
use Rattle.polycubes.specs.Hanging.{touched_at}
use Rattle.polycubes.proofs.hanging.is_near.Given as goal

abbrev pub invariant-loop-i : goal.invariant-loop-i
invariant-loop-i l =
    let s = as_sides l.s in
    let touched = touched_at s (has l.got) l.j in
    any touched (from l.i (l.v - l.i)) ≡ any touched (below l.v)
