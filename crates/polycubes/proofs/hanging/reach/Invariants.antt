-- `reach` meets its contract. The loop's invariant: what `far` reaches in the rounds from i on is what is asked for. Assumes nothing.
use Prim.Native.Nat.{◌-◌}
use mathlib.Core.Path.{◌≡◌}
use Rattle.definitions.specs.Catalogue.{reached}
use Rattle.masks.specs.Masks.{has}
use Rattle.shape.specs.Coords.{as_sides}
use Rattle.polycubes.specs.Hanging.{Within, cells_of}
use Rattle.polycubes.proofs.hanging.reach.Given as goal

abbrev pub invariant-loop-i : goal.invariant-loop-i
invariant-loop-i l =
    let s = as_sides l.s in
    let filled = cells_of s (has l.filled) in
    Within (has l.far) (has l.filled) × (reached (l.rounds - l.i) filled (cells_of s (has l.far)) ≡ reached l.rounds filled (cells_of s (has l.fn.got)))
