-- `wider` meets its contract. The loop's invariant: of the cells of the round, those before place j are in. Assumes nothing.
use mathlib.Core.Path.{◌≡◌}
use Rattle.masks.specs.Masks.{has}
use Rattle.shape.specs.Coords.{as_sides}
use Rattle.polycubes.specs.Hanging.{wider_at}
use Rattle.polycubes.proofs.SetLaws.{up_to}
use Rattle.polycubes.proofs.hanging.wider.Given as goal

abbrev pub invariant-loop-j : goal.invariant-loop-j
invariant-loop-j l = has l.wide ≡ up_to (wider_at (as_sides l.s) (has l.filled) (has l.got)) l.j
