-- `filled_places` meets its contract. The loop's invariant: of the filled cells, those before place j are in. Assumes nothing.
use mathlib.Core.Path.{◌≡◌}
use Rattle.masks.specs.Masks.{has}
use Rattle.shape.specs.CubicGrids.{grid_of}
use Rattle.polycubes.specs.Hanging.{is_filled_at}
use Rattle.polycubes.proofs.SetLaws.{up_to}
use Rattle.polycubes.proofs.hanging.filled_places.Given as goal

abbrev pub invariant-loop-j : goal.invariant-loop-j
invariant-loop-j l = has l.filled ≡ up_to (is_filled_at (grid_of l.grid)) l.j
