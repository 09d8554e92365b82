use mathlib.Core.Path.{◌≡◌}
use Rattle.shape.specs.Coords.{as_sides, as_cell}
use Rattle.placements.specs.Stripping.{lent_place}
use Rattle.placements.proofs.StrippingLaws.{put_to}
use Rattle.placements.proofs.board.put_back.Given as goal

-- the places passed are put back, and the others are as they were
abbrev pub invariant-loop-place : goal.invariant-loop-place
invariant-loop-place l =
    l.places ≡ put_to (lent_place (as_sides l.s) (record { lent = as_sides l.lent; at = as_cell l.at })) l.initial.places l.place-index
