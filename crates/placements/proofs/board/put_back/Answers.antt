-- `put_back` meets its contract. The loop's invariant: the places passed are put back, and the others are as they were. Assumes nothing.
use Rattle.std.proofs.Common.{ℕ, List, ◌<◌, ◌≡◌, ◌∙◌, sym, ap, subst, get_or}
use lib.ListN.{set}
use Rattle.definitions.specs.Grid.{InBox, volume, place_of, set_down}
use Rattle.shape.specs.Coords.{as_sides, as_cell}
use Rattle.shape.specs.Places.{cell_at}
use Rattle.shape.proofs.StrippingLaws.{part_short, part_in_box}
use Rattle.placements.specs.Stripping.{lent_place}
use Rattle.placements.proofs.FittingLaws.{place_in}
use Rattle.placements.proofs.StrippingLaws.{put_at, put_next}
use Rattle.placements.proofs.board.put_back.Goals as goal
use Rattle.placements.proofs.board.put_back.Goals.{In-loop-place}

-- the place that is read is still the one that was lent
read : (c : In-loop-place) → get_or c.loop-place.places c.loop-place.place-index 0 ≡ get_or c.args.places.now c.loop-place.place-index 0
read c =
    let i = c.loop-place.place-index in
    ap (λ (xs : List ℕ). get_or xs i 0) c.loop-place.invariant ∙ put_at _ c.args.places.now i c.loop-place-test.true

pub cell_at-u-requires : goal.cell_at-u-requires
cell_at-u-requires c =
    let a = c.args in
    let i = c.loop-place.place-index in (
      part_short c.requires.1 c.requires.2,
      subst (λ (k : ℕ). k < volume (as_sides a.s)) (sym (read (goal.at.cell_at-u-requires c).In-loop-place))
          (place_in a.places.now (volume (as_sides a.s)) c.requires.0 i c.loop-place-test.true),
    )

pub place-requires : goal.place-requires
place-requires c =
    let a = c.args in (
      c.requires.1,
      subst (InBox (as_sides a.lent)) (sym c.set_down.ensures)
          (part_in_box (as_sides a.lent) (as_sides a.s) (as_cell a.at) (as_cell c.cell_at-u.result) c.requires.2 c.cell_at-u.ensures.1),
    )

pub loop-place-preserved : goal.loop-place-preserved
unfolding lent_place
loop-place-preserved c =
    let a = c.args in
    let l = c.loop-place in
    let f = lent_place (as_sides a.s) (record { lent = as_sides a.lent; at = as_cell a.at }) in
    ap (λ (xs : List ℕ). set xs l.place-index c.place.result) l.invariant
    ∙ put_next f a.places.now l.place-index c.loop-place-test.true c.place.result
    (c.place.ensures.0 ∙ ap (place_of (as_sides a.lent)) (c.set_down.ensures ∙ ap (set_down (as_cell a.at))
    (c.cell_at-u.ensures.0 ∙ ap (cell_at (as_sides a.s)) (read (goal.at.loop-place-preserved c).In-loop-place))))
