-- `image_index` meets its contract: the cell at the place, mapped, and its place in the mapped box. Assumes nothing.
use Prim.Native.Nat.{ℕ, ◌<◌}
use mathlib.Core.Path.{◌≡◌, sym, ap, ap₂, ◌∙◌, subst⁻¹, subst₂}
use Rattle.definitions.specs.Grid.{InBox, place_of, volume}
use Rattle.definitions.specs.Maps.{map_of, map_cell}
use Rattle.shape.specs.Coords.{as_sides, as_cell, ShortSides}
use Rattle.shape.specs.Places.{image_place}
use Rattle.shape.proofs.PlaceLaws.{mapped_short, image_in_box, image_lt}
use Rattle.shape.proofs.cells.image_index.Goals as goal

pub place-requires : goal.place-requires
place-requires c =
    let s = as_sides c.args.s in
    let n = c.args.m.0 in
    let u = c.cell_at-u in (
      subst⁻¹ ShortSides c.sides.ensures (mapped_short (map_of n) s c.requires.0),
      subst₂ InBox (sym c.sides.ensures) (sym c.cell.ensures) (image_in_box n s (as_cell u.result) u.ensures.1),
    )

pub returns : goal.returns
unfolding image_place
returns c =
    let s = as_sides c.args.s in
    let n = c.args.m.0 in
    let e : c.place.result ≡ image_place (map_of n) s c.args.i =
    c.place.ensures.0 ∙ ap₂ place_of c.sides.ensures (c.cell.ensures ∙ ap (map_cell (map_of n) s) c.cell_at-u.ensures.0)
    in (e, subst⁻¹ (λ (r : ℕ). r < volume s) e (image_lt n s c.args.i c.requires.1))
