-- `source_index` meets its contract: a source is an image under the inverse. Assumes nothing.
use Prim.Native.Nat.{ℕ, ◌<◌}
use mathlib.Core.Path.{ap, ap₂, ◌∙◌, subst, subst⁻¹}
use Rattle.definitions.specs.Grid.{Sides, volume}
use Rattle.definitions.specs.Maps.{Map, map_of}
use Rattle.shape.specs.Coords.{as_sides, ShortSides}
use Rattle.shape.specs.Places.{image_place, source_place}
use Rattle.shape.proofs.PlaceLaws.{mapped_short, map_volume}
use Rattle.shape.proofs.cells.source_index.Goals as goal

pub image_index-requires : goal.image_index-requires
image_index-requires c =
    let n = c.args.m.0 in
    let e = c.sides.ensures in (
      subst⁻¹ ShortSides e (mapped_short (map_of n) (as_sides c.args.s) c.requires.0),
      subst⁻¹ (λ (v : ℕ). c.args.j < v) (ap volume e ∙ map_volume n (as_sides c.args.s)) c.requires.1,
    )

pub returns : goal.returns
unfolding source_place
returns c =
    let e = c.sides.ensures in (
      c.image_index.ensures.0 ∙ ap₂ (λ (m : Map) (t : Sides). image_place m t c.args.j) c.inverse.ensures.1 e,
      subst (λ (v : ℕ). c.image_index.result < v) (ap volume e ∙ map_volume c.args.m.0 (as_sides c.args.s)) c.image_index.ensures.1,
    )
