-- `Map::inverse` meets its contract: the table that it reads is the list of the inverses' numbers, entry by entry. Assumes nothing.
use mathlib.Core.Path.{◌≡◌, ap, ◌∙◌, subst⁻¹}
use Prim.Native.Nat.{ℕ, ◌<◌}
use Rattle.definitions.specs.Maps.{map_of, inverse}
use Rattle.shape.proofs.MapTableLaws.{inverses, inverses_at, inverse_lt, inverse_is}
use Rattle.shape.proofs.maps.Map.inverse.Goals as goal

pub returns : goal.returns
unfolding inverses
returns c =
    let n = c.index.result in
    let e = c.index.ensures in
    subst⁻¹ (λ (r : ℕ). (r < 48) × (map_of r ≡ inverse (map_of c.args.self.0))) (inverses_at n e.0)
    (inverse_lt n, inverse_is n ∙ ap inverse e.1)
