-- `Map::compose` meets its contract: the table that it reads is the list of the products' numbers, entry by entry. Assumes nothing.
use mathlib.Core.Path.{◌≡◌, ap₂, ◌∙◌, subst⁻¹}
use Prim.Native.Nat.{ℕ, ◌<◌}
use Rattle.definitions.specs.Maps.{map_of, product}
use Rattle.shape.proofs.MapTableLaws.{products, products_at, times_lt, times_is}
use Rattle.shape.proofs.maps.Map.compose.Goals as goal

pub returns : goal.returns
unfolding products
returns c =
    let k = c.args in
    let m = c.index.result in
    let n = c.index-2.result in
    let d = c.index.ensures in
    let e = c.index-2.ensures in
    subst⁻¹ (λ (r : ℕ). (r < 48) × (map_of r ≡ product (map_of k.self.0) (map_of k.other.0))) (products_at m n d.0 e.0)
    (times_lt m n, times_is m n ∙ ap₂ product d.1 e.1)
