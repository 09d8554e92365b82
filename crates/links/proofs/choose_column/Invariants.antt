use Prim.Native.Nat.{◌<◌}
use mathlib.Core.Path.{◌≡◌}
use Rattle.std.specs.Prelude.{MatchOption}
use Rattle.links.specs.Links.{size_of}
use Rattle.links.specs.Search.{least, pivot}
use Rattle.links.proofs.choose_column.Given as goal

abbrev pub invariant-loop-i : goal.invariant-loop-i
invariant-loop-i l =
    let c = pivot (size_of l.links) l.i in
    (l.fewest ≡ least (size_of l.links) l.i) × MatchOption l.best (c ≡ 4096) (λ found. (found ≡ c) × (c < l.i))
