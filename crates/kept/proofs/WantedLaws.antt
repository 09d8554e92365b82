-- What is wanted, taken apart. Assumes nothing.
use Prim.Native.Nat.{ℕ}
use mathlib.Core.Bool.{Bool, true, false, cond, not, ◌||◌}
use mathlib.Core.List.{List}
use mathlib.Core.Path.{◌≡◌, ap}
use Rattle.std.specs.Prelude.{Option, Some, None}
use Rattle.definitions.specs.Placements.{Placement}
use Rattle.rows.specs.Shown.{leads_by, shows_row}
use Rattle.rows.specs.declared.chart.Owned.{Owned}

-- whether a row is to be looked at, by what is shown while an entry is waited for
pub leads_while : (pieces : List Owned) (waiting : Bool) (shown : List ℕ) (q : Placement) (told : Option (List ℕ)) → told ≡ cond waiting (Some shown) None
    → leads_by pieces told q ≡ (not waiting || shows_row pieces shown q)
leads_while pieces true shown q told e = ap (λ (o : Option (List ℕ)). leads_by pieces o q) e
leads_while pieces false shown q told e = ap (λ (o : Option (List ℕ)). leads_by pieces o q) e
