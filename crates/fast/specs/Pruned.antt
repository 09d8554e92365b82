-- Kind 0 first, by row numbers: the rows of kind 0 come first, so an image ahead of one is an image with a smaller number.
use Rattle.std.specs.Prelude.{ℕ, Bool, true, false, not, ◌&&◌, ◌||◌, List, ltb, eqb, length, get_or}
use Rattle.lists.specs.Lists.{all, any, below, keep, each}
use Rattle.definitions.specs.Emission.{Listed}
use Rattle.definitions.specs.Orders.{State, choose, search, fast_choices}
use Rattle.definitions.specs.Kept.{Identify}
use Rattle.definitions.specs.Kept.Identify.{None, Turned, Mirrored}
use Rattle.rows.specs.Systems.{System, kind_by}
use Rattle.kept.specs.Normal.{row_of, image_of}
use Rattle.kept.specs.Entries.{entries}

-- some map takes row r onto a row before it
unfoldable pub moved_before : System → Bool → List (List ℕ) → ℕ → Bool
moved_before s odd maps r = any (λ to. ltb (image_of s odd to r) r) maps

unfoldable pub always_mirrorable_by : System → Bool
always_mirrorable_by s =
    all (λ k. let p = kind_by s.partners true k in ltb p (length s.copies) && eqb (get_or s.copies k 0) (get_or s.copies p 0))
    (below (length s.copies))

unfoldable pub pruned_by : System → Identify → ℕ → Bool
pruned_by s None r = false
pruned_by s Turned r = moved_before s false s.turned r
pruned_by s Mirrored r =
    moved_before s false s.turned r || (always_mirrorable_by s && (eqb (kind_by s.partners true 0) 0 && moved_before s true s.mirrored r))

-- the rows of kind 0 that are not pruned, and what Fast lists below them, one after the other
unfoldable pub first_rows : System → Identify → List ℕ
first_rows s i = keep (λ r. eqb (row_of s r).kind 0 && not (pruned_by s i r)) (below (length s.rows))

unfoldable pub fast_first : System → Identify → State → List Listed
fast_first s i t = entries s i (each (first_rows s i) (λ r. search (fast_choices s.rows) s.size (choose t (row_of s r))))
