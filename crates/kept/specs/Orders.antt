-- How two lists of numbers compare, whatever follows them; and the least of some numbers against one.
use Rattle.std.specs.Prelude.{ℕ, ◌+◌, ◌≤◌, ◌<◌, Bool, true, false, Option, Some, None, List, ◌++◌, ◌≡◌, ltb, length}
use Rattle.std.specs.declared.cmp.Ordering.{Ordering}
use Rattle.std.specs.declared.cmp.Ordering.TheVariants.{Less, Equal, Greater}
use Rattle.lists.specs.Lists.{how_many, less}

-- where two things compare so, a further test decides if they are equal
abbrev pub decided : Ordering → Bool → Bool
decided Less rest = true
decided Equal rest = rest
decided Greater rest = false

abbrev pub OrderIs : Ordering → List ℕ → List ℕ → Type 0
OrderIs o xs ys = (more others : List ℕ) → less (xs ++ more) (ys ++ others) ≡ decided o (less more others)

-- the least of some images against a row: it is below it, or there is one and it is above it, never level; or nothing is said
abbrev pub LeastIs : Option Ordering → ℕ → List ℕ → Type 0
LeastIs (Some Less) head images = 0 < how_many (λ s. ltb s head) images
LeastIs (Some Equal) head images = ⊥
LeastIs (Some Greater) head images = (0 < length images) × (how_many (λ s. ltb s (head + 1)) images ≤ 0)
LeastIs None head images = Unit {0}
