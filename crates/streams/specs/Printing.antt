-- What is lent to print with.
use Rattle.std.specs.Prelude.{ℕ, ◌≤◌, List, length}
use Rattle.output.specs.Stretches.{Room}

-- the slices are long enough; what they hold does not matter
pub record Lent (cells answers work links out : List ℕ) : Type 0 where
  pub room : Room cells answers work links
  pub long_out : 4160 ≤ length out
