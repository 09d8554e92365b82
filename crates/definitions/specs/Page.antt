-- Document 01, "Page".
use Rattle.std.specs.Prelude.{ℕ, ◌+◌, Bool, List, ltb, length, take, drop}

-- "The page holds list entries from skip on, as many as fit whole. The result is how many were written, the smaller of the capacity and the entries from
-- skip on (0 past the end), and whether a further entry follows: exactly when skip + written, as whole numbers, is below the list's length."
pub record Page : Type 0 where
  pub entries : List (List ℕ)
  pub written : ℕ
  pub further : Bool

unfoldable pub page : List (List ℕ) → ℕ → ℕ → Page
page list skip capacity =
    let entries = take capacity (drop skip list) in
    record { entries = entries; written = length entries; further = ltb (skip + length entries) (length list) }
