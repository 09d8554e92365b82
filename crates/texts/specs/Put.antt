-- Bytes put into a buffer.
use Rattle.std.specs.Prelude.{ℕ, ◌+◌, List, ◌≡◌, length}
use Rattle.std.proofs.Math.Seq.{paste}

-- a text stands from place `at` on, every other byte is as it was, and r is the place behind it
pub record Put (old : List ℕ) (at : ℕ) (text new : List ℕ) (r : ℕ) : Type 0 where
  pub bytes : new ≡ paste old at text (length text)
  pub end : r ≡ at + length text
