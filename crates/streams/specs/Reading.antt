-- What is read of an input into a slice.
use Rattle.std.specs.Prelude.{ℕ, ◌<◌, List, Option, length}
use Rattle.std.specs.Io.KnownBytes.{Consumes, IsAtEnd}

-- the bytes were taken from the front of an input: all of them, or as many as there was room for
pub record Takes (room : ℕ) (given left : Option (List ℕ)) (bytes : List ℕ) : Type 0 where
  pub taken : Consumes given left bytes
  pub whole : length bytes < room → IsAtEnd left
