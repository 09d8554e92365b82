-- What a writer got where a write failed.
use Rattle.std.specs.Prelude.{ℕ, List, Option, ◌++◌, ◌≡◌}
use Rattle.std.specs.Io.KnownBytes.{Appends}

-- known bytes grow by a beginning of bs
pub record AppendsFront (old new : Option (List ℕ)) (bs : List ℕ) : Type 0 where
  pub front : List ℕ
  pub back : List ℕ
  pub parts : bs ≡ front ++ back
  pub appended : Appends old new front
