-- What a program did that reads a text and writes what it prints for it.
use Rattle.std.specs.Prelude.{ℕ, List, [], ◌⊎◌, ◌≡◌, Option, Result, Ok, Err}
use Rattle.std.specs.declared.io.Error.{Error}
use Rattle.std.specs.Io.KnownBytes.{Appends}
use Rattle.streams.specs.Reading.{Takes}
use Rattle.streams.specs.Writing.{AppendsFront}
use Rattle.streams.specs.declared.failure.Failure.{Failure}
use Rattle.streams.specs.declared.failure.Failure.TheVariants.{Read, Write}

-- Bytes were read, all of the input's or more than the longest file has, and what is printed for them was appended to the output.
pub record Answered (printed : List ℕ → List ℕ) (given left held holds : Option (List ℕ)) : Type 0 where
  pub bytes : List ℕ
  pub read : Takes 16385 given left bytes
  pub told : Appends held holds (printed bytes)

-- A beginning was appended of what is printed for the bytes that were read, or where no text was read for no bytes at all.
pub record CutOff (printed : List ℕ → List ℕ) (given left held holds : Option (List ℕ)) : Type 0 where
  pub bytes : List ℕ
  pub read : Takes 16385 given left bytes ⊎ (bytes ≡ [])
  pub told : AppendsFront held holds (printed bytes)

-- The whole was printed; or no text was read, and what is printed for no bytes at all was appended; or a write failed.
abbrev pub Ran : (List ℕ → List ℕ) → Option (List ℕ) → Option (List ℕ) → Option (List ℕ) → Option (List ℕ) → Result (Unit {0}) Failure → Type 0
Ran printed given left held holds (Ok done) = Answered printed given left held holds
Ran printed given left held holds (Err (Read why)) = Appends held holds (printed [])
Ran printed given left held holds (Err (Write why)) = CutOff printed given left held holds

-- the status that the program ends with
abbrev pub status_of : Result (Unit {0}) Failure → ℕ
status_of (Ok done) = 0
status_of (Err (Write why)) = 1
status_of (Err (Read why)) = 2

-- how a run ended whose text was read and printed so
abbrev pub ended : Result (Unit {0}) Error → Result (Unit {0}) Error → Result (Unit {0}) Failure
ended read (Err why) = Err (Write why)
ended (Err why) (Ok done) = Err (Read why)
ended (Ok both) (Ok done) = Ok done
