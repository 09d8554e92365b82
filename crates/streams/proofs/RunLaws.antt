-- How a run ends whose text was read and printed. Assumes nothing.
use Prim.Native.Nat.{ℕ}
use Rattle.std.specs.Prelude.{Option, Result, Ok, Err, OnOk, OnErr}
use Rattle.std.specs.declared.io.Error.{Error}
use Rattle.std.specs.Io.KnownBytes.{Appends}
use mathlib.Core.List.{List}
use mathlib.Core.Logic.{inl, inr}
use mathlib.Core.Path.{◌≡◌, sym, ap, subst}
use lib.ListN.{take}
use Rattle.streams.specs.Reading.{Takes}
use Rattle.streams.specs.Running.{Ran, ended}
use Rattle.streams.specs.Writing.{AppendsFront}
use Rattle.streams.specs.declared.failure.Failure.{Failure}

module _ (printed : List ℕ → List ℕ) (given left held holds : Option (List ℕ)) (text : List ℕ) (n : ℕ) where
  ended_so : (read wrote : Result (Unit {0}) Error) → OnOk read (Takes 16385 given left (take n text)) → OnErr read (n ≡ 0)
      → OnOk wrote (Appends held holds (printed (take n text))) → OnErr wrote (AppendsFront held holds (printed (take n text)))
      → Ran printed given left held holds (ended read wrote)
  ended_so (Ok done) (Ok also) taken none all cut = record { bytes = take n text; read = taken; told = all }
  ended_so (Err why) (Ok also) taken none all cut = subst (λ (k : ℕ). Appends held holds (printed (take k text))) none all
  ended_so (Ok done) (Err why) taken none all cut = record { bytes = take n text; read = inl taken; told = cut }
  ended_so (Err first) (Err why) taken none all cut =
      record { bytes = take n text; read = inr (ap (λ (k : ℕ). take k text) none); told = cut }

  pub ran : (read wrote : Result (Unit {0}) Error) (r : Result (Unit {0}) Failure) → r ≡ ended read wrote
      → OnOk read (Takes 16385 given left (take n text)) → OnErr read (n ≡ 0)
      → OnOk wrote (Appends held holds (printed (take n text))) → OnErr wrote (AppendsFront held holds (printed (take n text)))
      → Ran printed given left held holds r
  ran read wrote r e taken none all cut = subst (Ran printed given left held holds) (sym e) (ended_so read wrote taken none all cut)
