-- The page of the catalogue as it is written.
use Rattle.std.specs.Prelude.{ℕ, false, List, [], map}
use Rattle.definitions.specs.Grid.{Grid}
use Rattle.definitions.specs.Emission.{Emitted, Listed}
use Rattle.definitions.specs.CatalogueCalls.{entry_bytes}
use Rattle.polycubes.specs.declared.emission.Emission as code

-- the code's state with the entry slice; no entry is waited for
abbrev pub emitted_of : code.Emission → List ℕ → Emitted
emitted_of e entries = record { last = []; waiting = false; skip = e.skip; written = e.written; further = e.further; answers = entries }

-- grids as entries
abbrev pub as_entries : List Grid → List Listed
as_entries gs = map (λ g. record { answer = entry_bytes g }) gs
