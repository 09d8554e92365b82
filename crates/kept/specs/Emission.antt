-- A packing that a search has found, on the page.
use Rattle.std.specs.Prelude.{ℕ, cond, List, map}
use Rattle.definitions.specs.Emission.{Emitted, Listed, emit}
use Rattle.definitions.specs.Kept.{Identify}
use Rattle.definitions.specs.Starts.{skip_at, waits_at}
use Rattle.rows.specs.Systems.{System}
use Rattle.kept.specs.Normal.{row_of, sort_rows, normal}
use Rattle.kept.specs.Entries.{entry_by}
use Rattle.kept.specs.declared.emission.Emission as code

-- the code's state with the entry that may be waited for and the answer buffer
abbrev pub emitted_of : code.Emission → List ℕ → List ℕ → Emitted
emitted_of e last answers =
    record { last = last; waiting = waits_at e.start; skip = skip_at e.start; written = e.written; further = e.further; answers = answers }

-- the entry of a packing by its rows in any order
unfoldable pub entry_of : System → List ℕ → Listed
entry_of s rs = entry_by s (map (row_of s) (sort_rows rs))

-- one packing more: left out where it is not kept
unfoldable pub emit_kept : System → Identify → ℕ → List ℕ → Emitted → Emitted
emit_kept s i capacity rs e = let next = emit capacity (entry_of s rs) e in cond (normal s i (sort_rows rs)) next e
