-- The text of a row system, and what the call that writes it answers.
use Rattle.std.specs.Prelude.{ℕ, Bool, ◌||◌, List, [], ◌∷◌, ◌++◌, map, ◌≡◌, ltb, eqb, length, get_or, Result, Ok, Err}
use Rattle.lists.specs.Lists.{any, joined, keep}
use Rattle.definitions.specs.Placements.{Placement}
use Rattle.definitions.specs.Refusals.{Row, row, first_that_applies}
use Rattle.definitions.specs.Outcomes.{number_of}
use Rattle.definitions.specs.Dlx1.{item_line, option_line}
use Rattle.definitions.specs.TextCalls.{TextCall}
use Rattle.definitions.specs.declared.Record.{Record}
use Rattle.definitions.specs.declared.Refusal.{Refusal}
use Rattle.rows.specs.Systems.{System}

-- the options are the rows of kinds that have copies
unfoldable pub options_by : System → List Placement
options_by s = keep (λ q. ltb 0 (get_or s.copies q.kind 0)) s.rows

unfoldable pub text_by : System → List ℕ
text_by s = item_line s.size s.copies ++ joined (map (option_line s.scans) (options_by s))

-- the last rows of the table, 17, and 18 for so much room: they are told by the row system
unfoldable pub has_no_text : System → Bool
has_no_text s = any (ltb 1) s.copies || eqb s.size 0

unfoldable pub last_rows : System → ℕ → List Row
last_rows s room = row 17 (has_no_text s) ∷ row 18 (ltb room (length (text_by s))) ∷ []

unfoldable pub Checked : Result ℕ Refusal → System → ℕ → Type 0
Checked (Ok n) s room = (n ≡ length (text_by s)) × (first_that_applies (last_rows s room) ≡ 0)
Checked (Err why) s room = number_of why ≡ first_that_applies (last_rows s room)

-- all that a call lends, in one value
unfoldable pub text_call : List Record → Record → List ℕ → List ℕ → List ℕ → TextCall
text_call pieces board bytes output work = record { pieces = pieces; board = board; bytes = bytes; output = output; work = work }
