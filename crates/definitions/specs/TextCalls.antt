-- Document 02, A2: the call that writes the text for DLX1, and the program `dlx1`.
use Rattle.std.specs.Prelude.{ℕ, false, cond, ◌||◌, List, [], ◌∷◌, ◌++◌, ◌<◌, ◌≤◌, ◌≡◌, ◌≢◌, T, eqb, ltb, length, take, drop, replicate, Result, Ok, Err}
use Rattle.lists.specs.Lists.{any, is_empty, member}
use Rattle.definitions.specs.Placements.{compile}
use Rattle.definitions.specs.Packing.{limits}
use Rattle.definitions.specs.Kinds.{Tray}
use Rattle.definitions.specs.Refusals.{Call, Row, row, table, tray_of, first_that_applies, applies_in}
use Rattle.definitions.specs.Outcomes.{cleared, number_of, over_start}
use Rattle.definitions.specs.Dlx1.{dlx1_text}
use Rattle.definitions.specs.Dlx1Covers.{Dlx1Right}
use Rattle.definitions.specs.Files.{call_in, is_file, refused_line}
use Rattle.definitions.specs.declared.SolverKind.TheVariants.{Fast}
use Rattle.definitions.specs.declared.Config.{Config}
use Rattle.definitions.specs.declared.Record.{Record}
use Rattle.definitions.specs.declared.Refusal.{Refusal}

-- All that such a call lends: pieces, board and bytes as a listing's, and the two slices that it writes, as they were before it.
pub record TextCall : Type 0 where
  pub pieces : List Record
  pub board : Record
  pub bytes : List ℕ
  pub output : List ℕ
  pub work : List ℕ

-- "The call takes no engine and no identification, so 10, 11, 13 and 15 do not occur": it is refused as a listing by Fast is with nothing identified, which
-- reads no links
abbrev pub plain_fast : Config
plain_fast = record { identify_transformed_answers = false; identify_mirrored_answers = false; solver = Fast }

unfoldable pub as_listing : TextCall → Call
as_listing l = record { pieces = l.pieces; board = l.board; bytes = l.bytes; config = plain_fast; skip = 0; answers = []; work = l.work; links = [] }

unfoldable pub text_tray : TextCall → Tray
text_tray l = tray_of (as_listing l)

unfoldable pub text_of : TextCall → List ℕ
text_of l = dlx1_text (compile (text_tray l))

-- "17 when a kind has more than one copy or the board has no filled cell, after 14; 18 when the lent output is too short for the whole text, after 17."
unfoldable pub text_table : TextCall → List Row
text_table l =
    let c = compile (text_tray l) in
    table (as_listing l) ++
    row 17 (any (ltb 1) (limits c) || is_empty c.cells) ∷
    row 18 (ltb (length l.output) (length (text_of l))) ∷
    []

unfoldable pub text_refusal : TextCall → ℕ
text_refusal l = first_that_applies (text_table l)

-- What a call returns (number 0: it is accepted), and the two slices afterwards.
pub record TextOutcome : Type 0 where
  pub number : ℕ
  pub written : ℕ
  pub output : List ℕ
  pub work : List ℕ

unfoldable pub text_refused : ℕ → TextCall → TextOutcome
text_refused n l = record { number = n; written = 0; output = l.output; work = l.work }

-- "It tells how many bytes it wrote, and bytes behind them keep their values." The work slice is as after an accepted listing.
unfoldable pub text_accepted : TextCall → TextOutcome
text_accepted l = record { number = 0; written = length (text_of l); output = over_start (text_of l) l.output; work = cleared 8192 l.work }

unfoldable pub text_outcome : TextCall → TextOutcome
text_outcome l =
    let n = text_refusal l in
    let yes = text_accepted l in
    let no = text_refused n l in
    cond (eqb n 0) yes no

-- what the code of such a call hands back, and what it says, with the slices that it leaves
abbrev pub TextReply : Type 0
TextReply = Result ℕ Refusal

abbrev pub text_outcome_of : TextReply → List ℕ → List ℕ → TextOutcome
text_outcome_of (Ok written) output work = record { number = 0; written = written; output = output; work = work }
text_outcome_of (Err why) output work = record { number = number_of why; written = 0; output = output; work = work }

-- ---- the demands on such a call, for anything that runs such calls: run l is what it makes of the call l
pub record TextDemand (l : TextCall) (o : TextOutcome) : Type 0 where
  -- "the first refusal in document 01's table that applies"; 1, 7, 10, 11, 13, 15 and 16 are none of them
  pub it_applies : o.number ≢ 0 → T (applies_in (text_table l) o.number)
  pub none_before : (n : ℕ) → n < o.number → T (applies_in (text_table l) n) → ⊥
  pub or_none_applies : o.number ≡ 0 → (n : ℕ) → T (applies_in (text_table l) n) → ⊥
  pub numbers : T (member o.number (0 ∷ 2 ∷ 3 ∷ 4 ∷ 5 ∷ 6 ∷ 8 ∷ 9 ∷ 12 ∷ 14 ∷ 17 ∷ 18 ∷ []))
  -- "a refusal leaves the lent buffers untouched"
  pub writes_none : o.number ≢ 0 → o.written ≡ 0
  pub output_kept : o.number ≢ 0 → o.output ≡ l.output
  pub work_kept : o.number ≢ 0 → o.work ≡ l.work
  -- an accepted call hands over the tray's text, whole; "bytes behind them keep their values"; the first 8,192 work words are 0
  pub fits : o.written ≤ length l.output
  pub right : o.number ≡ 0 → Dlx1Right (text_tray l) (take o.written o.output)
  pub behind : o.number ≡ 0 → drop o.written o.output ≡ drop o.written l.output
  pub output_length : length o.output ≡ length l.output
  pub work : o.number ≡ 0 → o.work ≡ replicate 8192 0 ++ drop 8192 l.work
  pub work_length : length o.work ≡ length l.work

unfoldable pub MeetsTextDemand : (TextCall → TextOutcome) → Type 0
MeetsTextDemand run = (l : TextCall) → TextDemand l (run l)

-- ---- the program `dlx1`
-- the call on what a file of `pack` asks for, with so much room for the text; the file's engine and identification decide nothing
unfoldable pub text_call_in : List ℕ → ℕ → TextCall
text_call_in bytes room =
    let l = call_in bytes 0 0 in
    record { pieces = l.pieces; board = l.board; bytes = l.bytes; output = replicate room 7; work = l.work }

-- why there is none, 0 where there is one; there is always room for all of it
abbrev pub dlx1_number : List ℕ → ℕ
dlx1_number bytes = text_refusal (text_call_in bytes (length (text_of (text_call_in bytes 0))))

-- What `dlx1` prints for what it reads: the text; or why there is none, as `pack` prints it.
unfoldable pub dlx1_printed : List ℕ → List ℕ
dlx1_printed bytes =
    let text = text_of (text_call_in bytes 0) in
    let n = dlx1_number bytes in
    let refused = refused_line n in
    cond (is_file bytes) (cond (eqb n 0) text refused) (refused_line 16)

-- for a file that is not refused, the text of its tray
unfoldable pub TextPrintedRight : Type 0
TextPrintedRight = (bytes : List ℕ) → T (is_file bytes) → dlx1_number bytes ≡ 0 → Dlx1Right (tray_of (call_in bytes 0 0)) (dlx1_printed bytes)
