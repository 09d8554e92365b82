-- How far a listing is, and what stands in the lent slices then.
use Rattle.std.specs.Prelude.{ℕ, ◌+◌, ◌*◌, ◌/◌, ◌<◌, ◌≤◌, min, true, cond, Result, List, ◌++◌, ◌⊎◌, ◌≡◌, MatchResult, ltb, length, take, drop}
use Rattle.definitions.specs.Files.{call_in}
use Rattle.definitions.specs.Grid.{volume}
use Rattle.definitions.specs.Outcomes.{Reply, answers_of, cleared, number_of, outcome_of}
use Rattle.definitions.specs.Refusals.{identify_of, refusal, sides_fit, sides_of, tray_of}
use Rattle.definitions.specs.declared.Record.{Record}
use Rattle.definitions.specs.declared.Refusal.{Refusal}
use Rattle.placements.specs.Pieces.{records_of, pieces_of}
use Rattle.solver.specs.Lent.{call_with}
use Rattle.definitions.specs.Starts.{outcome_from}
use Rattle.definitions.specs.declared.Start.TheVariants.{Behind}
use Rattle.files.specs.declared.reading.Asked.{Asked}
use Rattle.output.specs.Rest.{Stands}
use Rattle.output.specs.declared.Held.{Held}

-- what a text asks for was read of it, its cells stand at the start of a slice, and the work words and links are as many as document 01 has them
-- (a clause and no type's fact, as `Standing` is: each ties a text, what was read of it, and slices of other owners)
pub record IsRead (text : List ℕ) (asked : Asked) (cells work links : List ℕ) : Type 0 where
  pub pieces_are : asked.pieces ≡ pieces_of (call_in text 0 0).pieces
  pub board_is : asked.board ≡ (call_in text 0 0).board
  pub config_is : asked.config ≡ (call_in text 0 0).config
  pub used_few : asked.used ≤ length cells
  pub bytes_are : take asked.used cells ≡ (call_in text 0 0).bytes
  pub words : length work ≡ 8192
  pub numbers : length links ≡ 32768

-- document 01's one list for a text
unfoldable pub list_in : List ℕ → List (List ℕ)
list_in text = answers_of (tray_of (call_in text 0 0)) (identify_of (call_in text 0 0).config) (call_in text 0 0).config.solver

-- the entries that stand in the answer buffer are those of the list from entry `base` on; of them `from` are printed
pub record Standing (text : List ℕ) (p : Held) (answers : List ℕ) : Type 0 where
  pub accepted : refusal (call_in text 0 0) ≡ 0
  pub places_are : p.places ≡ volume (sides_of (call_in text 0 0).board)
  pub some : 1 ≤ p.places
  pub small : p.places ≤ 512
  pub stands : Stands (list_in text) p.base (2 * p.places) p.written answers
  pub lie : p.written * (2 * p.places) ≤ length answers
  pub passed : p.from ≤ p.written
  pub goes_on : p.further ≡ ltb (p.base + p.written) (length (list_in text))
  pub some_written : p.further ≡ true → 1 ≤ p.written
  pub room_some : 1 ≤ p.room
  pub lend : p.room * (2 * p.places) ≤ length answers
  pub number : p.base + p.from < 18446744073709551616
  pub few_bytes : length answers < 4611686018427387904

-- the work words and the links are as they were, or those that a page call uses are 0, as it leaves them
pub record Scratch (work links work' links' : List ℕ) : Type 0 where
  pub work_then : (work' ≡ work) ⊎ (work' ≡ cleared 8192 work)
  pub links_then : (links' ≡ links) ⊎ (links' ≡ cleared 32768 links)

-- room for eight times as many entries of a size, or for as many as fit a buffer
abbrev pub grown_room : ℕ → ℕ → ℕ → ℕ
grown_room room size len = min (8 * room) (len / size)

-- how many cells a board's box has, and 0 where a side is out of range
unfoldable pub places_of : Record → ℕ
places_of board = cond (sides_fit board) (volume (sides_of board)) 0

-- the page call behind the answer in a place of a buffer, over the start of that buffer
pub record PageAfter (asked : Asked) (cells : List ℕ) (size place room : ℕ) (answers work links : List ℕ) (r : Reply) (answers' work' links' : List ℕ)
    : Type 0 where
  pub page : List ℕ
  pub outcome_is : outcome_of r page work' links'
      ≡ outcome_from Behind (take size (drop (place * size) answers))
      (call_with (records_of asked.pieces) asked.board (take asked.used cells) asked.config (take (room * size) answers) work links)
  pub answers_are : answers' ≡ page ++ drop (room * size) answers

-- the next page stands in the buffer
pub record Turned (text : List ℕ) (p : Held) (work links answers' work' links' : List ℕ) (r : Held) : Type 0 where
  pub standing : Standing text r answers'
  pub asked_same : r.asked ≡ p.asked
  pub base : r.base ≡ p.base + p.written
  pub fresh : r.from ≡ 0
  pub some : 1 ≤ r.written
  pub scratch : Scratch work links work' links'

-- the first page stands in the buffer, or the call is refused
pub record FirstHeld (text : List ℕ) (asked : Asked) (answers' : List ℕ) (p : Held) : Type 0 where
  pub accepted : refusal (call_in text 0 0) ≡ 0
  pub standing : Standing text p answers'
  pub asked_same : p.asked ≡ asked
  pub start : p.base + p.from ≡ 0

pub record Begins (text : List ℕ) (asked : Asked) (work links answers' work' links' : List ℕ) (r : Result Held Refusal) : Type 0 where
  pub first : MatchResult r (λ p. FirstHeld text asked answers' p) (λ why. number_of why ≡ refusal (call_in text 0 0))
  pub scratch : Scratch work links work' links'
