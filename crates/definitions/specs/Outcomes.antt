-- Document 01, "Page" and what follows the table: what a call returns, and every slice lent to it afterwards.
use Rattle.std.specs.Prelude.{ℕ, ◌*◌, ◌/◌, Bool, false, true, cond, List, ◌++◌, map, eqb, length, drop, replicate, Option, Some, None, Result, Ok, Err}
use Rattle.lists.specs.Lists.{joined}
use Rattle.definitions.specs.Grid.{Sides, volume}
use Rattle.definitions.specs.Kinds.{Tray}
use Rattle.definitions.specs.Placements.{compile}
use Rattle.definitions.specs.Kept.{Identify}
use Rattle.definitions.specs.Orders.{listed}
use Rattle.definitions.specs.Answers.{answer}
use Rattle.definitions.specs.Page.{Page, page}
use Rattle.definitions.specs.Refusals.{Call, sides_of, tray_of, identify_of, is_knuth, refusal}
use Rattle.definitions.specs.declared.SolverKind.{SolverKind}
use Rattle.definitions.specs.declared.Refusal.{Refusal}
use Rattle.definitions.specs.declared.Refusal.TheVariants.{TooManyPieces, SideOutOfRange, CellsOutsideBytes, CellNotZeroOrOne, PieceWithoutFilledCell}
use Rattle.definitions.specs.declared.Refusal.TheVariants.{TooManyCopies, TooManyBoardCells, MirroredWithoutTurned, EngineNotPorted, WorkTooShort}
use Rattle.definitions.specs.declared.Refusal.TheVariants.{LinksTooShort, TooManyPlacements, TooManyLinks, NoText, OutputTooShort, CellCountOutOfRange}
use Rattle.definitions.specs.declared.Page.{Page as WrittenPage}

-- "The list is the answers of the listed packings in the engine's order, each once": one list for a tray, an identification and an engine.
unfoldable pub answers_of : Tray → Identify → SolverKind → List (List ℕ)
answers_of t i e = let c = compile t in map (answer c) (listed c i e)

-- an answer's bytes: "Two bytes for each cell of the board's box"; and the answer buffer's capacity, "how many whole answers fit"
unfoldable pub answer_size : Sides → ℕ
answer_size s = 2 * volume s

unfoldable pub capacity : Call → ℕ
capacity l = length l.answers / answer_size (sides_of l.board)

-- the page of an accepted call
unfoldable pub page_of : Call → Page
page_of l = page (answers_of (tray_of l) (identify_of l.config) l.config.solver) l.skip (capacity l)

-- What a call returns (number 0: it is accepted; missing: no entry of the list equals the one that was lent, to begin behind it), and the three slices
-- afterwards.
pub record Outcome : Type 0 where
  pub number : ℕ
  pub written : ℕ
  pub further : Bool
  pub missing : Bool
  pub answers : List ℕ
  pub work : List ℕ
  pub links : List ℕ

-- "A refusal writes 0 answers, says none follows, and changes no lent slice."
unfoldable pub refused : ℕ → Call → Outcome
refused n l = record { number = n; written = 0; further = false; missing = false; answers = l.answers; work = l.work; links = l.links }

-- bytes put over the start of a slice, and its first n numbers made 0; what lies behind keeps its values
unfoldable pub over_start : List ℕ → List ℕ → List ℕ
over_start bytes old = bytes ++ drop (length bytes) old

unfoldable pub cleared : ℕ → List ℕ → List ℕ
cleared n old = replicate n 0 ++ drop n old

-- "After an accepted call the first 8,192 work words are 0; so are the first 32,768 links for `KnuthAlgorithm`, and Fast does not touch links. What lies
-- behind these words and links keeps its values. Bytes behind the last whole answer written keep their values."
abbrev pub work_after : Call → List ℕ
work_after l = cleared 8192 l.work

abbrev pub links_after : Call → List ℕ
links_after l = cond (is_knuth l.config.solver) (cleared 32768 l.links) l.links

abbrev pub accepted_with : Page → Call → Outcome
accepted_with g l =
    record {
      number = 0;
      written = g.written;
      further = g.further;
      missing = false;
      answers = over_start (joined g.entries) l.answers;
      work = work_after l;
      links = links_after l;
    }

unfoldable pub accepted : Call → Outcome
accepted l = accepted_with (page_of l) l

-- The outcome of a call, whatever it lends.
unfoldable pub outcome : Call → Outcome
outcome l =
    let n = refusal l in
    let yes = accepted l in
    let no = refused n l in
    cond (eqb n 0) yes no

-- ---- the types of the code
-- the number of a refusal in the documents
abbrev pub number_of : Refusal → ℕ
number_of TooManyPieces = 2
number_of SideOutOfRange = 3
number_of CellsOutsideBytes = 4
number_of CellNotZeroOrOne = 5
number_of PieceWithoutFilledCell = 6
number_of TooManyCopies = 8
number_of TooManyBoardCells = 9
number_of MirroredWithoutTurned = 10
number_of EngineNotPorted = 11
number_of WorkTooShort = 12
number_of LinksTooShort = 13
number_of TooManyPlacements = 14
number_of TooManyLinks = 15
number_of NoText = 17
number_of OutputTooShort = 18
number_of CellCountOutOfRange = 21

-- what the code of a page call hands back (`Listing`), and what it says, with the slices that it leaves
abbrev pub Reply : Type 0
Reply = Result (Option WrittenPage) Refusal

unfoldable pub outcome_of : Reply → List ℕ → List ℕ → List ℕ → Outcome
outcome_of (Ok (Some page)) answers work links =
    record { number = 0; written = page.written; further = page.further; missing = false; answers = answers; work = work; links = links }
outcome_of (Err why) answers work links =
    record { number = number_of why; written = 0; further = false; missing = false; answers = answers; work = work; links = links }
outcome_of (Ok None) answers work links =
    record { number = 0; written = 0; further = false; missing = true; answers = answers; work = work; links = links }
