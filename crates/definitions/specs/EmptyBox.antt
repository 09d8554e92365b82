-- Document 02, A1, a tray with an empty box: "An empty list of pieces should be taken: a board without filled cells has the one empty packing, every other
-- board has none. 1 no longer occurs." Said, as the demands are, of anything that runs calls; EmptyBoxLaws (theorems) shows it of the definitions' own outcome.
use Rattle.std.specs.Prelude.{ℕ, cond, List, [], ◌∷◌, ◌≡◌, ◌↔◌, ◌≢◌, T, replicate}
use Rattle.lists.specs.Lists.{is_empty, member}
use Rattle.definitions.specs.Grid.{Grid, filled_cells}
use Rattle.definitions.specs.Placements.{Placement, compile}
use Rattle.definitions.specs.Packing.{Packing}
use Rattle.definitions.specs.Refusals.{Call, lent_of, tray_of, refusal}
use Rattle.definitions.specs.Outcomes.{Outcome, answer_size}
use Rattle.definitions.specs.Demands.{Stretch}
use Rattle.definitions.specs.Files.{call_in, is_file, listing, packed}

-- the list of an empty box on a board as lent, whatever the engine and the identification: the empty packing, whose answer is 255 throughout, or nothing
unfoldable pub empty_box_list : Grid → List (List ℕ)
empty_box_list g = cond (is_empty (filled_cells g)) (replicate (answer_size g.sides) 255 ∷ []) []

pub record EmptyBox (run : Call → Outcome) (l : Call) : Type 0 where
  -- "should be taken": what can still refuse it is the board (3, 4, 5, 9), the configuration (10, 11) or a slice that is too short (12, 13)
  pub numbers : T (member (run l).number (0 ∷ 3 ∷ 4 ∷ 5 ∷ 9 ∷ 10 ∷ 11 ∷ 12 ∷ 13 ∷ []))
  -- "a board without filled cells has the one empty packing, every other board has none": of document 01's packings
  pub packings : (P : List Placement) → Packing (compile (tray_of l)) P ↔ ((P ≡ []) × (filled_cells (lent_of l).board ≡ []))
  -- every page that is not refused is its stretch of that list
  pub pages : refusal l ≡ 0 → Stretch (empty_box_list (lent_of l).board) l (run l)

unfoldable pub EmptyBoxes : (Call → Outcome) → Type 0
EmptyBoxes run = (l : Call) → l.pieces ≡ [] → EmptyBox run l

-- "1 no longer occurs"
unfoldable pub Never1 : (Call → Outcome) → Type 0
Never1 run = (l : Call) → (run l).number ≢ 1

-- what `pack` prints for a file without `piece` lines
unfoldable pub EmptyBoxPrinted : Type 0
EmptyBoxPrinted =
    (bytes : List ℕ) → T (is_file bytes) → (call_in bytes 0 0).pieces ≡ [] → refusal (call_in bytes 0 0) ≡ 0
    → packed bytes ≡ listing (empty_box_list (lent_of (call_in bytes 0 0)).board)
