-- Document 01, "Answer", cell by cell: what stands where in a packing's answer, said without the function that makes it. (The demands ask only that answers are bytes, of
-- one length, and differ: with piece and copy number swapped, the box read z slowest, or copies dealt in reverse they would still hold.) Proved in AnswersRightLaws (theorems).
use Rattle.std.specs.Prelude.{ℕ, ◌*◌, ◌<◌, ◌&&◌, ◌≡◌, eqb, length, take, drop, get_or}
use mathlib.Core.List.{List, [], ◌∷◌, map, Memᴰ}
use Rattle.lists.specs.Lists.{how_many}
use Rattle.definitions.specs.Grid.{Cell, InBox, set_down, filled_cells, place_of, volume}
use Rattle.definitions.specs.Scan.{scan_number}
use Rattle.definitions.specs.Kinds.{Copy}
use Rattle.definitions.specs.Placements.{Placement, Compiled, compile}
use Rattle.definitions.specs.Packing.{Packing, ahead}
use Rattle.definitions.specs.PlacementsRight.{kind_at}
use Rattle.definitions.specs.Answers.{answer}
use Rattle.definitions.specs.Refusals.{Call, tray_of, refusal}

-- the two bytes of a cell of the box that was lent: x slowest, z fastest
unfoldable pub bytes_of : Compiled → List Placement → Cell → List ℕ
bytes_of c P u = take 2 (drop (2 * place_of c.frame.lent u) (answer c P))

-- a placement's number among those of its kind in a packing, ascending; and the copy with that number
unfoldable pub number_in : List Placement → Placement → ℕ
number_in P q = how_many (λ r. eqb r.kind q.kind && ahead r q) P

unfoldable pub copy_for : Compiled → List Placement → Placement → Copy
copy_for c P q = get_or (kind_at c q.kind).copies (number_in P q) (record { piece = 0; copy = 0 })

pub record AnswerRight (c : Compiled) (P : List Placement) : Type 0 where
  -- "Two bytes for each cell of the board's box", "written in the box that was lent"
  pub two_bytes : length (answer c P) ≡ 2 * volume c.frame.lent
  -- "255, 255 where the board is unfilled", and "in the stripped part"
  pub unfilled : (u : Cell) → InBox c.frame.lent u → (Memᴰ u (map (set_down c.frame.at) (filled_cells c.board)) → ⊥) → bytes_of c P u ≡ 255 ∷ 255 ∷ []
  -- "A kind's placements, ascending, take its copies from the first": there is a copy for each
  pub has_copy : (q : Placement) → Memᴰ q P → number_in P q < length (kind_at c q.kind).copies
  -- "piece number as lent, copy number" of the placement that covers the cell
  pub filled : (u : Cell) → Memᴰ u (filled_cells c.board) → (q : Placement) → Memᴰ q P → Memᴰ (scan_number c.cells u) q.cells
      → bytes_of c P (set_down c.frame.at u) ≡ (copy_for c P q).piece ∷ (copy_for c P q).copy ∷ []

unfoldable pub AnswersRight : Type 0
AnswersRight = (l : Call) → refusal l ≡ 0 → (P : List Placement) → Packing (compile (tray_of l)) P → AnswerRight (compile (tray_of l)) P
