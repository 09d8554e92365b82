-- Document 01, "Answer": "Two bytes for each cell of the board's box: piece number as lent, copy number; 255, 255 where the board is unfilled." Document
-- 02, A4: "Answers are still written in the box that was lent, with 255, 255 in the stripped part."
use Rattle.std.specs.Prelude.{ℕ, List, [], ◌∷◌, map, eqb}
use Rattle.lists.specs.Lists.{each, keep, head_or, member, numbered, joined}
use Rattle.definitions.specs.Grid.{Cell, set_down, box}
use Rattle.definitions.specs.Scan.{scan_number}
use Rattle.definitions.specs.Kinds.{Copy}
use Rattle.definitions.specs.Placements.{Placement, Compiled}

-- "A kind's placements, ascending, take its copies from the first."
pub record Taken : Type 0 where
  pub copy : Copy
  pub cells : List ℕ

abbrev pub takes : List Copy → List Placement → List Taken
takes [] qs = []
takes (d ∷ ds) [] = []
takes (d ∷ ds) (q ∷ qs) = record { copy = d; cells = q.cells } ∷ takes ds qs

unfoldable pub taken : Compiled → List Placement → List Taken
taken c P = joined (numbered c.kinds (λ k d. takes d.copies (keep (λ q. eqb q.kind k) P)))

-- the copy on the cell with scan number n; none has the number of an unfilled cell
unfoldable pub copy_on : List Taken → ℕ → Copy
copy_on ts n = head_or (record { piece = 255; copy = 255 }) (map (λ t. t.copy) (keep (λ t. member n t.cells) ts))

-- the two bytes of a cell: the copy that lies on it, where the filled cells in scan order are given
abbrev pub two_bytes : List Taken → List Cell → Cell → List ℕ
two_bytes ts cells u = let d = copy_on ts (scan_number cells u) in d.piece ∷ d.copy ∷ []

-- where the filled board cells lie in the box that was lent, in scan order
abbrev pub lent_cells : Compiled → List Cell
lent_cells c = map (set_down c.frame.at) c.cells

unfoldable pub answer : Compiled → List Placement → List ℕ
answer c P =
    let ts = taken c P in
    let cells = lent_cells c in
    each (box c.frame.lent) (two_bytes ts cells)
