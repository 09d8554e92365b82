-- What an answer shows on the cells of the board. Proved in proofs/ShownLaws: a row of a packing is shown by the packing's answer.
use Rattle.std.specs.Prelude.{ℕ, ◌+◌, ◌*◌, ◌<◌, Bool, true, ◌&&◌, Option, Some, None, List, ◌≡◌, eqb, ltb, length, get_or}
use Rattle.lists.specs.Lists.{all, before}
use Rattle.definitions.specs.Placements.{Placement}
use Rattle.rows.specs.Charts.{nothing_owned}
use Rattle.rows.specs.declared.chart.Owned.{Owned}

-- for each of so many cells the two bytes that an answer has at its place, 0 past the answer's end
pub record Shown (cells : ℕ) (scans last shown : List ℕ) : Type 0 where
  pub piece : (c : ℕ) → c < cells → get_or shown (2 * c) 0 ≡ get_or last (2 * before (eqb c) scans) 0
  pub copy : (c : ℕ) → c < cells → get_or shown (2 * c + 1) 0 ≡ get_or last (2 * before (eqb c) scans + 1) 0

-- one copy, of a piece of the row's kind, is shown on all cells of a row
unfoldable pub shows_row : List Owned → List ℕ → Placement → Bool
shows_row pieces shown q =
    let piece = get_or shown (2 * q.p) 0 in
    let copy = get_or shown (2 * q.p + 1) 0 in
    ltb piece (length pieces) && (eqb (get_or pieces piece nothing_owned).kind q.kind
    && all (λ c. eqb (get_or shown (2 * c) 0) piece && eqb (get_or shown (2 * c + 1) 0) copy) q.cells)

-- the packings with a row are to be looked at: all are where no answer is waited for, else those whose row an answer that shows this much shows
abbrev pub leads_by : List Owned → Option (List ℕ) → Placement → Bool
leads_by pieces None q = true
leads_by pieces (Some shown) q = shows_row pieces shown q
