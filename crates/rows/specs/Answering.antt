-- Answers from the rows of a packing.
use Rattle.std.specs.Prelude.{ℕ, ◌+◌, ◌*◌, ◌≤◌, ◌<◌, Bool, true, false, cond, List, [], ◌∷◌, map, T, eqb, ltb, length, get_or}
use Rattle.lists.specs.Lists.{all, keep, each, below, member, numbered, joined, ascending}
use Rattle.definitions.specs.Kinds.{Copy}
use Rattle.definitions.specs.Placements.{Placement}
use Rattle.definitions.specs.Packing.{ahead, used}
use Rattle.definitions.specs.Answers.{Taken, takes, copy_on}
use Rattle.rows.specs.Systems.{System, owned_in}
use Rattle.rows.specs.Rows.{row_at}
use Rattle.rows.specs.declared.Dims.{Dims}
use Rattle.rows.specs.declared.chart.Chart.{Chart}
use Rattle.rows.specs.declared.chart.Owned.{Owned}
use Rattle.rows.specs.declared.answers.Copied.{Copied}

-- no copy: what is written where the board is unfilled
abbrev pub no_copy : Copy
no_copy = record { piece = 255; copy = 255 }

unfoldable pub as_copy : Copied → Copy
as_copy d = record { piece = d.piece; copy = d.copy }

-- the copies of a kind, through its pieces in lent order
abbrev pub copies_if : Bool → ℕ → ℕ → List Copy
copies_if true i n = map (λ m. record { piece = i; copy = m }) (below n)
copies_if false i n = []

unfoldable pub copies_by : List Owned → ℕ → List Copy
copies_by pieces k = joined (numbered pieces (λ i q. copies_if (eqb q.kind k) i q.count))

-- the rows of a path
unfoldable pub path_in : List ℕ → List ℕ → List Placement
path_in work path = map (row_at work) path

unfoldable pub taken_by : List Owned → ℕ → List Placement → List Taken
taken_by pieces kinds P = joined (map (λ k. takes (copies_by pieces k) (keep (λ q. eqb q.kind k) P)) (below kinds))

-- what the rows of a path take, of the pieces of a chart
abbrev pub taken_in : Dims → List ℕ → Chart → List ℕ → List Taken
taken_in d work chart path = taken_by (owned_in chart.pieces d.pieces) d.kinds (path_in work path)

-- two bytes for each of a list of scan numbers
unfoldable pub answers_over : List Taken → List ℕ → List ℕ
answers_over ts scans = each scans (λ n. let d = copy_on ts n in d.piece ∷ d.copy ∷ [])

-- where two bytes for each number below 128 are told: with a copy laid on some cells; and what is told of a number, no copy from 128 on
unfoldable pub laid : List ℕ → Copy → List ℕ → List ℕ
laid cells c told =
    each (below 128)
    (λ n. cond (member n cells) c.piece (get_or told (2 * n) 0) ∷ cond (member n cells) c.copy (get_or told (2 * n + 1) 0) ∷ [])

unfoldable pub told_of : List ℕ → ℕ → Copy
told_of told n = cond (ltb n 128) (record { piece = get_or told (2 * n) 0; copy = get_or told (2 * n + 1) 0 }) no_copy

unfoldable pub answer_by : System → List Placement → List ℕ
answer_by s P = answers_over (taken_by s.pieces (length s.copies) P) s.scans

-- what an answer asks of a path: its rows stand in the work slice, ascend by kind, are of kinds below a number, cover cells below another, and of each
-- kind there are enough copies. (In no type: a path is lent by one, and the system whose rows it names by another.)
pub record Held (d : Dims) (work : List ℕ) (chart : Chart) (path : List ℕ) : Type 0 where
  pub are_rows : T (all (λ r. ltb (8 * r + 7) (length work)) path)
  pub few_cells : d.size ≤ 128
  pub few_pieces : d.pieces ≤ 16
  pub ascend : T (ascending ahead (path_in work path))
  pub of_kinds : T (all (λ q. ltb q.kind d.kinds) (path_in work path))
  pub on_board : T (all (λ q. all (λ m. ltb m d.size) q.cells) (path_in work path))
  pub enough : (k : ℕ) → k < d.kinds → used (path_in work path) k ≤ length (copies_by (owned_in chart.pieces d.pieces) k)
