-- What takes longer to compute than the tables of definitions (proofs/BoundaryLaws): boards at the limit of 9, the slices afterwards, handed pieces.
use Rattle.std.specs.Prelude.{ℕ, Bool, true, false, ◌&&◌, List, [], ◌∷◌, ◌++◌, eqb, replicate}
use Rattle.lists.specs.Lists.{same}
use Rattle.definitions.specs.Refusals.{Call}
use Rattle.definitions.specs.Outcomes.{Outcome, outcome}
use Rattle.definitions.specs.Starts.{outcome_from}
use Rattle.definitions.specs.Fillings.{Line, piece, in_wood, board, mirrored}
use Rattle.definitions.specs.Boundaries.{Expected, gives, lending, asking, plain, bare, at, cells}
use Rattle.definitions.specs.declared.SolverKind.{SolverKind}
use Rattle.definitions.specs.declared.SolverKind.TheVariants.{Auto, Fast, KnuthAlgorithm}
use Rattle.definitions.specs.declared.Start.TheVariants.{Behind}
use Rattle.definitions.specs.declared.Record.{Record}

-- 9: 128 filled board cells are taken, 129 are not; 8 comes before, 10 after. The piece is too large for the board, so that nothing more is computed.
abbrev pub bar : ℕ → Record
bar n = at n 1 1 8 0

unfoldable pub large_boards : List Expected
large_boards =
    gives 0 (lending (at 0 8 8 3 0) (bar 1 ∷ []) (replicate 128 1 ++ replicate 64 0)) ∷
    gives 9 (lending (at 0 8 8 3 0) (bar 1 ∷ []) (replicate 129 1 ++ replicate 63 0)) ∷
    gives 8 (lending (at 0 8 8 3 0) (bar 129 ∷ []) (replicate 129 1 ++ replicate 63 0)) ∷
    gives 9 (asking false true Fast (lending (at 0 8 8 3 0) (bar 1 ∷ []) (replicate 129 1 ++ replicate 63 0))) ∷
    gives 0 (lending (at 0 8 8 3 0) [] (replicate 128 1 ++ replicate 64 0)) ∷
    gives 9 (asking false true Fast (lending (at 0 8 8 3 0) [] (replicate 129 1 ++ replicate 63 0))) ∷
    []

-- ---- the slices afterwards
-- what an outcome leaves: equal numbers, one after the other
pub record Left : Type 0 where
  pub call : Call
  pub number : ℕ
  pub answers : List ℕ
  pub work : List ℕ
  pub links : List ℕ

abbrev pub leaves : Call → ℕ → List ℕ → List ℕ → List ℕ → Left
leaves l n a w k = record { call = l; number = n; answers = a; work = w; links = k }

abbrev pub roomy : SolverKind → Call → Call
roomy e l =
    record {
      pieces = l.pieces;
      board = l.board;
      bytes = l.bytes;
      config = record { identify_transformed_answers = false; identify_mirrored_answers = false; solver = e };
      skip = 0;
      answers = 7 ∷ 7 ∷ 7 ∷ [];
      work = replicate 8194 7;
      links = replicate 32769 7;
    }

unfoldable pub afterwards : List Left
afterwards =
    leaves (roomy Fast plain) 0 (0 ∷ 0 ∷ 7 ∷ []) (replicate 8192 0 ++ 7 ∷ 7 ∷ []) (replicate 32769 7) ∷
    leaves (roomy KnuthAlgorithm plain) 0 (0 ∷ 0 ∷ 7 ∷ []) (replicate 8192 0 ++ 7 ∷ 7 ∷ []) (replicate 32768 0 ++ 7 ∷ []) ∷
    leaves (roomy Auto plain) 11 (7 ∷ 7 ∷ 7 ∷ []) (replicate 8194 7) (replicate 32769 7) ∷
    leaves (roomy Fast bare) 0 (255 ∷ 255 ∷ 7 ∷ []) (replicate 8192 0 ++ 7 ∷ 7 ∷ []) (replicate 32769 7) ∷
    leaves (roomy KnuthAlgorithm bare) 0 (255 ∷ 255 ∷ 7 ∷ []) (replicate 8192 0 ++ 7 ∷ 7 ∷ []) (replicate 32768 0 ++ 7 ∷ []) ∷
    []

abbrev pub left_by : Left → Outcome → Bool
left_by x o = eqb o.number x.number && (same o.answers x.answers && (same o.work x.work && same o.links x.links))

unfoldable pub is_left : Left → Bool
is_left x = left_by x (outcome x.call)

-- behind the last entry of a list, and behind what is none: the search has run, and nothing is written
unfoldable pub afterwards_behind : List Left
afterwards_behind =
    leaves (roomy Fast plain) 0 (7 ∷ 7 ∷ 7 ∷ []) (replicate 8192 0 ++ 7 ∷ 7 ∷ []) (replicate 32769 7) ∷
    leaves (roomy KnuthAlgorithm plain) 0 (7 ∷ 7 ∷ 7 ∷ []) (replicate 8192 0 ++ 7 ∷ 7 ∷ []) (replicate 32768 0 ++ 7 ∷ []) ∷
    leaves (roomy Auto plain) 11 (7 ∷ 7 ∷ 7 ∷ []) (replicate 8194 7) (replicate 32769 7) ∷
    []

unfoldable pub is_left_behind : List ℕ → Left → Bool
is_left_behind last x = left_by x (outcome_from Behind last x.call)

-- ---- handed pieces, for both engines
unfoldable pub handed_fillings : List Line
handed_fillings =
    -- a packing of handed pieces alone, whose partner is not in the box: each mirrored image lacks all its placements
    mirrored (board 2 2 2 (cells 8 11111111)) (piece 2 2 2 2 (cells 8 11100100) ∷ [])
    ((0 ∷ 0 ∷ 0 ∷ 1 ∷ 0 ∷ 1 ∷ 0 ∷ 1 ∷ 0 ∷ 0 ∷ 0 ∷ 0 ∷ 0 ∷ 1 ∷ 0 ∷ 0 ∷ []) ∷ []) ∷
    -- mirror partners, in one wood and in two
    mirrored (board 2 2 2 (cells 8 11111111)) (in_wood 1 (piece 2 2 2 2 (cells 8 11100100)) ∷ in_wood 1 (piece 2 2 2 2 (cells 8 11100010)) ∷ [])
    ((1 ∷ 0 ∷ 1 ∷ 1 ∷ 1 ∷ 1 ∷ 1 ∷ 1 ∷ 1 ∷ 0 ∷ 1 ∷ 1 ∷ 1 ∷ 0 ∷ 1 ∷ 0 ∷ []) ∷ []) ∷
    mirrored (board 2 2 2 (cells 8 11111111)) (piece 2 2 2 2 (cells 8 11100100) ∷ in_wood 1 (piece 2 2 2 2 (cells 8 11100010)) ∷ [])
    ((0 ∷ 0 ∷ 0 ∷ 1 ∷ 0 ∷ 1 ∷ 0 ∷ 1 ∷ 0 ∷ 0 ∷ 0 ∷ 0 ∷ 0 ∷ 1 ∷ 0 ∷ 0 ∷ []) ∷ (1 ∷ 0 ∷ 1 ∷ 1 ∷ 1 ∷ 1 ∷ 1 ∷ 1 ∷ 1 ∷ 0 ∷ 1 ∷ 1 ∷ 1 ∷ 0 ∷ 1 ∷ 0 ∷ []) ∷ []) ∷
    []
