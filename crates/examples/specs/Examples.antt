-- What the marked lines leave open of lists and pages, as a table that antt computes (proofs/ExampleLaws): orders, scan order, paging, copies, mirrored images.
-- The packings are those that the original lists; where it panics, those of document 01.
use Rattle.std.specs.Prelude.{ℕ, ◌+◌, ◌*◌, ◌/◌, ◌%◌, Bool, true, false, cond, ◌&&◌, List, [], ◌∷◌, map, eqb}
use Rattle.lists.specs.Lists.{each}
use Rattle.definitions.specs.Kept.{Identify}
use Rattle.definitions.specs.Kept.Identify.{None, Turned, Mirrored}
use Rattle.definitions.specs.Refusals.{Call}
use Rattle.definitions.specs.Files.{Written, call_on}
use Rattle.definitions.specs.Fillings.{piece, board, M, D, lists}
use Rattle.definitions.specs.Boundaries.{cells}
use Rattle.definitions.specs.declared.SolverKind.{SolverKind}
use Rattle.definitions.specs.declared.SolverKind.TheVariants.{Fast, KnuthAlgorithm}

-- an answer, written with one number for each cell of the box: ten times the piece and the copy, or gap
abbrev pub gap : ℕ
gap = 999

abbrev pub bytes_of : List ℕ → List ℕ
bytes_of ns = each ns (λ n. cond (eqb n gap) (255 ∷ 255 ∷ []) (n / 10 ∷ n % 10 ∷ []))

-- a tray, a skip, the answers that fit (and a byte more), whether a further one follows, and what Fast and Knuth write
pub record Example : Type 0 where
  pub identify : Identify
  pub board : Written
  pub pieces : List Written
  pub skip : ℕ
  pub room : ℕ
  pub further : Bool
  pub fast : List (List ℕ)
  pub knuth : List (List ℕ)

abbrev pub corner : Identify → Written → List Written → ℕ → ℕ → Bool → List (List ℕ) → List (List ℕ) → Example
corner i b ps skip room further fast knuth =
    record { identify = i; board = b; pieces = ps; skip = skip; room = room; further = further; fast = fast; knuth = knuth }

unfoldable pub examples : List Example
examples =
    -- kind 0 first decides Fast's order; the engines differ
    corner Turned (board 1 1 6 (cells 6 111011)) (M 1 ∷ D 1 ∷ piece 1 1 1 3 (cells 3 101) ∷ []) 0 3 false
    ((20 ∷ 0 ∷ 20 ∷ gap ∷ 10 ∷ 10 ∷ []) ∷ (10 ∷ 10 ∷ 20 ∷ gap ∷ 20 ∷ 0 ∷ []) ∷ [])
    ((10 ∷ 10 ∷ 20 ∷ gap ∷ 20 ∷ 0 ∷ []) ∷ (20 ∷ 0 ∷ 20 ∷ gap ∷ 10 ∷ 10 ∷ []) ∷ []) ∷
    corner Mirrored (board 1 1 6 (cells 6 111011)) (M 1 ∷ D 1 ∷ piece 1 1 1 3 (cells 3 101) ∷ []) 0 3 false
    ((20 ∷ 0 ∷ 20 ∷ gap ∷ 10 ∷ 10 ∷ []) ∷ (10 ∷ 10 ∷ 20 ∷ gap ∷ 20 ∷ 0 ∷ []) ∷ [])
    ((10 ∷ 10 ∷ 20 ∷ gap ∷ 20 ∷ 0 ∷ []) ∷ (20 ∷ 0 ∷ 20 ∷ gap ∷ 10 ∷ 10 ∷ []) ∷ []) ∷
    -- five packings, the engines differ; whole, then pages of it: the middle, the last, room for none, past the end
    corner None (board 1 2 3 (cells 6 111111)) (M 2 ∷ piece 2 1 1 3 (cells 3 111) ∷ piece 1 1 2 3 (cells 6 111100) ∷ []) 0 6 false
    ((0 ∷ 1 ∷ 20 ∷ 20 ∷ 20 ∷ 20 ∷ []) ∷ (10 ∷ 10 ∷ 10 ∷ 11 ∷ 11 ∷ 11 ∷ []) ∷ (20 ∷ 0 ∷ 1 ∷ 20 ∷ 20 ∷ 20 ∷ []) ∷ (20 ∷ 20 ∷ 20 ∷ 0 ∷ 1 ∷ 20 ∷ []) ∷ (20 ∷ 20 ∷ 20 ∷ 20 ∷ 0 ∷ 1 ∷ []) ∷ [])
    ((0 ∷ 1 ∷ 20 ∷ 20 ∷ 20 ∷ 20 ∷ []) ∷ (20 ∷ 0 ∷ 1 ∷ 20 ∷ 20 ∷ 20 ∷ []) ∷ (10 ∷ 10 ∷ 10 ∷ 11 ∷ 11 ∷ 11 ∷ []) ∷ (20 ∷ 20 ∷ 20 ∷ 0 ∷ 1 ∷ 20 ∷ []) ∷ (20 ∷ 20 ∷ 20 ∷ 20 ∷ 0 ∷ 1 ∷ []) ∷ []) ∷
    corner None (board 1 2 3 (cells 6 111111)) (M 2 ∷ piece 2 1 1 3 (cells 3 111) ∷ piece 1 1 2 3 (cells 6 111100) ∷ []) 3 1 true
    ((20 ∷ 20 ∷ 20 ∷ 0 ∷ 1 ∷ 20 ∷ []) ∷ [])
    ((20 ∷ 20 ∷ 20 ∷ 0 ∷ 1 ∷ 20 ∷ []) ∷ []) ∷
    corner None (board 1 2 3 (cells 6 111111)) (M 2 ∷ piece 2 1 1 3 (cells 3 111) ∷ piece 1 1 2 3 (cells 6 111100) ∷ []) 4 1 false
    ((20 ∷ 20 ∷ 20 ∷ 20 ∷ 0 ∷ 1 ∷ []) ∷ [])
    ((20 ∷ 20 ∷ 20 ∷ 20 ∷ 0 ∷ 1 ∷ []) ∷ []) ∷
    corner None (board 1 2 3 (cells 6 111111)) (M 2 ∷ piece 2 1 1 3 (cells 3 111) ∷ piece 1 1 2 3 (cells 6 111100) ∷ []) 1 2 true
    ((10 ∷ 10 ∷ 10 ∷ 11 ∷ 11 ∷ 11 ∷ []) ∷ (20 ∷ 0 ∷ 1 ∷ 20 ∷ 20 ∷ 20 ∷ []) ∷ [])
    ((20 ∷ 0 ∷ 1 ∷ 20 ∷ 20 ∷ 20 ∷ []) ∷ (10 ∷ 10 ∷ 10 ∷ 11 ∷ 11 ∷ 11 ∷ []) ∷ []) ∷
    corner None (board 1 2 3 (cells 6 111111)) (M 2 ∷ piece 2 1 1 3 (cells 3 111) ∷ piece 1 1 2 3 (cells 6 111100) ∷ []) 0 0 true
    []
    [] ∷
    corner None (board 1 2 3 (cells 6 111111)) (M 2 ∷ piece 2 1 1 3 (cells 3 111) ∷ piece 1 1 2 3 (cells 6 111100) ∷ []) 5 3 false
    []
    [] ∷
    corner None (board 1 2 3 (cells 6 111111)) (M 2 ∷ piece 2 1 1 3 (cells 3 111) ∷ piece 1 1 2 3 (cells 6 111100) ∷ []) 18446744073709551615 1 false
    []
    [] ∷
    -- number used, then list, kind by kind, and not all numbers first
    corner Mirrored (board 2 2 2 (cells 8 00111111)) (piece 1 2 2 2 (cells 8 11100100) ∷ piece 1 2 2 2 (cells 8 11100010) ∷ D 1 ∷ []) 0 2 false
    ((gap ∷ gap ∷ 0 ∷ 0 ∷ 20 ∷ 0 ∷ 20 ∷ 0 ∷ []) ∷ [])
    ((gap ∷ gap ∷ 0 ∷ 0 ∷ 20 ∷ 0 ∷ 20 ∷ 0 ∷ []) ∷ []) ∷
    -- a kind's copies go through its pieces in lent order, a piece without copies among them
    corner None (board 2 3 1 (cells 6 111111)) (piece 1 1 2 1 (cells 2 11) ∷ piece 0 2 1 1 (cells 2 11) ∷ D 2 ∷ []) 0 4 false
    ((0 ∷ 0 ∷ 21 ∷ 20 ∷ 20 ∷ 21 ∷ []) ∷ (0 ∷ 20 ∷ 20 ∷ 0 ∷ 21 ∷ 21 ∷ []) ∷ (0 ∷ 20 ∷ 21 ∷ 0 ∷ 20 ∷ 21 ∷ []) ∷ [])
    ((0 ∷ 0 ∷ 21 ∷ 20 ∷ 20 ∷ 21 ∷ []) ∷ (0 ∷ 20 ∷ 20 ∷ 0 ∷ 21 ∷ 21 ∷ []) ∷ (0 ∷ 20 ∷ 21 ∷ 0 ∷ 20 ∷ 21 ∷ []) ∷ []) ∷
    -- a kind without copies has no rows for Knuth (the original panics with Knuth)
    corner None (board 1 2 3 (cells 6 111111)) (M 0 ∷ D 1 ∷ piece 1 1 2 3 (cells 6 111100) ∷ []) 0 5 false
    ((10 ∷ 10 ∷ 20 ∷ 20 ∷ 20 ∷ 20 ∷ []) ∷ (20 ∷ 10 ∷ 10 ∷ 20 ∷ 20 ∷ 20 ∷ []) ∷ (20 ∷ 20 ∷ 20 ∷ 10 ∷ 10 ∷ 20 ∷ []) ∷ (20 ∷ 20 ∷ 20 ∷ 20 ∷ 10 ∷ 10 ∷ []) ∷ [])
    ((10 ∷ 10 ∷ 20 ∷ 20 ∷ 20 ∷ 20 ∷ []) ∷ (20 ∷ 10 ∷ 10 ∷ 20 ∷ 20 ∷ 20 ∷ []) ∷ (20 ∷ 20 ∷ 20 ∷ 10 ∷ 10 ∷ 20 ∷ []) ∷ (20 ∷ 20 ∷ 20 ∷ 20 ∷ 10 ∷ 10 ∷ []) ∷ []) ∷
    -- scan order: the longest side first, of equal sides z before y before x
    corner None (board 3 1 2 (cells 6 111111)) (D 1 ∷ piece 1 1 2 3 (cells 6 111100) ∷ []) 0 5 false
    ((0 ∷ 10 ∷ 0 ∷ 10 ∷ 10 ∷ 10 ∷ []) ∷ (10 ∷ 0 ∷ 10 ∷ 0 ∷ 10 ∷ 10 ∷ []) ∷ (10 ∷ 10 ∷ 0 ∷ 10 ∷ 0 ∷ 10 ∷ []) ∷ (10 ∷ 10 ∷ 10 ∷ 0 ∷ 10 ∷ 0 ∷ []) ∷ [])
    ((0 ∷ 10 ∷ 0 ∷ 10 ∷ 10 ∷ 10 ∷ []) ∷ (10 ∷ 0 ∷ 10 ∷ 0 ∷ 10 ∷ 10 ∷ []) ∷ (10 ∷ 10 ∷ 0 ∷ 10 ∷ 0 ∷ 10 ∷ []) ∷ (10 ∷ 10 ∷ 10 ∷ 0 ∷ 10 ∷ 0 ∷ []) ∷ []) ∷
    corner None (board 2 3 1 (cells 6 111111)) (D 1 ∷ piece 1 1 2 3 (cells 6 111100) ∷ []) 0 5 false
    ((0 ∷ 0 ∷ 10 ∷ 10 ∷ 10 ∷ 10 ∷ []) ∷ (10 ∷ 0 ∷ 0 ∷ 10 ∷ 10 ∷ 10 ∷ []) ∷ (10 ∷ 10 ∷ 10 ∷ 0 ∷ 0 ∷ 10 ∷ []) ∷ (10 ∷ 10 ∷ 10 ∷ 10 ∷ 0 ∷ 0 ∷ []) ∷ [])
    ((0 ∷ 0 ∷ 10 ∷ 10 ∷ 10 ∷ 10 ∷ []) ∷ (10 ∷ 0 ∷ 0 ∷ 10 ∷ 10 ∷ 10 ∷ []) ∷ (10 ∷ 10 ∷ 10 ∷ 0 ∷ 0 ∷ 10 ∷ []) ∷ (10 ∷ 10 ∷ 10 ∷ 10 ∷ 0 ∷ 0 ∷ []) ∷ []) ∷
    corner None (board 1 3 2 (cells 6 111111)) (D 1 ∷ piece 1 1 2 3 (cells 6 111100) ∷ []) 0 5 false
    ((0 ∷ 10 ∷ 0 ∷ 10 ∷ 10 ∷ 10 ∷ []) ∷ (10 ∷ 0 ∷ 10 ∷ 0 ∷ 10 ∷ 10 ∷ []) ∷ (10 ∷ 10 ∷ 0 ∷ 10 ∷ 0 ∷ 10 ∷ []) ∷ (10 ∷ 10 ∷ 10 ∷ 0 ∷ 10 ∷ 0 ∷ []) ∷ [])
    ((0 ∷ 10 ∷ 0 ∷ 10 ∷ 10 ∷ 10 ∷ []) ∷ (10 ∷ 0 ∷ 10 ∷ 0 ∷ 10 ∷ 10 ∷ []) ∷ (10 ∷ 10 ∷ 0 ∷ 10 ∷ 0 ∷ 10 ∷ []) ∷ (10 ∷ 10 ∷ 10 ∷ 0 ∷ 10 ∷ 0 ∷ []) ∷ []) ∷
    corner None (board 2 1 2 (cells 4 1111)) (M 2 ∷ D 1 ∷ []) 0 5 false
    ((0 ∷ 10 ∷ 1 ∷ 10 ∷ []) ∷ (0 ∷ 1 ∷ 10 ∷ 10 ∷ []) ∷ (10 ∷ 10 ∷ 0 ∷ 1 ∷ []) ∷ (10 ∷ 0 ∷ 10 ∷ 1 ∷ []) ∷ [])
    ((0 ∷ 10 ∷ 1 ∷ 10 ∷ []) ∷ (0 ∷ 1 ∷ 10 ∷ 10 ∷ []) ∷ (10 ∷ 10 ∷ 0 ∷ 1 ∷ []) ∷ (10 ∷ 0 ∷ 10 ∷ 1 ∷ []) ∷ []) ∷
    corner None (board 2 2 1 (cells 4 1111)) (M 2 ∷ D 1 ∷ []) 0 5 false
    ((0 ∷ 10 ∷ 1 ∷ 10 ∷ []) ∷ (0 ∷ 1 ∷ 10 ∷ 10 ∷ []) ∷ (10 ∷ 10 ∷ 0 ∷ 1 ∷ []) ∷ (10 ∷ 0 ∷ 10 ∷ 1 ∷ []) ∷ [])
    ((0 ∷ 10 ∷ 1 ∷ 10 ∷ []) ∷ (0 ∷ 1 ∷ 10 ∷ 10 ∷ []) ∷ (10 ∷ 10 ∷ 0 ∷ 1 ∷ []) ∷ (10 ∷ 0 ∷ 10 ∷ 1 ∷ []) ∷ []) ∷
    -- a handed piece without its partner in the box: no mirrored image is a packing
    corner Mirrored (board 2 2 2 (cells 8 11111111)) (piece 2 2 2 2 (cells 8 11100100) ∷ []) 0 2 false
    ((0 ∷ 1 ∷ 1 ∷ 1 ∷ 0 ∷ 0 ∷ 1 ∷ 0 ∷ []) ∷ [])
    ((0 ∷ 1 ∷ 1 ∷ 1 ∷ 0 ∷ 0 ∷ 1 ∷ 0 ∷ []) ∷ []) ∷
    corner Turned (board 2 2 2 (cells 8 11111111)) (piece 2 2 2 2 (cells 8 11100100) ∷ []) 0 2 false
    ((0 ∷ 1 ∷ 1 ∷ 1 ∷ 0 ∷ 0 ∷ 1 ∷ 0 ∷ []) ∷ [])
    ((0 ∷ 1 ∷ 1 ∷ 1 ∷ 0 ∷ 0 ∷ 1 ∷ 0 ∷ []) ∷ []) ∷
    -- with its partner, and with the partner without copies
    corner Mirrored (board 2 2 2 (cells 8 11111111)) (piece 2 2 2 2 (cells 8 11100100) ∷ piece 2 2 2 2 (cells 8 11100010) ∷ []) 0 2 false
    ((10 ∷ 11 ∷ 11 ∷ 11 ∷ 10 ∷ 11 ∷ 10 ∷ 10 ∷ []) ∷ [])
    ((10 ∷ 11 ∷ 11 ∷ 11 ∷ 10 ∷ 11 ∷ 10 ∷ 10 ∷ []) ∷ []) ∷
    corner Mirrored (board 2 2 2 (cells 8 11111111)) (piece 2 2 2 2 (cells 8 11100100) ∷ piece 0 2 2 2 (cells 8 11100010) ∷ []) 0 2 false
    ((0 ∷ 1 ∷ 1 ∷ 1 ∷ 0 ∷ 0 ∷ 1 ∷ 0 ∷ []) ∷ [])
    ((0 ∷ 1 ∷ 1 ∷ 1 ∷ 0 ∷ 0 ∷ 1 ∷ 0 ∷ []) ∷ []) ∷
    -- a board with a hole
    corner Turned (board 1 3 3 (cells 9 111101111)) (D 4 ∷ []) 0 2 false
    ((0 ∷ 0 ∷ 3 ∷ 1 ∷ gap ∷ 3 ∷ 1 ∷ 2 ∷ 2 ∷ []) ∷ [])
    ((0 ∷ 0 ∷ 3 ∷ 1 ∷ gap ∷ 3 ∷ 1 ∷ 2 ∷ 2 ∷ []) ∷ []) ∷
    -- empty outer layers in front of the board and of a piece: a page of whole answers, each in the box that was lent
    corner None (board 2 2 4 (cells 16 0000000000000111)) (M 1 ∷ piece 1 2 1 3 (cells 6 000011) ∷ []) 1 1 false
    ((gap ∷ gap ∷ gap ∷ gap ∷ gap ∷ gap ∷ gap ∷ gap ∷ gap ∷ gap ∷ gap ∷ gap ∷ gap ∷ 10 ∷ 10 ∷ 0 ∷ []) ∷ [])
    ((gap ∷ gap ∷ gap ∷ gap ∷ gap ∷ gap ∷ gap ∷ gap ∷ gap ∷ gap ∷ gap ∷ gap ∷ gap ∷ 10 ∷ 10 ∷ 0 ∷ []) ∷ []) ∷
    []

abbrev pub is_turned : Identify → Bool
is_turned None = false
is_turned Turned = true
is_turned Mirrored = true

abbrev pub is_mirrored : Identify → Bool
is_mirrored None = false
is_mirrored Turned = false
is_mirrored Mirrored = true

unfoldable pub call_at : Example → SolverKind → Call
call_at k e =
    let size = 2 * (k.board.a * k.board.b * k.board.c) in
    call_on k.board k.pieces (is_turned k.identify) (is_mirrored k.identify) e k.skip (k.room * size + 1)

unfoldable pub turns_out : Example → Bool
turns_out k = lists (map bytes_of k.fast) k.further (call_at k Fast) && lists (map bytes_of k.knuth) k.further (call_at k KnuthAlgorithm)
