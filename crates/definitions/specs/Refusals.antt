-- Document 01, "Limits" and the table of what is returned: the tests 2 to 15, and the first that applies. (1, no piece is lent, and 7, a piece has an empty
-- outer layer, are no tests any more: document 02, A1 and A4.) 3 to 9 look at the grids as lent, 14 and 15 at the stripped ones.
use Rattle.std.specs.Prelude.{ℕ, suc, ◌+◌, Bool, true, false, cond, not, ◌&&◌, List, [], ◌∷◌, map, ltb, leb, eqb, length, get_or, take, drop}
use Rattle.lists.specs.Lists.{any, all, keep, sum}
use Rattle.definitions.specs.Grid.{Sides, Cell, Grid, volume, filled_cells}
use Rattle.definitions.specs.Stripping.{strip, frame_of, own_frame}
use Rattle.definitions.specs.Kinds.{Piece, Tray}
use Rattle.definitions.specs.Placements.{Placement, Compiled, compile}
use Rattle.definitions.specs.Packing.{limits}
use Rattle.definitions.specs.Kept.{Identify}
use Rattle.definitions.specs.Kept.Identify.{None, Turned, Mirrored}
use Rattle.definitions.specs.declared.SolverKind.{SolverKind}
use Rattle.definitions.specs.declared.SolverKind.TheVariants.{Auto, Naive, Fast, KnuthAlgorithm}
use Rattle.definitions.specs.declared.Record.{Record}
use Rattle.definitions.specs.declared.Config.{Config}

-- All that a call lends: "The list of pieces is lent as a slice of records, each with three sides, a count (32 bits) and the place where its cells begin
-- in one lent byte slice. The board is such a record too, its count unread." Document 02, A5: "The piece record gains a wood, 0 to 255, unread on the
-- board". Then the configuration, the skip, and the three slices that the call writes, as they were before it: the answer buffer, the work slice and the
-- links.
pub record Call : Type 0 where
  pub pieces : List Record
  pub board : Record
  pub bytes : List ℕ
  pub config : Config
  pub skip : ℕ
  pub answers : List ℕ
  pub work : List ℕ
  pub links : List ℕ

-- the call with other pieces, or another board
abbrev pub with_records : List Record → Record → Call → Call
with_records pieces board l =
    record {
      pieces = pieces;
      board = board;
      bytes = l.bytes;
      config = l.config;
      skip = l.skip;
      answers = l.answers;
      work = l.work;
      links = l.links;
    }

unfoldable pub sides_of : Record → Sides
sides_of r = record { a = r.a; b = r.b; c = r.c }

unfoldable pub grid_of : List ℕ → Record → Grid
grid_of bytes r = record { sides = sides_of r; cells = take (volume (sides_of r)) (drop r.start bytes) }

-- a piece as it is lent; the tray that a call lends, wherever its cells stand in the lent bytes
abbrev pub piece_of : List ℕ → Record → Piece
piece_of bytes r = record { grid = grid_of bytes r; count = r.count; wood = r.wood }

unfoldable pub lent_of : Call → Tray
lent_of l =
    let b = grid_of l.bytes l.board in
    record { board = b; pieces = map (piece_of l.bytes) l.pieces; frame = own_frame b }

-- The tray that is listed. Document 02, A4: "Strip empty outer layers from pieces and board once 3 to 6 are passed on the grids as lent, and before all later
-- work"
abbrev pub strip_piece : Piece → Piece
strip_piece q = record { grid = strip q.grid; count = q.count; wood = q.wood }

unfoldable pub strip_tray : Tray → Tray
strip_tray t = record { board = strip t.board; pieces = map strip_piece t.pieces; frame = frame_of t.board }

unfoldable pub tray_of : Call → Tray
tray_of l = strip_tray (lent_of l)

unfoldable pub identifies : Bool → Bool → Identify
identifies false false = None
identifies false true = None
identifies true false = Turned
identifies true true = Mirrored

-- (mirrored without turned is refused)
unfoldable pub identify_of : Config → Identify
identify_of g = identifies g.identify_transformed_answers g.identify_mirrored_answers

-- 3: "a side of board or piece is not 1 to 8"
unfoldable pub is_side : ℕ → Bool
is_side n = leb 1 n && leb n 8

unfoldable pub sides_fit : Record → Bool
sides_fit r = is_side r.a && (is_side r.b && is_side r.c)

-- 4: "a grid's cells do not all lie in the lent bytes" (the sum is one of whole numbers: it does not wrap)
unfoldable pub cells_lie : List ℕ → Record → Bool
cells_lie bytes r = leb (r.start + volume (sides_of r)) (length bytes)

-- 5: "a cell of a grid is not 0 or 1"; 6: "a piece has no filled cell"
unfoldable pub are_bits : Grid → Bool
are_bits g = all (λ n. leb n 1) g.cells

unfoldable pub some_filled : Grid → Bool
some_filled g = any (eqb 1) g.cells

-- no outer layer is empty: each of the six has a filled cell
unfoldable pub filled_where : Grid → (Cell → Bool) → Bool
filled_where g p = any p (filled_cells g)

unfoldable pub is_tight : Grid → Bool
is_tight g =
    filled_where g (λ u. eqb u.x 0) && (filled_where g (λ u. eqb (u.x + 1) g.sides.a)
    && (filled_where g (λ u. eqb u.y 0) && (filled_where g (λ u. eqb (u.y + 1) g.sides.b)
    && (filled_where g (λ u. eqb u.z 0) && filled_where g (λ u. eqb (u.z + 1) g.sides.c)))))

-- 8: "more than 128 copies"; 9: "more than 128 filled board cells" (cells are 0 or 1 by then)
unfoldable pub copy_count : Tray → ℕ
copy_count t = sum (map (λ q. q.count) t.pieces)

unfoldable pub board_cell_count : Tray → ℕ
board_cell_count t = sum t.board.cells

-- 11, 13, 15: the engine
unfoldable pub is_ported : SolverKind → Bool
is_ported Auto = false
is_ported Naive = false
is_ported Fast = true
is_ported KnuthAlgorithm = true

unfoldable pub is_knuth : SolverKind → Bool
is_knuth Auto = false
is_knuth Naive = false
is_knuth Fast = false
is_knuth KnuthAlgorithm = true

-- 14: "more than 1,024 placements, kinds without copies counted": each kind's placements once, however many pieces are of the kind
unfoldable pub placement_count : Compiled → ℕ
placement_count c = length c.placements

-- 15: "4,096 links, one for each filled board cell, each kind, each row and each cell of a row". A row is a placement of a kind that has copies.
unfoldable pub rows_of : Compiled → List Placement
rows_of c = keep (λ q. ltb 0 (get_or (limits c) q.kind 0)) c.placements

unfoldable pub link_count : Compiled → ℕ
link_count c = length c.cells + length c.kinds + sum (map (λ q. suc (length q.cells)) (rows_of c))

-- A row of the table: the number returned, and whether its test applies to the call. Each number is tested over all grids before the next.
pub record Row : Type 0 where
  pub number : ℕ
  pub applies : Bool

abbrev pub row : ℕ → Bool → Row
row n b = record { number = n; applies = b }

unfoldable pub table : Call → List Row
table l =
    let t = lent_of l in
    let c = compile (tray_of l) in
    let turned = l.config.identify_transformed_answers in
    let mirrored = l.config.identify_mirrored_answers in
    let knuth = is_knuth l.config.solver in
    row 2 (ltb 16 (length l.pieces)) ∷
    row 3 (not (all sides_fit (l.board ∷ l.pieces))) ∷
    row 4 (not (all (cells_lie l.bytes) (l.board ∷ l.pieces))) ∷
    row 5 (not (are_bits t.board && all (λ q. are_bits q.grid) t.pieces)) ∷
    row 6 (not (all (λ q. some_filled q.grid) t.pieces)) ∷
    row 8 (ltb 128 (copy_count t)) ∷
    row 9 (ltb 128 (board_cell_count t)) ∷
    row 10 (mirrored && not turned) ∷
    row 11 (not (is_ported l.config.solver)) ∷
    row 12 (ltb (length l.work) 8192) ∷
    row 13 (knuth && ltb (length l.links) 32768) ∷
    row 14 (ltb 1024 (placement_count c)) ∷
    row 15 (knuth && ltb 4096 (link_count c)) ∷
    []

-- whether the row with a number applies
abbrev pub applies_in : List Row → ℕ → Bool
applies_in rows n = any (λ r. eqb r.number n && r.applies) rows

unfoldable pub applies : Call → ℕ → Bool
applies l n = applies_in (table l) n

-- "tested in this order": the number of the first row that applies; 0 where none does, and the call is accepted
abbrev pub first_that_applies : List Row → ℕ
first_that_applies [] = 0
first_that_applies (r ∷ rs) = let n = first_that_applies rs in cond r.applies r.number n

unfoldable pub refusal : Call → ℕ
refusal l = first_that_applies (table l)
