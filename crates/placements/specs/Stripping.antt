-- The records of a tray whose grids are stripped. Document 02, A4.
use Rattle.std.specs.Prelude.{ℕ, ◌+◌, ◌≤◌, List, [], ◌∷◌, map, ◌≡◌, T, leb, length, take}
use Rattle.std.proofs.Math.Seq.{paste}
use Rattle.lists.specs.Lists.{all}
use Rattle.definitions.specs.Grid.{Sides, Grid, set_down, place_of, volume}
use Rattle.definitions.specs.Stripping.{corner, strip, Frame}
use Rattle.definitions.specs.Kinds.{Piece}
use Rattle.definitions.specs.Framing.{unframed}
use Rattle.definitions.specs.Refusals.{grid_of, piece_of, sides_of, strip_piece}
use Rattle.definitions.specs.declared.Record.{Record}
use Rattle.shape.specs.Coords.{as_cell}
use Rattle.shape.specs.Places.{cell_at}
use Rattle.placements.specs.declared.Pieces.{Pieces}
use Rattle.placements.specs.declared.stripping.StrippedRecord.{StrippedRecord}
use Rattle.placements.specs.declared.stripping.StrippedRecords.{StrippedRecords}
use Rattle.placements.specs.Pieces.{records_of, lent_in, tray_in}
use Rattle.placements.specs.Counting.{Accepted9}

-- where the last cell of a record's grid ends in the bytes
abbrev pub end_of : Record → ℕ
end_of r = r.start + volume (sides_of r)

-- the place in the lent box of the cell at place i of a box that lies in it
unfoldable pub lent_place : Sides → Frame → ℕ → ℕ
lent_place s f i = place_of f.lent (set_down f.at (cell_at s i))

-- what stood before a place stays, and the slice keeps its length
pub record Before (start : ℕ) (old new : List ℕ) : Type 0 where
  pub kept : take start new ≡ take start old
  pub long : length new ≡ length old

-- a list with the cells of a grid, stripped, from a place on; and with those of pieces, each 512 places behind the one before it. Around them it is as it was
unfoldable pub with_grid : List ℕ → ℕ → Grid → List ℕ
with_grid old start g = paste old start (strip g).cells (length (strip g).cells)

unfoldable pub with_grids : List ℕ → ℕ → List Piece → List ℕ
with_grids old start [] = old
with_grids old start (q ∷ qs) = with_grids (with_grid old start q.grid) (start + 512) qs

-- the grid that a record has in the bytes is stripped into 512 bytes of a slice, from start on
pub record StripsRecord (bytes : List ℕ) (r : Record) (s : StrippedRecord) (old : List ℕ) (start : ℕ) (new : List ℕ) : Type 0 where
  pub piece : piece_of new s.row ≡ strip_piece (piece_of bytes r)
  pub at : as_cell s.at ≡ corner (grid_of bytes r)
  pub ends : end_of s.row ≤ start + 512
  pub before : Before start old new
  pub filled : new ≡ with_grid old start (grid_of bytes r)

-- the pieces, each in its place, behind the first 512 bytes
pub record StripsPieces (t : Pieces) (bytes : List ℕ) (r : Pieces) (old new : List ℕ) : Type 0 where
  pub as_many : r.count ≡ t.count
  pub many : length r.records ≡ 16
  pub pieces : map (piece_of new) (records_of r) ≡ map strip_piece (map (piece_of bytes) (records_of t))
  pub ends : T (all (λ q. leb (end_of q) 8704) (records_of r))
  pub before : Before 512 old new
  pub filled : new ≡ with_grids old 512 (map (piece_of bytes) (records_of t))

-- the records lend, with the grids in the slice, the tray that is listed; rows 2 to 9 let them pass; and the cell on which the board's corner lies is the
-- frame's
pub record StripsTray (t : Pieces) (board : Record) (bytes : List ℕ) (r : StrippedRecords) (cells : List ℕ) : Type 0 where
  pub tray : lent_in (records_of r.pieces) r.board cells ≡ unframed (tray_in (records_of t) board bytes)
  pub accepted : Accepted9 r.pieces r.board cells
  pub at : as_cell r.at ≡ (tray_in (records_of t) board bytes).frame.at
