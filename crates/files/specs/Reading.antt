-- What the lines of a file ask for, one after the other.
use Rattle.std.specs.Prelude.{ℕ, ◌+◌, ◌≤◌, true, false, cond, ◌&&◌, Option, Some, None, List, map, ◌≡◌, leb, ltb, length, set, take, drop}
use Rattle.std.proofs.Math.Seq.{paste}
use Rattle.lists.specs.Lists.{joined}
use Rattle.definitions.specs.Files.{Written, call_in, is_file, lines_of, piece_in, records_from}
use Rattle.definitions.specs.declared.Record.{Record}
use Rattle.placements.specs.declared.Pieces.{Pieces}
use Rattle.placements.specs.Pieces.{pieces_of}
use Rattle.files.specs.declared.reading.Asked.{Asked}

-- one record more
abbrev pub push_record : Pieces → Record → Pieces
push_record t p = record { records = cond (ltb t.count 16) (set t.records t.count p) t.records; count = t.count + 1 }

-- the pieces of lines
unfoldable pub pieces_in : List ℕ → List Written
pieces_in bytes = map piece_in (lines_of bytes)

unfoldable pub cells_of_all : List Written → List ℕ
cells_of_all gs = joined (map (λ (g : Written). g.cells) gs)

-- the pieces by their records, and their cells over the start of a slice
pub record PiecesRead (bytes old : List ℕ) (t : Pieces) (used : ℕ) (new : List ℕ) : Type 0 where
  pub pieces : t ≡ pieces_of (records_from 0 (pieces_in bytes))
  pub count : used ≡ length (cells_of_all (pieces_in bytes))
  pub cells : new ≡ paste old 0 (cells_of_all (pieces_in bytes)) used

-- ---- a text
-- what a file asks for, with its cells over the start of a slice
pub record Asks (text old : List ℕ) (asked : Asked) (new : List ℕ) : Type 0 where
  pub pieces_are : asked.pieces ≡ pieces_of (call_in text 0 0).pieces
  pub board_is : asked.board ≡ (call_in text 0 0).board
  pub config_is : asked.config ≡ (call_in text 0 0).config
  pub few : asked.used ≤ 16384
  pub bytes_are : take asked.used new ≡ (call_in text 0 0).bytes
  pub behind : drop asked.used new ≡ drop asked.used old

-- a text is read where it is a file and 16,384 cells are lent; else the cells stay as they are
abbrev pub FileRead : List ℕ → List ℕ → Option Asked → List ℕ → Type 0
FileRead text old None new = (leb 16384 (length old) && is_file text ≡ false) × (new ≡ old)
FileRead text old (Some asked) new = (leb 16384 (length old) && is_file text ≡ true) × Asks text old asked new
