-- The records of pieces by value, and the tray that they and a board lend.
use Rattle.std.specs.Prelude.{ℕ, Bool, true, false, List, map, leb, length, get_or, set, take, replicate}
use Rattle.lists.specs.Lists.{below}
use Rattle.definitions.specs.Kinds.{Tray}
use Rattle.definitions.specs.Stripping.{Frame, own_frame}
use Rattle.definitions.specs.Refusals.{grid_of, piece_of, strip_tray}
use Rattle.definitions.specs.declared.Record.{Record}
use Rattle.placements.specs.declared.Pieces.{Pieces}

-- the record of zeros, which stands for what lies past the end of a list
abbrev pub no_record : Record
no_record = record { a = 0; b = 0; c = 0; count = 0; wood = 0; start = 0 }

-- pieces of n records of zeros; and pieces with another record at a place
abbrev pub empty_pieces : ℕ → Pieces
empty_pieces n = record { records = replicate 16 no_record; count = n }

abbrev pub put_record : Pieces → ℕ → Record → Pieces
put_record t i p = record { records = set t.records i p; count = t.count }

-- the pieces of a list of records: the first 16, those of zeros past the end, and how many there are
unfoldable pub pieces_of : List Record → Pieces
pieces_of pieces = record { records = map (λ i. get_or pieces i no_record) (below 16); count = length pieces }

-- the records that pieces stand for: of at most 16 all, and of more as many, of which nothing else is said
abbrev pub lent_records : Bool → Pieces → List Record
lent_records true t = take t.count t.records
lent_records false t = replicate t.count no_record

unfoldable pub records_of : Pieces → List Record
records_of t = lent_records (leb t.count 16) t

-- the tray of records and a board, its answers written in a frame; the tray that they lend, in its board's own box; and the tray that is listed, without
-- empty outer layers
abbrev pub framed_in : List Record → Record → List ℕ → Frame → Tray
framed_in rs board bytes f = record { board = grid_of bytes board; pieces = map (piece_of bytes) rs; frame = f }

abbrev pub lent_in : List Record → Record → List ℕ → Tray
lent_in rs board bytes = record { board = grid_of bytes board; pieces = map (piece_of bytes) rs; frame = own_frame (grid_of bytes board) }

abbrev pub tray_in : List Record → Record → List ℕ → Tray
tray_in rs board bytes = strip_tray (lent_in rs board bytes)
