-- What a tray that is lent stands for.
use Rattle.std.specs.Prelude.{ℕ}
use Rattle.definitions.specs.Grid.{Grid}
use Rattle.definitions.specs.Kinds.{Tray}
use Rattle.definitions.specs.Refusals.{grid_of}
use Rattle.placements.specs.declared.trays.LentTray.{LentTray}
use Rattle.placements.specs.Pieces.{records_of, lent_in}
use Rattle.placements.specs.Merging.{grid_at}

-- the grid of its board, and that of piece i
abbrev pub board_grid : LentTray → Grid
board_grid t = grid_of t.bytes.now t.board

abbrev pub piece_grid : LentTray → ℕ → Grid
piece_grid t i = grid_at t.pieces t.bytes.now i

-- the tray that it lends, in its board's own box
abbrev pub lent_tray : LentTray → Tray
lent_tray t = lent_in (records_of t.pieces) t.board t.bytes.now
