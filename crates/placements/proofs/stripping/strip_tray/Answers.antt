-- `strip_tray` meets its contract: the board's grid first, then those of the pieces, which do not touch it. Assumes nothing.
use Rattle.std.proofs.Common.{arith}
use Rattle.placements.proofs.CountingLaws.{board_fits}
use Rattle.placements.proofs.StrippingLaws.{grids_written, strips_tray}
use Rattle.placements.proofs.TrayLaws.{lent, sound_pieces}
use Rattle.placements.proofs.stripping.strip_tray.Goals as goal

pub strip_record-board-requires : goal.strip_record-board-requires
strip_record-board-requires c =
    let fits = board_fits _ _ _ (lent c.args.tray.now) in
    (fits.0, fits.1, omega arith)

pub strip_pieces-pieces-requires : goal.strip_pieces-pieces-requires
strip_pieces-pieces-requires c = (sound_pieces c.args.tray.now, omega (arith, c.strip_record-board.auto.out))

pub returns : goal.returns
returns c =
    let t = c.args.tray.now in
    let out = c.args.out.now in
    let board = c.strip_record-board in
    let pieces = c.strip_pieces-pieces in (
      strips_tray t.pieces t.board t.bytes.now (lent t) (omega arith) board.result pieces.result out _ _ board.ensures pieces.ensures c.requires,
      grids_written t.pieces t.board t.bytes.now board.result pieces.result out _ _ board.ensures pieces.ensures,
    )
