-- `board_grid` meets its contract: the board's sides fit, and its cells lie in the bytes. Assumes nothing.
use Rattle.placements.proofs.CountingLaws.{board_fits}
use Rattle.placements.proofs.TrayLaws.{lent}
use Rattle.placements.proofs.trays.LentTray.board_grid.Goals as goal

pub grid_of-requires : goal.grid_of-requires
grid_of-requires c = board_fits _ _ _ (lent c.args.self.now)
