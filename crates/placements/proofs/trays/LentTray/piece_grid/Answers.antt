-- `piece_grid` meets its contract: each piece's sides fit, and its cells lie in the bytes. Assumes nothing.
use Rattle.std.proofs.Common.{◌∙◌, ap, arith}
use Rattle.definitions.specs.Refusals.{grid_of}
use Rattle.placements.specs.Merging.{grid_at}
use Rattle.placements.proofs.TrayLaws.{few_pieces, piece_fits}
use Rattle.placements.proofs.trays.LentTray.piece_grid.Goals as goal

pub get-requires : goal.get-requires
get-requires c = let few = few_pieces c.args.self.now in omega arith

pub grid_of-requires : goal.grid_of-requires
grid_of-requires c = piece_fits c.args.self.now (omega arith) c.args.i c.requires c.get.result c.get.ensures

pub returns : goal.returns
unfolding grid_at
returns c = c.grid_of.ensures ∙ ap (grid_of c.args.self.now.bytes.now) c.get.ensures
