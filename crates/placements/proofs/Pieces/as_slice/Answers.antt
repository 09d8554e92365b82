-- `as_slice` meets its contract: of at most 16 pieces the records are the first ones. Assumes nothing.
use Rattle.std.proofs.Common.{sym}
use Rattle.placements.proofs.RefusalLaws.{records_few}
use Rattle.placements.proofs.Pieces.as_slice.Goals as goal

pub returns : goal.returns
returns c = sym (records_few c.args.self.now c.requires)
