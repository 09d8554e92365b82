-- `turnings_of` meets its contract: at most 16 kinds have at most 24 variants each. Assumes nothing.
use Rattle.std.proofs.Common.{arith}
use Rattle.placements.proofs.TrayLaws.{few_kinds}
use Rattle.placements.proofs.counted.CountedTray.turnings_of.Goals as goal

pub offset_bounds-turnings-k : goal.offset_bounds-turnings-k
offset_bounds-turnings-k c = let few = few_kinds c.args.self.now in omega arith

pub bounds-turnings-k : goal.bounds-turnings-k
bounds-turnings-k c = let few = few_kinds c.args.self.now in omega arith
