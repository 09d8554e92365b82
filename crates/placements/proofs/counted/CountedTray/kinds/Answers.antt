-- `kinds` meets its contract: the kinds are at most as many as the pieces. Assumes nothing.
use Rattle.placements.proofs.TrayLaws.{few_kinds}
use Rattle.placements.proofs.counted.CountedTray.kinds.Goals as goal

pub shared_ref_as_front-result : goal.shared_ref_as_front-result
shared_ref_as_front-result c = few_kinds c.args.self.now
