-- `turned` meets its contract: the type of the tray tells that its pieces are sound. Assumes nothing.
use Rattle.std.proofs.Common.{arith}
use Rattle.placements.proofs.TrayLaws.{sound_pieces}
use Rattle.placements.proofs.counted.CountedTray.turned.Goals as goal

pub invariant_of-result : goal.invariant_of-result
invariant_of-result c = record { many = omega arith; sound = sound_pieces c.args.self.now.tray; smallest = c.args.self.now.smallest }
