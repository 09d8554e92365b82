-- `Map::index` meets its contract: a number from 48 on stands for the map that moves nothing, as 0 does. Assumes nothing.
use mathlib.Core.Path.{sym, ◌∙◌}
use native.Mathlib.Omega.{arith}
use Rattle.theorems.proofs.MapNumberLaws.{past_maps}
use Rattle.shape.proofs.MapTableLaws.{zero_identity}
use Rattle.shape.proofs.maps.Map.index.Goals as goal

pub returns-else-n-lt48 : goal.returns-else-n-lt48
returns-else-n-lt48 c = (omega arith, zero_identity ∙ sym (past_maps c.args.self.0 (omega arith)))
