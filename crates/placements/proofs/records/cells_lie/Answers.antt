-- `cells_lie` meets its contract: the cells end in the bytes if they begin there and what is left is long enough. Assumes nothing.
use Rattle.std.proofs.Common.{◌∙◌}
use borrow.Author.Tests.{lt-leb}
use Rattle.placements.proofs.RefusalLaws.{lie_not, lie_left}
use Rattle.placements.proofs.records.cells_lie.Goals as goal

pub returns-then-r-bytes : goal.returns-then-r-bytes
returns-then-r-bytes c = lie_left c.args.bytes.now c.args.r _ c.volume_of.ensures.0 c.if-r-bytes.true

pub returns-else-r-bytes : goal.returns-else-r-bytes
returns-else-r-bytes c = lt-leb _ _ c.if-r-bytes.false ∙ lie_not c.args.bytes.now c.args.r c.if-r-bytes.false
