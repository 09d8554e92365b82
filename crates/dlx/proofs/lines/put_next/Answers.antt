-- A space is put, and the item behind it. Assumes nothing.
use Rattle.dlx.proofs.LineLaws.{put_space}
use Rattle.dlx.proofs.lines.put_next.Goals as goal

pub returns : goal.returns
returns c = put_space c.requires.0 c.requires.1 c.put_item.ensures.0
