-- The letter is put, and the number behind it, of at most three digits. Assumes nothing.
use Rattle.dlx.proofs.LineLaws.{put_letter}
use Rattle.dlx.proofs.lines.put_item.Goals as goal

pub returns : goal.returns
returns c = put_letter c.requires.0 c.requires.1 c.put_decimal.ensures.0
