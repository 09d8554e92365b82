-- The lines are put, and the last behind them. Assumes nothing.
use Rattle.std.proofs.Common.{arith}
use Rattle.definitions.specs.CatalogueCalls.{count_shown}
use Rattle.texts.proofs.PutLaws.{put_then}
use Rattle.catalogue_output.proofs.lines.put_listing.Goals as goal

pub returns : goal.returns
unfolding count_shown
returns c = put_then c.put_pieces-end.ensures.0 c.put_labelled.ensures.0 (omega arith)
