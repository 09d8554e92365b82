-- `Map::axes_of` meets its contract: the table that it reads is the list of the maps, entry by entry. Assumes nothing.
use mathlib.Core.Path.{◌∙◌}
use Rattle.shape.proofs.MapTableLaws.{rows, rows_at}
use Rattle.shape.proofs.maps.Map.axes_of.Goals as goal

pub returns : goal.returns
unfolding rows
returns c = rows_at c.index.result c.index.ensures.0 ∙ c.index.ensures.1
