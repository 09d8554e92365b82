-- `volume_of` meets its contract: a box with no side above 8 has the cells that are counted, and any other has 0. Assumes nothing.
use mathlib.Core.Path.{sym, ◌∙◌}
use native.Mathlib.Omega.{arith}
use borrow.Author.Rules.{rules}
use Rattle.shape.specs.Coords.{as_sides}
use Rattle.shape.proofs.GridTestLaws.{short_cells, no_cells}
use Rattle.shape.proofs.cells.volume_of.Goals as goal

pub returns-then-are_short : goal.returns-then-are_short
returns-then-are_short c =
    (c.volume_of_short.ensures.0 ∙ sym (short_cells (as_sides c.args.s) (search rules)), c.volume_of_short.ensures.1)

pub returns-else-are_short : goal.returns-else-are_short
returns-else-are_short c = (no_cells (as_sides c.args.s) (search rules), omega arith)
