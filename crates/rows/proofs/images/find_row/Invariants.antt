-- `find_row` meets its contract. The loop's invariant: no row before r has the kind and the cells, since such a row is of the range. Assumes nothing.
use mathlib.Core.List.{◌∷◌}
use Rattle.rows.specs.Rows.{cells_of}
use Rattle.rows.proofs.RowRangeLaws.{Passed}
use Rattle.rows.proofs.images.find_row.Given as goal

abbrev pub invariant-loop-r : goal.invariant-loop-r
invariant-loop-r l = Passed l.work (l.kind ∷ cells_of l.mask) l.r
