-- The measure is the number of uncovered cells, then the rows left in the column.
use Prim.Native.Nat.{◌+◌, ◌-◌, ◌*◌}
use mathlib.Core.Bool.{cond}
use lib.Dec.{eqb}
use Rattle.knuth.proofs.search.+choose_try_rows.Given as goal

abbrev pub decreases-choose : goal.decreases-choose
decreases-choose l = 8192 * l.left + 8191

abbrev pub decreases-try_rows : goal.decreases-try_rows
decreases-try_rows l = 8192 * l.at.left + cond (eqb l.k l.at.cell) 0 (4096 - l.k)
