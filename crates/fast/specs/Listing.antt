-- What Fast lists over a row system. proofs/FastListLaws: over the system of an accepted tray its answers are document 01's list.
use Rattle.std.specs.Prelude.{ℕ, ◌*◌, Bool, ◌&&◌, cond, List, map, eqb, length, get_or}
use Rattle.lists.specs.Lists.{below, sum}
use Rattle.definitions.specs.Kept.{Identify}
use Rattle.definitions.specs.Emission.{Listed}
use Rattle.definitions.specs.Orders.{identifies_turned}
use Rattle.rows.specs.Charts.{kind_copies, kind_size}
use Rattle.rows.specs.Systems.{System}
use Rattle.rows.specs.declared.chart.Chart.{Chart}
use Rattle.kept.specs.Entries.{start_by}
use Rattle.fast.specs.Searching.{fast_below}
use Rattle.fast.specs.Pruned.{fast_first}

-- the cells of all copies together; the same of n kinds that stand in a chart
unfoldable pub total_cells : System → ℕ
total_cells s = sum (map (λ k. get_or s.copies k 0 * get_or s.sizes k 0) (below (length s.copies)))

unfoldable pub cells_in : Chart → ℕ → ℕ
cells_in chart n = sum (map (λ k. kind_copies chart.kinds k * kind_size chart.kinds k) (below n))

-- "The piece of merged kind 0 is placed first exactly if turned packings are identified, that kind has one copy, and all copies together have as many
-- cells as the board."
unfoldable pub first_by : System → Identify → Bool
first_by s i = identifies_turned i && (eqb (get_or s.copies 0 0) 1 && eqb (total_cells s) s.size)

-- the list
unfoldable pub fast_answers : System → Identify → List Listed
fast_answers s i = cond (first_by s i) (fast_first s i (start_by s)) (fast_below s i (start_by s))
