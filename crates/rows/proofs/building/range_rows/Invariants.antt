-- `range_rows` meets its contract. The loop's invariant: the starts of the ranges before i stand there, and r is no later than that of range i.
-- Assumes nothing.
use Prim.Native.Nat.{◌≤◌}
use mathlib.Core.Path.{◌≡◌}
use lib.ListN.{length}
use Rattle.rows.specs.Rows.{rows_in}
use Rattle.rows.specs.Ranges.{start_of}
use Rattle.rows.proofs.RowRangeLaws.{Begun}
use Rattle.rows.proofs.building.range_rows.Given as goal

abbrev pub invariant-loop-i : goal.invariant-loop-i
invariant-loop-i l =
    (length l.starts ≡ length l.initial.starts) × (l.r ≤ start_of (rows_in l.work l.rows) l.i) × Begun l.work l.rows l.starts l.i
