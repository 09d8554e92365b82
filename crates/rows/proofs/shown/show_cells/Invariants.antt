-- `show_cells` meets its contract. The loop's invariant: the cells before c have their two bytes. Assumes nothing.
use mathlib.Core.Path.{◌≡◌}
use lib.ListN.{length, take}
use Rattle.rows.specs.Shown.{Shown}
use Rattle.rows.proofs.shown.show_cells.Given as goal

abbrev pub invariant-loop-c : goal.invariant-loop-c
invariant-loop-c l = (length l.shown ≡ length l.initial.shown) × Shown l.c (take l.d.places l.chart.scans) l.last l.shown
