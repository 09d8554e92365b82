-- `tell_cells` meets its contract. The loop's invariant: the rows from i on are laid, and of the kind of row i so many stand before it as are counted. Assumes
-- nothing.
use mathlib.Core.Path.{◌≡◌}
use lib.ListN.{length}
use Rattle.definitions.specs.Packing.{used}
use Rattle.rows.proofs.AnsweringLaws.{rows_to}
use Rattle.rows.proofs.TellingLaws.{told_from}
use Rattle.rows.proofs.answers.tell_cells.Given as goal

abbrev pub invariant-loop-i : goal.invariant-loop-i
invariant-loop-i l =
    (length l.told ≡ length l.initial.told) × (l.used ≡ used (rows_to l.work l.path l.i) l.kind)
    × (l.told ≡ told_from l.d l.work l.chart l.path l.i)
