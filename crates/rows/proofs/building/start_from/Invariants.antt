-- `start_from` meets its contract. The loop's invariant: s is no later than where the ranges from i on begin. Assumes nothing.
use Prim.Native.Nat.{◌≤◌}
use Rattle.rows.specs.Rows.{rows_in}
use Rattle.rows.specs.Ranges.{start_of}
use Rattle.rows.proofs.building.start_from.Given as goal

abbrev pub invariant-loop-s : goal.invariant-loop-s
invariant-loop-s l = l.s ≤ start_of (rows_in l.work l.rows) l.i
