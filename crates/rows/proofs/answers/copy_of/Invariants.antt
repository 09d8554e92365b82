use Prim.Native.Nat.{◌-◌, ◌≤◌}
use mathlib.Core.Path.{◌≡◌}
use lib.ListN.{get_or}
use Rattle.rows.specs.Systems.{owned_in}
use Rattle.rows.specs.Answering.{copies_by, no_copy}
use Rattle.rows.proofs.AnsweringLaws.{copies_from}
use Rattle.rows.proofs.answers.copy_of.Given as goal

abbrev pub invariant-loop-p : goal.invariant-loop-p
invariant-loop-p l =
    let pieces = l.chart.pieces in
    (l.p ≤ l.n) × (get_or (copies_from pieces l.kind l.p (l.n - l.p)) l.left no_copy ≡ get_or (copies_by (owned_in pieces l.n) l.kind) l.i no_copy)
