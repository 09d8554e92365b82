-- `empty` meets its contract: the fact that a kind keeps has one proof. Assumes nothing.
use Prim.Native.Nat.{◌≤◌}
use mathlib.Core.Path.{◌≡◌, ap}
use lib.ListN.{replicate}
use Rattle.std.proofs.Props.{props}
use Rattle.rows.specs.declared.chart.Kind.{Kind}
use Rattle.rows.proofs.chart.Chart.empty.Goals as goal

pub returns-clause-kinds : goal.returns-clause-kinds
returns-clause-kinds c =
    let kind : 0 ≤ 512 → Kind = λ p. record { copies = 0; partner = 0; size = 0; few = p } in
    let one : (p q : 0 ≤ 512) → p ≡ q = hlevel props in
    ap (λ (p : 0 ≤ 512). replicate 16 (kind p)) (one _ _)
