use mathlib.Core.Path.{◌≡◌}
use Rattle.rows.specs.Systems.{system_in}
use Rattle.knuth.specs.Matrix.{Laid, columns}
use Rattle.knuth.proofs.BuildingLaws.{nodes_to, end_to}
use Rattle.knuth.proofs.building.put_rows.Given as goal

abbrev pub invariant-loop-r : goal.invariant-loop-r
invariant-loop-r l =
    let s = system_in l.system.d l.system.work.now l.system.chart.now in
    (l.x ≡ end_to s l.r) × Laid l.initial.links (columns s) l.links (nodes_to s l.r)
