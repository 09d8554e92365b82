-- The bar and the items of the kinds before k are put, in at most five bytes each and the bar in two.
use Rattle.std.proofs.Common.{◌≡◌, ◌+◌, ◌*◌, ◌≤◌, length, ltb}
use Rattle.rows.specs.Charts.{kind_copies}
use Rattle.texts.specs.Put.{Put}
use Rattle.dlx.proofs.LineLaws.{kinds_to}
use Rattle.dlx.proofs.lines.put_kinds.Given as goal

abbrev pub invariant-loop-k : goal.invariant-loop-k
invariant-loop-k l =
    (length l.line ≡ length l.fn.line) × (l.end ≤ l.at + 5 * l.k + 2)
    × Put l.fn.line l.at (kinds_to (λ k. ltb 0 (kind_copies l.chart.kinds k)) l.k) l.line l.end
