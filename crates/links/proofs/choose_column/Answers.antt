-- `choose_column` meets its contract: each turn of the loop is one step of `pivot`. Assumes nothing.
use native.Mathlib.Omega.{arith}
use mathlib.Core.Path.{refl, sym, ◌∙◌}
use Rattle.links.specs.Links.{size_of}
use Rattle.links.specs.Search.{least, pivot}
use Rattle.links.proofs.Pivot.{pivot_taken, pivot_left, still_found}
use Rattle.links.proofs.choose_column.Goals as goal
use Rattle.links.proofs.choose_column.Goals.{else-is_better, then-is_better}

pub loop-i-init : goal.loop-i-init
unfolding least pivot
loop-i-init c = (refl, refl)

pub loop-i-preserved : goal.loop-i-preserved
loop-i-preserved c =
    let sizes = size_of c.args.links.now in
    let n = c.get-n.ensures.value in
    let l = c.loop-i in
    elim c.if-is_better.branch [
      | then-is_better w ↦ let r = pivot_taken sizes l.invariant.0 n c.is_better.ensures w.if-is_better.true in
          (w.fewest-is ∙ r.0, rw w.best-is (sym r.1, omega (arith, r.1)))
      | else-is_better w ↦ let r = pivot_left sizes l.invariant.0 n c.is_better.ensures w.if-is_better.false in
          (w.fewest-is ∙ r.0, rw (w.best-is, r.1) (still_found l.best (pivot sizes l.i) l.i l.invariant.1))
    ]
