-- `reach` meets its contract: a round that gives the set that it was given is followed by none that gives another. Assumes nothing.
use Prim.Native.Nat.{ℕ, ◌-◌}
use mathlib.Core.Bool.{Bool, true, ◌&&◌}
use mathlib.Core.Path.{◌≡◌, sym, ap, ◌∙◌}
use lib.Dec.{eqb}
use borrow.Author.Tests.{eqb-true}
use Rattle.lists.proofs.TestLaws.{and_true_left, and_true_right}
use Rattle.masks.specs.Masks.{has, hit2}
use Rattle.masks.specs.declared.Mask.{Mask}
use Rattle.shape.specs.Coords.{as_sides}
use Rattle.polycubes.proofs.HangingLaws.{wider_filled, round_next, round_still}
use Rattle.polycubes.proofs.hanging.reach.Goals as goal

-- the same words have the same numbers
equal : (m n : Mask) → (eqb m.low n.low && eqb m.high n.high) ≡ true → has m ≡ has n
equal m n e = λ i k. hit2 (eqb-true m.low n.low (and_true_left _ _ e) i) (eqb-true m.high n.high (and_true_right (eqb m.low n.low) _ e) i) k

pub returns-then-eq-clause-cells : goal.returns-then-eq-clause-cells
returns-then-eq-clause-cells c =
    let a = c.args in
    let l = c.loop-i in
    let wide = c.wider-wide in
    sym (round_still (as_sides a.s) (has a.filled) (has l.far) (has wide.result) wide.ensures (equal wide.result l.far (sym c.eq.ensures ∙ c.if-eq.true)) (a.rounds - l.i))
    ∙ l.invariant.1

pub loop-i-preserved : goal.loop-i-preserved
loop-i-preserved c =
    let a = c.args in
    let l = c.loop-i in
    let e = c.wider-wide.ensures in (
      λ j t. wider_filled (as_sides a.s) (has a.filled) (has l.far) j (sym (ap (λ (f : ℕ → Bool). f j) e) ∙ t),
      sym (round_next (as_sides a.s) (has a.filled) (has l.far) (has c.wider-wide.result) e a.rounds l.i c.loop-i-test.true) ∙ l.invariant.1,
    )
