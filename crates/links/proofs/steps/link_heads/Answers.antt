-- `link_heads` meets its contract: after each turn the heads before i are linked. Assumes nothing.
use native.Mathlib.Omega.{arith}
use native.Mathlib.Numerals.{add-one}
use mathlib.Core.Path.{◌∙◌}
use Rattle.links.proofs.Build.{headed_next, headed_still}
use Rattle.links.proofs.steps.link_heads.Goals as goal

pub loop-i-preserved : goal.loop-i-preserved
loop-i-preserved c = (
  λ t law f e. rw (c.link_head.ensures, add-one) (headed_next law (c.loop-i.invariant.0 t law f e) (omega arith)),
  λ k h. rw c.link_head.ensures (headed_still _ _ (omega arith) k h ∙ c.loop-i.invariant.1 k h),
)
