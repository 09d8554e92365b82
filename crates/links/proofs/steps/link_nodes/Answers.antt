-- `link_nodes` meets its contract: after each turn the nodes before x are linked. Assumes nothing.
use Prim.Native.Nat.{ℕ}
use native.Mathlib.Omega.{arith}
use native.Mathlib.Numerals.{add-one}
use mathlib.Core.Path.{◌∙◌, subst}
use Rattle.links.specs.Build.{Partial}
use Rattle.links.proofs.Build.{partial_joinable, partial_next, link_last_still}
use Rattle.links.proofs.steps.link_nodes.Goals as goal

pub link_last-requires : goal.link_last-requires
link_last-requires c =
    let p = c.requires in
    let v = c.loop-x.invariant.1 p.t p.law p.part p.c_is p.n_is in
    partial_joinable p.law v (omega (arith, p.c_is)) (omega (arith, c.loop-x-test.true, p.n_is))

pub loop-x-preserved : goal.loop-x-preserved
loop-x-preserved c =
    let p = c.requires in
    let i = c.loop-x.invariant in
    let v = i.1 p.t p.law p.part p.c_is p.n_is in (
      omega arith,
      λ t law q e g. rw (c.link_last.ensures, add-one) (partial_next law (i.1 t law q e g) (omega arith) (omega arith)),
      λ k h. rw c.link_last.ensures (link_last_still
          (partial_joinable p.law v (omega (arith, p.c_is)) (omega (arith, c.loop-x-test.true, p.n_is))) k h
          ∙ i.2 k h),
    )

pub returns-clause-linked : goal.returns-clause-linked
returns-clause-linked c = λ t law q e g. subst (λ (n : ℕ). Partial t n c.loop-x.links) (omega arith) (c.loop-x.invariant.1 t law q e g)
