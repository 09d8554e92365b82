-- `always_mirrorable` meets its contract: whether the kinds from k on have partners with as many copies is what all kinds say. Assumes nothing.
use Rattle.std.proofs.Common.{Bool, true, false, ◌≡◌, sym, ◌∙◌, arith}
use borrow.Author.Tests.{eq-eqb, ne_eqb}
use lib.Dec.{eqb}
use Rattle.lists.proofs.RangeLaws.{all_failed, all_next, all_done}
use Rattle.fast.proofs.PrunedLaws.{mirrors, mirrors_not, mirrors_told, mirrorable_start}
use Rattle.fast.proofs.pruning.always_mirrorable.Goals as goal
use Rattle.fast.proofs.pruning.always_mirrorable.Goals.{After-copies_of-in-loop-k}

-- whether kind k has a partner with as many copies
told : (c : After-copies_of-in-loop-k) (b : Bool) → eqb c.copies_of.result c.copies_of-in-loop-k.result ≡ b
    → mirrors c.args.system.now.chart.now c.args.system.now.d.kinds c.loop-k.k ≡ b
told c b e =
    let s = c.args.system.now in
    let x = c.copies_of in
    let y = c.copies_of-in-loop-k in
    mirrors_told s.chart.now s.d.kinds c.loop-k.k c.partner_of-p.result c.partner_of-p.ensures (omega arith) x.result y.result x.ensures.0 y.ensures.0 b e

pub returns-then-system-p : goal.returns-then-system-p
returns-then-system-p c =
    let a = c.args in
    let s = a.system.now in
    let n = s.d.kinds in
    let k = c.loop-k.k in
    let p = c.partner_of-p in
    sym (all_failed (mirrors s.chart.now n) k n (omega arith) (mirrors_not s.chart.now n k p.result p.ensures c.if-system-p.true))
    ∙ c.loop-k.invariant ∙ mirrorable_start s.d s.work.now s.chart.now

pub returns-then-copies_of : goal.returns-then-copies_of
returns-then-copies_of c =
    let s = c.args.system.now in
    let unlike = told (goal.at.returns-then-copies_of c).After-copies_of-in-loop-k false (ne_eqb _ _ c.if-copies_of.true) in
    sym (all_failed _ c.loop-k.k s.d.kinds (omega arith) unlike) ∙ c.loop-k.invariant ∙ mirrorable_start s.d s.work.now s.chart.now

pub loop-k-preserved : goal.loop-k-preserved
loop-k-preserved c =
    let alike = told (goal.at.loop-k-preserved c).After-copies_of-in-loop-k true (eq-eqb _ _ c.if-copies_of.false) in
    sym (all_next _ c.loop-k.k c.args.system.now.d.kinds (omega arith) alike) ∙ c.loop-k.invariant

pub returns : goal.returns
returns c =
    let a = c.args in
    let s = a.system.now in
    let n = s.d.kinds in
    sym (all_done (mirrors s.chart.now n) c.loop-k.k n c.loop-k-test.false) ∙ c.loop-k.invariant ∙ mirrorable_start s.d s.work.now s.chart.now
