-- `ferghuul_1_dlx1` meets its contract: what the call over records answers is said in numbers, which say the same. Assumes nothing.
use mathlib.Core.Path.{sym, subst, ◌∙◌}
use Rattle.definitions.specs.TextCalls.{TextDemand}
use Rattle.dlx.specs.Texts.{text_call}
use Rattle.ferghuul.proofs.NumberLaws.{text_numbers}
use Rattle.ferghuul.proofs.ferghuul_1_dlx1.Goals as goal

pub returns-clause-outcome : goal.returns-clause-outcome
returns-clause-outcome c =
    let r = c.text in
    text_numbers r.result c.into.result r.new.output r.new.work c.into.ensures ∙ r.ensures.outcome

pub returns-clause-demand : goal.returns-clause-demand
returns-clause-demand c =
    let a = c.args in
    let r = c.text in
    let e = text_numbers r.result c.into.result r.new.output r.new.work c.into.ensures in
    subst (TextDemand (text_call a.pieces.now a.board a.bytes.now a.output.now a.work.now)) (sym e) r.ensures.demand
