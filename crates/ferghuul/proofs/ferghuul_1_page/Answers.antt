-- `ferghuul_1_page` meets its contract: the numbers are made a configuration and a start, the slices go to the page call over records, and what that answers
-- is said in numbers, which say the same. Assumes nothing.
use mathlib.Core.Path.{◌∙◌, ap₂}
use Rattle.definitions.specs.Starts.{outcome_from}
use Rattle.definitions.specs.declared.Config.{Config}
use Rattle.definitions.specs.declared.Start.{Start}
use Rattle.theorems.proofs.StartLaws.{meets_from}
use Rattle.solver.specs.Lent.{call_with}
use Rattle.ferghuul.proofs.NumberLaws.{outcome_numbers}
use Rattle.ferghuul.proofs.ferghuul_1_page.Goals as goal

pub returns-clause-outcome : goal.returns-clause-outcome
returns-clause-outcome c =
    let a = c.args in
    let r = c.page in
    let n = c.into in
    let call = λ (k : Config). call_with a.pieces.now a.board a.bytes.now k a.answers.now a.work.now a.links.now in
    outcome_numbers r.result n.result r.new.answers r.new.work r.new.links n.ensures
    ∙ r.ensures.outcome
    ∙ ap₂ (λ (s : Start) (k : Config). outcome_from s a.last.now (call k)) c.start_of-start.ensures c.config_of-config.ensures

pub returns-clause-meets : goal.returns-clause-meets
returns-clause-meets c = meets_from _ _ _ _ (returns-clause-outcome c)
