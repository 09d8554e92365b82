-- `page` meets its contract: the pieces taken of the slice go to the page call over pieces, whose outcome is that of the slice; the user's
-- sentences follow from the outcome. Assumes nothing.
use mathlib.Core.Path.{◌∙◌, ap}
use mathlib.Core.List.{List}
use Rattle.definitions.specs.Starts.{outcome_from}
use Rattle.definitions.specs.declared.Record.{Record}
use Rattle.theorems.proofs.StartLaws.{meets_from}
use Rattle.placements.specs.Pieces.{records_of}
use Rattle.placements.specs.declared.Pieces.{Pieces}
use Rattle.solver.specs.Lent.{call_with}
use Rattle.solver.proofs.RecordLaws.{outcome_same}
use Rattle.solver.proofs.records.page.Goals as goal

pub returns-clause-outcome : goal.returns-clause-outcome
returns-clause-outcome c =
    let a = c.args in
    let call = λ (ps : List Record). call_with ps a.board a.bytes.now a.config a.answers.now a.work.now a.links.now in
    c.page.ensures.outcome ∙ ap (λ (t : Pieces). outcome_from a.start a.last.now (call (records_of t))) c.taken.ensures
    ∙ outcome_same a.board a.bytes.now a.config a.answers.now a.work.now a.links.now a.start a.last.now a.pieces.now

pub returns-clause-meets : goal.returns-clause-meets
returns-clause-meets c = meets_from c.args.start c.args.last.now _ _ (returns-clause-outcome c)
