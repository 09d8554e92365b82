-- `text` meets its contract: of at most 16 records the pieces have all, and a call with more is refused, whatever they are. Assumes nothing.
use Rattle.std.proofs.Common.{◌∙◌, ap}
use Rattle.definitions.specs.TextCalls.{text_outcome}
use Rattle.placements.specs.declared.Pieces.{Pieces}
use Rattle.placements.specs.Pieces.{records_of}
use Rattle.theorems.proofs.TextRightLaws.{meets_text}
use Rattle.dlx.specs.Texts.{text_call}
use Rattle.dlx.proofs.RecordLaws.{text_outcome_same}
use Rattle.dlx.proofs.records.text.Goals as goal

pub returns-clause-outcome : goal.returns-clause-outcome
returns-clause-outcome c =
    let a = c.args in
    let taken = ap (λ (t : Pieces). text_outcome (text_call (records_of t) a.board a.bytes.now a.output.now a.work.now)) c.taken.ensures in
    c.text.ensures.outcome ∙ taken ∙ text_outcome_same a.board a.bytes.now a.output.now a.work.now a.pieces.now

pub returns-clause-demand : goal.returns-clause-demand
returns-clause-demand c = meets_text _ _ (returns-clause-outcome c)
