-- `text` meets its contract: refused, it leaves what it was lent; else the text over the row system is the tray's, and what is left is the outcome. What
-- document 02 demands follows from the outcome. Assumes nothing.
use Rattle.std.proofs.Common.{◌≡◌, length, ap, ◌∙◌, subst}
use Rattle.std.proofs.lemmas.Result.{err_from_is_err_and}
use Rattle.std.specs.Prelude.{Err}
use Rattle.definitions.specs.Outcomes.{number_of}
use Rattle.definitions.specs.TextCalls.{TextReply, text_outcome_of}
use Rattle.definitions.specs.declared.Config.{Config}
use Rattle.rows.specs.Systems.{system_in}
use Rattle.definitions.specs.declared.Refusal.{Refusal}
use Rattle.theorems.proofs.TextRightLaws.{meets_text, text_demand_holds}
use Rattle.placements.specs.Pieces.{records_of}
use Rattle.solver.specs.Preparing.{Prepares, refusal_by}
use Rattle.solver.proofs.PreparedLaws.{stands_sized}
use Rattle.dlx.specs.Texts.{Checked}
use Rattle.dlx.proofs.CheckLaws.{cell_to_cover, has_text, has_room}
use Rattle.dlx.proofs.OutcomeLaws.{listing_refused, text_refused_by, text_written, words_many}
use Rattle.dlx.proofs.calls.text.Goals as goal

pub returns-in_err-d-clause-outcome : goal.returns-in_err-d-clause-outcome
unfolding Prepares
returns-in_err-d-clause-outcome c =
    let a = c.args in
    let why = c.in_err-d.field-0.0 in
    let r = err_from_is_err_and c.from_residual.result c.from_residual.ensures.1 in
    let rs = records_of a.pieces.now in
    let first = subst (λ (g : Config). number_of why ≡ refusal_by rs a.board a.bytes.now g (length a.work.now) 0) c.plain_fast.ensures c.in_err-d.ensures.first in
    ap (λ (x : TextReply). text_outcome_of x a.output.now a.work.now) (r.1 ∙ ap (λ (x : Refusal). Err x) r.2)
    ∙ listing_refused rs a.board a.bytes.now a.output.now a.work.now why first

pub returns-in_err-d-clause-demand : goal.returns-in_err-d-clause-demand
returns-in_err-d-clause-demand c = meets_text _ _ (returns-in_err-d-clause-outcome c)

pub returns-in_err-d-clause-texts : goal.returns-in_err-d-clause-texts
returns-in_err-d-clause-texts c = text_demand_holds

pub invariant_of-system : goal.invariant_of-system
unfolding Prepares
invariant_of-system c =
    let s = c.in_ok-d.ensures in
    record { sized = stands_sized _ _ _ _ _ _ _ _ _ _ s; ready = ∣ s.ready ∣₁ }

pub returns-in_err-length-clause-outcome : goal.returns-in_err-length-clause-outcome
unfolding Prepares
returns-in_err-length-clause-outcome c =
    let a = c.args in
    let s = c.in_ok-d.ensures in
    let why = c.in_err-length.field-0.0 in
    let x = c.from_residual-in_err-length in
    let r = err_from_is_err_and x.result x.ensures.1 in
    let rs = records_of a.pieces.now in
    let accepted = subst (λ (g : Config). refusal_by rs a.board a.bytes.now g (length a.work.now) 0 ≡ 0) c.plain_fast.ensures s.accepted in
    ap (λ (y : TextReply). text_outcome_of y a.output.now a.work.now) (r.1 ∙ ap (λ (y : Refusal). Err y) r.2)
    ∙ text_refused_by rs a.board a.bytes.now a.output.now a.work.now accepted _ s.system why c.in_err-length.ensures

pub returns-in_err-length-clause-demand : goal.returns-in_err-length-clause-demand
returns-in_err-length-clause-demand c = meets_text _ _ (returns-in_err-length-clause-outcome c)

pub returns-in_err-length-clause-texts : goal.returns-in_err-length-clause-texts
returns-in_err-length-clause-texts c = text_demand_holds

pub write-requires : goal.write-requires
unfolding Checked
write-requires c =
    let passed = c.in_ok-length.ensures.1 in
    let s = system_in c.in_ok-d.d c.prepare.new.work c.prepare.new.chart in
    let room = length c.args.output.now in
    (cell_to_cover c.in_ok-d.d c.prepare.new.work c.prepare.new.chart (has_text s room passed), has_room s room passed)

pub clear_work-requires : goal.clear_work-requires
unfolding Prepares
clear_work-requires c =
    let a = c.args in
    let s = c.in_ok-d.ensures in
    let rs = records_of a.pieces.now in
    let accepted = subst (λ (g : Config). refusal_by rs a.board a.bytes.now g (length a.work.now) 0 ≡ 0) c.plain_fast.ensures s.accepted in
    words_many rs a.board a.bytes.now a.output.now a.work.now accepted _ s.system

pub returns-clause-outcome : goal.returns-clause-outcome
unfolding Prepares
returns-clause-outcome c =
    let a = c.args in
    let s = c.in_ok-d.ensures in
    let rs = records_of a.pieces.now in
    let accepted = subst (λ (g : Config). refusal_by rs a.board a.bytes.now g (length a.work.now) 0 ≡ 0) c.plain_fast.ensures s.accepted in
    text_written rs a.board a.bytes.now a.output.now a.work.now accepted _ s.system c.in_ok-length.length c.in_ok-length.ensures c.write.new.output c.clear_work.new.work
    c.write.ensures c.clear_work.ensures

pub returns-clause-demand : goal.returns-clause-demand
returns-clause-demand c = meets_text _ _ (returns-clause-outcome c)

pub returns-clause-texts : goal.returns-clause-texts
returns-clause-texts c = text_demand_holds
