-- `page` meets its contract: refused, it leaves what it was lent; else the engine's answers over the row system are the call's list, so
-- what is left is the outcome. The user's sentences follow from the outcome. Assumes nothing.
use Rattle.std.proofs.Common.{◌≤◌, ℕ, List, length, sym, ap, ◌∙◌, subst}
use Rattle.std.proofs.lemmas.Result.{err_from_is_err_and}
use Rattle.std.specs.Prelude.{Err}
use Rattle.definitions.specs.Outcomes.{Reply, outcome_of}
use Rattle.definitions.specs.declared.Refusal.{Refusal}
use Rattle.theorems.proofs.StartLaws.{meets_from}
use Rattle.placements.specs.Pieces.{records_of}
use Rattle.solver.specs.Preparing.{Prepares}
use Rattle.solver.proofs.PreparedLaws.{stands_sized}
use Rattle.solver.proofs.CallLaws.{box_some, links_few, links-long, page_left, refused_outcome, work-long}
use Rattle.solver.proofs.pages.page.Goals as goal

-- the row system stands in the slices
pub invariant_of-system : goal.invariant_of-system
unfolding Prepares
invariant_of-system c =
    let s = c.in_ok-d.ensures in
    record { sized = stands_sized _ _ _ _ _ _ _ _ _ _ s; ready = ∣ s.ready ∣₁ }

pub list-e-requires : goal.list-e-requires
unfolding Prepares
list-e-requires c =
    let a = c.args in
    let s = c.in_ok-d.ensures in (
      box_some _ _ _ _ a.answers.now _ a.links.now _ _ _ s,
      links-long _ _ _ _ a.answers.now _ a.links.now _ _ _ s,
      links_few _ _ _ _ a.answers.now _ a.links.now _ _ _ s,
    )

pub clear_work-requires : goal.clear_work-requires
unfolding Prepares
clear_work-requires c =
    let a = c.args in
    let long : 8192 ≤ length a.work.now = work-long _ _ _ _ a.answers.now _ a.links.now _ _ _ c.in_ok-d.ensures in
    subst (λ (n : ℕ). 8192 ≤ n) (sym c.prepare.auto.work) long

pub clear_links-requires : goal.clear_links-requires
unfolding Prepares
clear_links-requires c k =
    let a = c.args in
    subst (λ (n : ℕ). 32768 ≤ n) (sym c.list-e.auto.links) (links-long _ _ _ _ a.answers.now _ a.links.now _ _ _ c.in_ok-d.ensures k)

pub returns-in_err-d-clause-outcome : goal.returns-in_err-d-clause-outcome
unfolding Prepares
returns-in_err-d-clause-outcome c =
    let a = c.args in
    let why = c.in_err-d.field-0.0 in
    let refused = c.in_err-d.ensures in
    let r = err_from_is_err_and c.from_residual.result c.from_residual.ensures.1 in
    let rs = records_of a.pieces.now in
    ap (λ (x : Reply). outcome_of x a.answers.now c.prepare.new.work a.links.now) (r.1 ∙ ap (λ (x : Refusal). Err x) r.2)
    ∙ ap (λ (w : List ℕ). outcome_of (Err why) a.answers.now w a.links.now) refused.untouched
    ∙ refused_outcome rs a.board a.bytes.now a.config a.answers.now a.work.now a.links.now a.start a.last.now why refused.first

pub returns-in_err-d-clause-meets : goal.returns-in_err-d-clause-meets
returns-in_err-d-clause-meets c = meets_from c.args.start c.args.last.now _ _ (returns-in_err-d-clause-outcome c)

pub returns-clause-outcome : goal.returns-clause-outcome
unfolding Prepares
returns-clause-outcome c =
    let a = c.args in
    let e' = c.list-e in
    let work' = c.clear_work.new.work in
    let links' = c.clear_links.new.links in
    ap (λ (x : Reply). outcome_of x e'.new.answers work' links') c.listed.ensures
    ∙ page_left (records_of a.pieces.now) a.board a.bytes.now a.config a.answers.now a.work.now a.links.now _ _ _ c.in_ok-d.ensures a.start a.last.now
    e'.result e'.new.answers e'.ensures.page work' e'.new.links links' c.clear_work.ensures e'.ensures.behind c.clear_links.ensures

pub returns-clause-meets : goal.returns-clause-meets
returns-clause-meets c = meets_from c.args.start c.args.last.now _ _ (returns-clause-outcome c)
