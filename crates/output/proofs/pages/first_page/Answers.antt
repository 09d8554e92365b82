-- The page call is accepted, and wrote a page, or is refused. Assumes nothing.
use Rattle.std.proofs.Common.{◌*◌, refl}
use Rattle.std.proofs.Math.Seq.{length_front}
use Rattle.std.proofs.lemmas.Result.{err_from_is_err_and}
use Rattle.output.proofs.BeginLaws.{first_listed, first_refused, first_there}
use Rattle.output.proofs.pages.first_page.Goals as goal

pub returns-in_err-first : goal.returns-in_err-first
returns-in_err-first c =
    let x = c.args in
    let q = c.requires in
    let p = err_from_is_err_and c.from_residual.result c.from_residual.ensures.1 in
    rw (p.1, p.2)
    (first_refused x.text.now x.asked x.cells.now x.work.now x.links.now q.0 x.answers.now
    c.places_of-places.result c.places_of-places.ensures.0 c.places_of-places.ensures.1 q.1 q.2
    _ _ _ _ _ _ (rw c.in_err-first.was at c.page.ensures.outcome))

pub unwrap-page-requires : goal.unwrap-page-requires
unwrap-page-requires c =
    let x = c.args in
    let q = c.requires in
    first_there x.text.now x.asked x.cells.now x.work.now x.links.now q.0 x.answers.now
    c.places_of-places.result c.places_of-places.ensures.0 c.places_of-places.ensures.1 q.1 q.2
    c.in_ok-first.first _ _ _ _ (rw c.in_ok-first.was at c.page.ensures.outcome)

pub returns : goal.returns
returns c =
    let x = c.args in
    let q = c.requires in
    let page = c.page.new.answers in
    first_listed x.text.now x.asked x.cells.now x.work.now x.links.now q.0 x.answers.now
    c.places_of-places.result c.places_of-places.ensures.0 c.places_of-places.ensures.1 q.1 q.2
    c.unwrap-page.result.written c.unwrap-page.result.further _ page _ _ _ (rw (c.in_ok-first.was, c.unwrap-page.ensures) at c.page.ensures.outcome) refl
    (length_front x.answers.now page (2 * c.places_of-places.result) c.page.auto.answers)
