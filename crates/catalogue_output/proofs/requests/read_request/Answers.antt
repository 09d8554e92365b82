-- No line is ended, or something stands behind the first, or that line decides. Assumes nothing.
use Rattle.std.proofs.Common.{◌≡◌, length, sym, ◌∙◌, arith}
use borrow.Author.Tests.{eqb-true, eqb-false}
use Rattle.catalogue_output.proofs.RequestLaws.{alone, asked_is, longer, unended}
use Rattle.catalogue_output.proofs.requests.read_request.Goals as goal

pub returns-in_err-line : goal.returns-in_err-line
returns-in_err-line c = rw c.from_residual.ensures (unended c.args.text.now c.in_err-line.ensures)

pub returns-then-not-is_empty : goal.returns-then-not-is_empty
returns-then-not-is_empty c =
    let d : length c.in_ok-line.rest.now ≡ 0 → ⊥ = eqb-false (length c.in_ok-line.rest.now) 0 (sym c.is_empty.ensures ∙ c.if-not-is_empty.true) in
    longer c.in_ok-line.ensures (omega arith)

pub returns : goal.returns
returns c =
    let rest = c.in_ok-line.rest.now in
    let none = eqb-true (length rest) 0 (sym c.is_empty.ensures ∙ c.if-not-is_empty.false) in
    rw (alone c.in_ok-line.ensures none, asked_is c.in_ok-line.ensures) c.count_asked.ensures
