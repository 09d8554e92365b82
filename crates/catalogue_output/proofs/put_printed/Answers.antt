-- What is printed for a text that is no request, for an accepted call and for a refused one. Assumes nothing.
use Rattle.std.proofs.Common.{ℕ, List, drop, ap, subst, sym, arith}
use Rattle.texts.specs.Put.{Put}
use Rattle.catalogue_output.proofs.PrintedLaws.{all_have_lines, kept, lines_fit, lines_printed, refusal_printed, unchanged}
use Rattle.theorems.proofs.CataloguePrintedLaws.{catalogue_printed_right, malformed_printed}
use Rattle.catalogue_output.proofs.put_printed.Goals as goal

pub returns-in_default-clause-printed : goal.returns-in_default-clause-printed
returns-in_default-clause-printed c = rw (malformed_printed c.args.text.now c.in_default.ensures) c.put_refused.ensures.0

pub returns-in_default-clause-right : goal.returns-in_default-clause-right
returns-in_default-clause-right c = catalogue_printed_right

pub put_listing-requires : goal.put_listing-requires
put_listing-requires c =
    let x = c.args.entries.now in
    let n = c.in-Some.n in
    let d = c.in-Ok.ensures.demand in
    let fit = lines_fit n x _ c.requires.0 c.in-Ok.page d in
    (all_have_lines n x _ c.requires.0 c.in-Ok.page d, omega arith)

pub returns-in-Ok : goal.returns-in-Ok
returns-in-Ok c =
    let x = c.args in
    let n = c.in-Some.n in
    let d = c.in-Ok.ensures.demand in
    record {
      printed = subst (λ (l : List ℕ). Put x.out.now 0 l c.put_listing.new.out c.put_listing.result)
          (lines_printed n x.entries.now _ c.requires.0 c.in-Ok.page d x.text.now c.in-Some.ensures.0 c.in-Some.ensures.1) c.put_listing.ensures;
      entries = kept n x.entries.now _ c.requires.0 c.in-Ok.page d;
      right = catalogue_printed_right;
    }

pub returns-in-Err : goal.returns-in-Err
returns-in-Err c =
    let x = c.args in
    let n = c.in-Some.n in
    let d = c.in-Err.ensures.demand in
    record {
      printed = rw (sym (refusal_printed n x.entries.now _ c.in-Err.why d x.text.now c.in-Some.ensures.0 c.in-Some.ensures.1)) (rw c.number.ensures at c.put_refused-in-Err.ensures.0);
      entries = ap (drop 3486) (unchanged n x.entries.now _ c.in-Err.why d);
      right = catalogue_printed_right;
    }
