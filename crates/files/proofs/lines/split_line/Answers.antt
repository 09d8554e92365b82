-- The place that the chain finds is where the first line ends. Assumes nothing.
use Rattle.std.proofs.Common.{sym, ◌∙◌, rules, tests}
use Rattle.std.proofs.lemmas.Iterator.{YieldsList-from_slice}
use Rattle.std.proofs.lemmas.Iterator.Search.{position_from_yields_List}
use Rattle.files.proofs.LineLaws.{ends, first_line, no_line}
use Rattle.files.proofs.lines.split_line.Goals as goal

pub returns-in_err-end : goal.returns-in_err-end
returns-in_err-end c =
    let e = position_from_yields_List ends _ _ _ c.position.ensures.ran (YieldsList-from_slice c.args.text.now cc) (λ x b q k. search (rules, tests)) in
    rw c.from_residual.ensures (no_line c.args.text.now (sym (c.in_err-end.was) ∙ e))

pub returns : goal.returns
returns c =
    let e = position_from_yields_List ends _ _ _ c.position.ensures.ran (YieldsList-from_slice c.args.text.now cc) (λ x b q k. search (rules, tests)) in
    first_line c.args.text.now c.in_ok-end.end (sym (c.in_ok-end.was) ∙ e)
