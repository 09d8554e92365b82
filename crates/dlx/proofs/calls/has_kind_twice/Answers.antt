-- `has_kind_twice` meets its contract: `any` asks each kind. Assumes nothing.
use Rattle.std.proofs.Common.{◌∙◌, ◌≤◌, Bool, ltb, length, take, sym, rules, tests, arith}
use Rattle.std.proofs.lemmas.Iterator.{YieldsList-from_slice}
use Rattle.std.proofs.lemmas.Iterator.Search.{any_from_yields_List}
use Rattle.rows.specs.declared.chart.Kind.{Kind}
use Rattle.dlx.proofs.CheckLaws.{any_is, twice_is}
use Rattle.dlx.proofs.calls.has_kind_twice.Goals as goal

pub returns : goal.returns
returns c =
    let n = c.args.n in
    let kinds = c.args.kinds.now in
    let long : n ≤ length kinds = omega arith in
    let test : Kind → Bool = λ d. ltb 1 d.copies in
    any_from_yields_List test _ _ _ c.any.ensures.ran (YieldsList-from_slice (take n kinds) cc) (λ x b q k. search (rules, tests)) ∙ sym (any_is test (take n kinds))
    ∙ twice_is kinds n long
