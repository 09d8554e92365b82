-- `has_no_text` meets its contract: there is no primary item, or the kinds decide. Assumes nothing.
use Rattle.std.proofs.Common.{◌≡◌, ◌∙◌, true, nat_eq, sym, rules, tests}
use Rattle.dlx.proofs.CheckLaws.{none_to_cover, by_kinds}
use Rattle.dlx.proofs.calls.has_no_text.Goals as goal

pub returns-then-system-eq0 : goal.returns-then-system-eq0
returns-then-system-eq0 c =
    let s = c.args.system.now in
    let e : nat_eq s.d.size 0 ≡ true = search (rules, tests) in
    e ∙ sym (none_to_cover s.d s.work.now s.chart.now c.if-system-eq0.true)

pub returns-else-system-eq0 : goal.returns-else-system-eq0
returns-else-system-eq0 c =
    let s = c.args.system.now in
    c.has_kind_twice.ensures ∙ by_kinds s.d s.work.now s.chart.now c.if-system-eq0.false
