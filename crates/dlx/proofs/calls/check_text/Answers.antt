-- `check_text` meets its contract: 17 before 18. Assumes nothing.
use Rattle.std.proofs.Common.{◌≤◌, ◌<◌, sym, ◌∙◌, subst, ℕ}
use Rattle.dlx.specs.Texts.{Checked}
use Rattle.dlx.proofs.CheckLaws.{without_text, too_short, long_enough, cell_to_cover}
use Rattle.rows.specs.RowSystems.{seen}
use Rattle.dlx.proofs.calls.check_text.Goals as goal

pub returns-then-has_no_text : goal.returns-then-has_no_text
unfolding Checked
returns-then-has_no_text c = sym (without_text (seen c.args.system.now) c.args.room (sym c.has_no_text.ensures ∙ c.if-has_no_text.true))

pub measure-length-requires : goal.measure-length-requires
measure-length-requires c =
    let s = c.args.system.now in
    cell_to_cover s.d s.work.now s.chart.now (sym c.has_no_text.ensures ∙ c.if-has_no_text.false)

pub returns-then-room-length : goal.returns-then-room-length
unfolding Checked
returns-then-room-length c =
    let s = seen c.args.system.now in
    let long = c.measure-length.ensures in
    sym (too_short s c.args.room (sym c.has_no_text.ensures ∙ c.if-has_no_text.false) (subst (λ (n : ℕ). c.args.room < n) long c.if-room-length.true))

pub returns : goal.returns
unfolding Checked
returns c =
    let s = seen c.args.system.now in
    let long = c.measure-length.ensures in
    (long, long_enough s c.args.room (sym c.has_no_text.ensures ∙ c.if-has_no_text.false) (subst (λ (n : ℕ). n ≤ c.args.room) long c.if-room-length.false))
