-- `is_pruned` meets its contract: each return is one case of the definition, with the maps by their numbers. Assumes nothing.
use Rattle.std.proofs.Common.{false, ◌≡◌, sym, ◌∙◌, arith}
use Rattle.rows.specs.Systems.{system_in, system_over}
use Rattle.rows.proofs.ReadyLaws.{row_kind}
use Rattle.rows.proofs.StandingLaws.{stands}
use Rattle.rows.specs.RowSystems.{seen}
use Rattle.fast.specs.Pruned.{moved_before}
use Rattle.fast.proofs.PrunedLaws.{turned_before, mirrored_before, pruned_none, pruned_turned, pruned_not, pruned_unlike, pruned_other, pruned_mirrored}
use Rattle.fast.proofs.pruning.is_pruned.Goals as goal
use Rattle.fast.proofs.pruning.is_pruned.Goals.{After-moves_before}

-- whether a turn takes the row onto one before it
turned : (c : After-moves_before) → let s = seen c.args.wanted.now.system in c.moves_before.result ≡ moved_before s false s.turned c.args.r
turned c = let s = c.args.wanted.now.system in c.moves_before.ensures ∙ turned_before s.d s.work.now s.chart.now c.args.r

pub returns-then-not-wanted : goal.returns-then-not-wanted
returns-then-not-wanted c =
    let a = c.args in
    let s = a.wanted.now.system in
    let w = a.wanted.now in
    pruned_none (seen s) a.r w.turned w.mirrored c.if-not-wanted.true

pub returns-then-moves_before : goal.returns-then-moves_before
returns-then-moves_before c =
    let a = c.args in
    let s = a.wanted.now.system in
    let w = a.wanted.now in
    let moved = turned (goal.at.returns-then-moves_before c).After-moves_before in
    pruned_turned (seen s) a.r w.turned w.mirrored c.if-not-wanted.false (sym moved ∙ c.if-moves_before.true)

pub returns-then-not-wanted-2 : goal.returns-then-not-wanted-2
returns-then-not-wanted-2 c =
    let a = c.args in
    let s = a.wanted.now.system in
    let w = a.wanted.now in
    let moved = turned (goal.at.returns-then-not-wanted-2 c).After-moves_before in
    pruned_not (seen s) a.r w.turned w.mirrored c.if-not-wanted.false (sym moved ∙ c.if-moves_before.false)
    c.if-not-wanted-2.true

pub returns-then-not-always_mirrorable : goal.returns-then-not-always_mirrorable
returns-then-not-always_mirrorable c =
    let a = c.args in
    let s = a.wanted.now.system in
    let w = a.wanted.now in
    let moved = turned (goal.at.returns-then-not-always_mirrorable c).After-moves_before in
    pruned_unlike (seen s) a.r w.turned w.mirrored c.if-not-wanted.false (sym moved ∙ c.if-moves_before.false)
    c.if-not-wanted-2.false (sym c.always_mirrorable.ensures ∙ c.if-not-always_mirrorable.true)

pub kind_after-requires : goal.kind_after-requires
kind_after-requires c =
    let s = c.args.wanted.now.system in
    let kind = row_kind s.d s.work.now s.chart.now (stands s).lawful c.args.r c.requires in
    omega arith

pub returns-then-kind_after-ne0 : goal.returns-then-kind_after-ne0
unfolding system_in system_over
returns-then-kind_after-ne0 c =
    let a = c.args in
    let s = a.wanted.now.system in
    let w = a.wanted.now in
    let moved = turned (goal.at.returns-then-kind_after-ne0 c).After-moves_before in
    pruned_other (seen s) a.r w.turned w.mirrored c.if-not-wanted.false (sym moved ∙ c.if-moves_before.false)
    c.if-not-wanted-2.false (sym c.always_mirrorable.ensures ∙ c.if-not-always_mirrorable.false)
    (λ e. c.if-kind_after-ne0.true (c.kind_after.ensures ∙ e))

pub returns : goal.returns
unfolding system_in system_over
returns c =
    let a = c.args in
    let s = a.wanted.now.system in
    let w = a.wanted.now in
    let moved = turned (goal.at.returns c).After-moves_before in
    pruned_mirrored (seen s) a.r w.turned w.mirrored c.if-not-wanted.false (sym moved ∙ c.if-moves_before.false)
    c.if-not-wanted-2.false (sym c.always_mirrorable.ensures ∙ c.if-not-always_mirrorable.false)
    (sym c.kind_after.ensures ∙ c.if-kind_after-ne0.false) c.moves_before-2.result
    (c.moves_before-2.ensures ∙ mirrored_before s.d s.work.now s.chart.now a.r)
