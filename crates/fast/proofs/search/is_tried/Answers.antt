-- `is_tried` meets its contract: the three tests, one after the other. Assumes nothing.
use Rattle.std.proofs.Common.{Bool, true, false, not, ◌&&◌, ◌||◌, ◌≡◌, refl, ap, ◌∙◌}
use Rattle.definitions.specs.Starts.{waits_at}
use Rattle.masks.specs.Masks.{apart, has, either}
use Rattle.masks.specs.declared.Mask.{Mask}
use Rattle.rows.specs.Rows.{mask_at, row_at}
use Rattle.rows.specs.Shown.{shows_row}
use Rattle.rows.specs.Systems.{owned_in}
use Rattle.rows.proofs.StandingLaws.{stands}
use Rattle.kept.proofs.WantedLaws.{leads_while}
use Rattle.fast.proofs.UnmetLaws.{test_fails, test_passes}
use Rattle.fast.proofs.AheadLaws.{goes_below}
use Rattle.fast.proofs.search.is_tried.Goals as goal
use Rattle.fast.proofs.search.is_tried.Goals.{then-is_clear, else-is_clear}

both : (a b c : Bool) → ((a && b) && c) ≡ (a && (b && c))
both true b c = refl
both false b c = refl

pub returns-then-leads : goal.returns-then-leads
returns-then-leads c =
    let a = c.args in
    let s = a.wanted.now.system in
    let r = c.requires in
    let clear = apart 128 (has (mask_at s.work.now a.r)) (has a.covered) in
    let shows = not (waits_at a.e.now.start) || shows_row (owned_in s.chart.now.pieces s.d.pieces) a.wanted.now.shown (row_at s.work.now a.r) in
    let two : c.if-is_clear.value ≡ (clear && shows) =
    elim c.if-is_clear.branch [
      | then-is_clear w ↦ w.value-is ∙ test_passes clear shows c.is_clear.result w.leads.result c.is_clear.ensures w.if-is_clear.true
          (w.leads.ensures ∙ leads_while _ _ _ _ _ w.shown_while.ensures)
      | else-is_clear w ↦ w.value-is ∙ w.if-is_clear.false ∙ test_fails clear shows c.is_clear.result c.is_clear.ensures w.if-is_clear.false
    ] in
    test_passes (clear && shows) _ c.if-is_clear.value _ two c.if-leads.true
    (c.goes_on.ensures
    ∙ goes_below a.state.now.left a.covered c.union.result (stands a.wanted.now.system) a.r a.kind r.0 r.1
    (c.union.ensures ∙ ap (λ (m : Mask). either (has a.covered) (has m)) c.mask_at-mask.ensures))
    ∙ both clear shows _
