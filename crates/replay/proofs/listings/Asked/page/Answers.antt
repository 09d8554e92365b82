-- `page` meets its contract: a page that starts at an entry, by its number, never lacks the entry. Assumes nothing.
use Rattle.std.proofs.Common.{◌≡◌, ℕ, List, sym, ap, ◌∙◌}
use Rattle.std.specs.Prelude.{Option, None, Ok}
use mathlib.Core.Bool.{true≢false}
use Rattle.definitions.specs.Outcomes.{Outcome, outcome_of}
use Rattle.definitions.specs.Refusals.{Call}
use Rattle.definitions.specs.Starts.{outcome_from}
use Rattle.definitions.specs.declared.Page.{Page}
use Rattle.definitions.specs.declared.Start.TheVariants.{Entry}
use Rattle.theorems.proofs.StartLaws.{entry_told}
use Rattle.replay.proofs.listings.Asked.page.Goals as goal

found : (o : Option Page) (answers work links : List ℕ) (k : ℕ) (last : List ℕ) (l : Call) → o ≡ None → outcome_of (Ok o) answers work links ≡ outcome_from (Entry k) last l → ⊥
unfolding outcome_of
found o answers work links k last l is e =
    true≢false (ap (λ (x : Option Page). (outcome_of (Ok x) answers work links).missing) (sym is) ∙ ap (λ (x : Outcome). x.missing) e ∙ entry_told k last l)

pub unreachable-requires : goal.unreachable-requires
unreachable-requires c = found _ _ _ _ _ _ _ c.in_default.is c.in-Ok.ensures.outcome
