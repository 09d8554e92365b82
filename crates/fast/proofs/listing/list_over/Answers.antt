-- `list_over` meets its contract: a search begins with all copies left and nothing covered, and what it emits is Fast's list, with kind 0 first or not.
-- Assumes nothing.
use Rattle.std.proofs.Common.{ℕ, List, [], ◌≡◌, ap, ◌∙◌}
use Rattle.definitions.specs.Emission.{Listed, emits}
use Rattle.masks.specs.Masks.{has, nothing}
use Rattle.masks.specs.declared.Mask.{Mask}
use Rattle.masks.proofs.MaskLaws.{hit2_zero}
use Rattle.rows.specs.RowSystems.{seen}
use Rattle.kept.specs.Emission.{emitted_of}
use Rattle.kept.specs.Wanted.{identified}
use Rattle.fast.specs.Listing.{first_by}
use Rattle.fast.specs.Searching.{Searching, fast_below, state_by}
use Rattle.fast.proofs.ListingLaws.{first_told, searching, lists_first, lists_below}
use Rattle.fast.proofs.listing.list_over.Goals as goal
use Rattle.fast.proofs.listing.list_over.Goals.{After-is_kind_0_first}

-- a search begins with all copies left and nothing covered
begins : (c : After-is_kind_0_first) (covered : Mask) → has covered ≡ nothing → Searching (seen c.args.wanted.now.system) c.begin-state.result.left covered []
begins c covered none =
    let s = c.args.wanted.now.system in searching s.d s.work.now s.chart.now c.begin-state.result.left c.begin-state.ensures.1 covered none

-- whether kind 0 is first in the list is what the code finds
told : (c : After-is_kind_0_first) → first_by (seen c.args.wanted.now.system) (identified c.args.wanted.now) ≡ c.is_kind_0_first.result
told c =
    let s = c.args.wanted.now.system in
    let w = c.args.wanted.now in
    first_told s.d s.work.now s.chart.now w.turned w.mirrored c.is_kind_0_first.result c.is_kind_0_first.ensures

pub search_first-requires-clause-searching : goal.search_first-requires-clause-searching
search_first-requires-clause-searching c =
    begins (goal.at.search_first-requires-clause-searching c).After-is_kind_0_first (record { low = 0; high = 0 }) hit2_zero

pub returns-then-is_kind_0_first : goal.returns-then-is_kind_0_first
returns-then-is_kind_0_first c =
    let s = c.args.wanted.now.system in
    let w = c.args.wanted.now in
    let first = told (goal.at.returns-then-is_kind_0_first c).After-is_kind_0_first ∙ c.if-is_kind_0_first.true in
    c.search_first.ensures.page
    ∙ ap (λ (l : List Listed). emits w.capacity l (emitted_of c.args.e w.last.now c.args.answers.now))
    (lists_first s.d s.work.now s.chart.now c.begin-state.result.left c.begin-state.ensures.1 (record { low = 0; high = 0 }) hit2_zero (identified w) first)

pub search-requires-clause-searching : goal.search-requires-clause-searching
search-requires-clause-searching c =
    rw c.begin-state.ensures.0 (begins (goal.at.search-requires-clause-searching c).After-is_kind_0_first c.empty.result c.empty.ensures)

pub returns : goal.returns
returns c =
    let s = c.args.wanted.now.system in
    let w = c.args.wanted.now in
    let left = c.begin-state.result.left in
    let i = identified w in
    let old = emitted_of c.args.e w.last.now c.args.answers.now in
    let later = told (goal.at.returns c).After-is_kind_0_first ∙ c.if-is_kind_0_first.false in
    c.search.ensures.page
    ∙ ap (λ (rs : List ℕ). emits w.capacity (fast_below (seen s) i (state_by (seen s) left c.empty.result rs)) old) c.begin-state.ensures.0
    ∙ ap (λ (l : List Listed). emits w.capacity l old)
    (lists_below s.d s.work.now s.chart.now left c.begin-state.ensures.1 c.empty.result c.empty.ensures i later)
