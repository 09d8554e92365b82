-- `search_first` meets its contract: what the rows of kind 0 from r on list, behind what is on the page, is the whole; each row is searched as the
-- definition chooses it, and its copy is put back. Assumes nothing.
use Rattle.std.proofs.Common.{ℕ, List, [], ◌+◌, ◌<◌, ◌≡◌, true, false, refl, sym, ap, ap₂, ◌∙◌, length, arith}
use borrow.Author.Tests.{not-true}
use Rattle.lists.proofs.TestLaws.{and_true_left}
use Rattle.definitions.specs.Emission.{Emitted, Listed, emits}
use Rattle.rows.specs.Rows.{row_at}
use Rattle.rows.proofs.ReadyLaws.{rows_many}
use Rattle.rows.proofs.StandingLaws.{stands}
use Rattle.rows.specs.RowSystems.{seen}
use Rattle.kept.specs.Emission.{emitted_of}
use Rattle.kept.specs.Wanted.{identified}
use Rattle.kept.specs.declared.emission.Emission.{Emission}
use Rattle.fast.specs.Searching.{state_by}
use Rattle.fast.specs.Pruned.{pruned_by}
use Rattle.fast.specs.declared.state.State.{State}
use Rattle.fast.proofs.PrunedLaws.{nothing_covered, first_from, first_start, first_untried, first_full, first_over, first_left}
use Rattle.fast.proofs.PrunedLaws.{later_kinds, first_few, first_searching, first_turns}
use Rattle.fast.proofs.StateLaws.{chosen, to_put_back, is_back}
use Rattle.fast.proofs.pruning.search_first.Goals as goal
use Rattle.fast.proofs.pruning.search_first.Goals.{Else-kind_at-gt0, After-is_first, then-is_first+else-s, else-is_first}

-- row r is of kind 0
kind_0 : (c : Else-kind_at-gt0) → (row_at c.args.wanted.now.system.work.now c.loop-r.r).kind ≡ 0
kind_0 c = omega (arith, c.kind_at.ensures, c.if-kind_at-gt0.false)

-- it is not pruned, as it is tried
unpruned : (c : After-is_first) → c.is_first.result ≡ true → pruned_by (seen c.args.wanted.now.system) (identified c.args.wanted.now) c.loop-r.r ≡ false
unpruned c tried = not-true (pruned_by _ _ c.loop-r.r) (and_true_left _ _ (sym c.is_first.ensures ∙ tried))

pub loop-r-init : goal.loop-r-init
loop-r-init c =
    let a = c.args in
    let system = a.wanted.now.system in
    let wanted = a.wanted.now in
    let i = identified wanted in
    let t = state_by (seen system) a.state.now.left nothing_covered [] in
    record {
      same_left = refl;
      no_rows = c.requires.ready.2;
      answers_long = refl;
      page = ap (λ (l : List Listed). emits wanted.capacity l (emitted_of a.e wanted.last.now a.answers.now))
          (first_start (seen system) i t system.d.rows (rows_many system.d system.work.now system.chart.now));
    }

pub returns-then-kind_at-gt0-clause-page : goal.returns-then-kind_at-gt0-clause-page
returns-then-kind_at-gt0-clause-page c =
    let system = c.args.wanted.now.system in
    let l = c.loop-r in
    let k : 0 < (row_at system.work.now l.r).kind = omega (arith, c.kind_at.ensures, c.if-kind_at-gt0.true) in
    first_left _ _ _ _ l.r _ _ _ (later_kinds (stands system) c.loop-r-test.true k) l.invariant.page

pub search-s-requires-clause-searching : goal.search-s-requires-clause-searching
search-s-requires-clause-searching c =
    let inv = c.loop-r.invariant in
    let k = kind_0 (goal.at.search-s-requires-clause-searching c).Else-kind_at-gt0 in
    let z = chosen inv.same_left inv.no_rows c.place_row.ensures in
    first_searching (stands c.args.wanted.now.system) c.loop-r-test.true k z c.mask_at-mask.ensures c.requires.searching c.requires.ready.1

pub put_back-requires : goal.put_back-requires
put_back-requires c =
    let inv = c.loop-r.invariant in
    let k = kind_0 (goal.at.put_back-requires c).Else-kind_at-gt0 in
    let z = chosen inv.same_left inv.no_rows c.place_row.ensures in
    let few = first_few (stands c.args.wanted.now.system) c.loop-r-test.true k c.args.state.now.left c.requires.searching in
    let back = to_put_back z c.requires.ready.1 c.search-s.ensures.restored few in
    (omega arith, back.0, back.1)

pub returns-then-s-clause-page : goal.returns-then-s-clause-page
returns-then-s-clause-page c =
    let at = goal.at.returns-then-s-clause-page c in
    let wanted = c.args.wanted.now in
    let inv = c.loop-r.invariant in
    let z = chosen inv.same_left inv.no_rows c.place_row.ensures in
    first_full _ _ _ _ (c.loop-r.r + 1) _ _ _ c.if-s.true
    (first_turns (stands wanted.system) c.loop-r-test.true (kind_0 at.Else-kind_at-gt0) z c.mask_at-mask.ensures (identified wanted) wanted.capacity _ _ _
    (unpruned at.After-is_first c.if-is_first.true) c.search-s.ensures.page inv.page)

pub loop-r-preserved : goal.loop-r-preserved
loop-r-preserved c =
    let at = goal.at.loop-r-preserved c in
    let a = c.args in
    let system = a.wanted.now.system in
    let wanted = a.wanted.now in
    let ready = stands system in
    let q = c.requires.ready in
    let row = c.loop-r-test.true in
    let k = kind_0 at.Else-kind_at-gt0 in
    let l = c.loop-r in
    let inv = l.invariant in
    let S = seen system in
    let i = identified wanted in
    let t = state_by S a.state.now.left nothing_covered [] in
    let next : Emission → List ℕ → Emitted =
    λ u v. emits wanted.capacity (first_from S i t system.d.rows (l.r + 1)) (emitted_of u wanted.last.now v) in
    elim c.if-is_first.branch [
      | then-is_first+else-s w ↦
          let z = chosen inv.same_left inv.no_rows w.place_row.ensures in
          let s = w.search-s in
          let back = is_back z q.1 s.ensures.restored w.put_back.ensures in
          record {
            same_left = ap (λ (m : State). m.left) w.state-is ∙ back.0;
            no_rows = ap (λ (m : State). m.path) w.state-is ∙ back.1;
            answers_long = ap (λ (p : List ℕ). length p) w.answers-is ∙ s.auto.answers ∙ inv.answers_long;
            page = ap₂ next w.s-is w.answers-is
                ∙ first_turns ready row k z w.mask_at-mask.ensures i wanted.capacity _ _ _ (unpruned at.After-is_first w.if-is_first.true) s.ensures.page
                inv.page;
          }
      | else-is_first w ↦ record {
        same_left = ap (λ (m : State). m.left) w.state-is ∙ inv.same_left;
        no_rows = ap (λ (m : State). m.path) w.state-is ∙ inv.no_rows;
        answers_long = ap (λ (p : List ℕ). length p) w.answers-is ∙ inv.answers_long;
        page = ap₂ next w.s-is w.answers-is
            ∙ first_untried ready row k a.state.now.left c.requires.searching q.1 wanted.last.now wanted.shown wanted.last_shown i wanted.capacity
            (emitted_of l.s wanted.last.now l.answers) _ refl
            (sym c.is_first.ensures ∙ w.if-is_first.false) inv.page;
      }
    ]

pub returns-clause-page : goal.returns-clause-page
returns-clause-page c = first_over _ _ _ _ c.loop-r.r _ _ _ c.loop-r-test.false c.loop-r.invariant.page
