-- The proof of the cycle of calls {search}: a turn of the inner loop is a choice of the definition's search, and what is left of the choices makes the whole;
-- the outer loop passes what is no choice. The measure is the number of uncovered cells. Assumes nothing.
use Rattle.std.proofs.Common.{ℕ, Bool, true, not, ◌&&◌, ◌||◌, List, [], ◌+◌, ◌*◌, ◌≤◌, ◌<◌, ◌≡◌, refl, sym, ap, ap₂, ◌∙◌, subst, length, get_or, arith}
use Rattle.lists.proofs.TestLaws.{and_true_left}
use Rattle.definitions.specs.Emission.{Emitted, emits}
use Rattle.definitions.specs.Orders.{choose}
use Rattle.definitions.specs.Starts.{waits_at}
use Rattle.theorems.proofs.EmissionLaws.{emits_done}
use Rattle.masks.specs.Masks.{has, apart}
use Rattle.rows.specs.Rows.{mask_at, row_at}
use Rattle.rows.specs.Shown.{shows_row}
use Rattle.rows.specs.Ranges.{start_of}
use Rattle.rows.specs.Systems.{owned_in}
use Rattle.rows.proofs.StandingLaws.{stands}
use Rattle.rows.specs.RowSystems.{seen}
use Rattle.kept.specs.Emission.{emit_kept, emitted_of}
use Rattle.kept.specs.Wanted.{identified}
use Rattle.kept.specs.declared.emission.Emission.{Emission}
use Rattle.fast.specs.Searching.{uncovered, state_by, goes_on}
use Rattle.fast.specs.declared.state.State.{State}
use Rattle.fast.proofs.ChoiceLaws.{choices_from}
use Rattle.fast.proofs.StateLaws.{chosen, to_put_back, is_back}
use Rattle.fast.proofs.TurnLaws.{Opened, Placing, leaf_emits, words_in, row_small, loop_starts, loop_ends, kind_passes, kind_ends}
use Rattle.fast.proofs.TurnLaws.{begins_is, ends_is, range_row, range_up, left_few, turn_passes, room_left, place_kind}
use Rattle.fast.proofs.TurnLaws.{place_falls, place_searching, place_rows, place_turns}
use Rattle.fast.proofs.search.+search.Goals as goal
use Rattle.fast.proofs.search.+search.Goals.{After-next_open-c, In-loop-r}
use Rattle.fast.proofs.search.+search.Goals.{then-is_tried+else-s, else-is_tried, then-left_of-gt0+else-loop-r-test, else-left_of-gt0}

-- a cell is left, and the first that is
opened : (t : ℕ) (c : After-next_open-c t) → c.next_open-c.result < c.args.wanted.now.system.d.size
    → let s = c.args.wanted.now.system in
    Opened s.d s.work.now s.chart.now c.args.state.now.left c.args.state.now.path c.args.covered c.next_open-c.result
opened t c inside =
    record {
      ready = stands c.args.wanted.now.system;
      of_rows = c.requires.ready.0;
      searching = c.requires.searching;
      first = c.next_open-c.ensures;
      inside = inside;
    }

-- the kind has copies left
some_copy : (t : ℕ) (c : In-loop-r t) → 0 < get_or c.args.state.now.left c.loop-kind.kind 0
some_copy t c =
    let e = ap (λ (m : List ℕ). get_or m c.loop-kind.kind 0) c.loop-kind.invariant.same_left in
    omega (arith, c.left_of.ensures, c.if-left_of-gt0.true)

-- row r is one of the kind at that cell
in_range : (t : ℕ) (c : In-loop-r t)
    → let s = c.args.wanted.now.system in
    Opened s.d s.work.now s.chart.now c.args.state.now.left c.args.state.now.path c.args.covered c.next_open-c.result
    → (c.loop-r.r < s.d.rows) × ((row_at s.work.now c.loop-r.r).kind ≡ c.loop-kind.kind) × ((row_at s.work.now c.loop-r.r).p ≡ c.next_open-c.result)
in_range t c x =
    range_row x c.loop-kind.kind c.loop-kind-test.true _ _ c.start_at-start.ensures c.start_at-end.ensures c.loop-r.r c.loop-r.auto.r c.loop-r-test.true

-- it is to be placed, as it is tried
placing : (t : ℕ) (c : In-loop-r t)
    → let s = c.args.wanted.now.system in
    Opened s.d s.work.now s.chart.now c.args.state.now.left c.args.state.now.path c.args.covered c.next_open-c.result
    → (tried others : Bool) → tried ≡ (apart 128 (has (mask_at s.work.now c.loop-r.r)) (has c.args.covered) && others) → tried ≡ true
    → Placing s.d s.work.now c.args.state.now.left c.args.covered c.next_open-c.result c.loop-r.r c.loop-kind.kind
placing t c x tried others is told =
    let row = in_range t c x in
    record { row = row.0; at = row.2; some = some_copy t c; clear = and_true_left _ others (sym is ∙ told); kind = sym row.1 }

pub returns-then-system-c-clause-page : goal.returns-then-system-c-clause-page
returns-then-system-c-clause-page t c =
    let a = c.args in
    let wanted = a.wanted.now in
    let system = wanted.system in
    let i = identified wanted in
    let old = emitted_of a.e wanted.last.now a.answers.now in
    c.emit_kept.ensures ∙ ap (λ (rs : List ℕ). emit_kept (seen system) i wanted.capacity rs old) c.rows.ensures
    ∙ leaf_emits (stands system) c.requires.ready.0 c.requires.searching i wanted.capacity c.next_open-c.result old c.next_open-c.ensures c.if-system-c.true

pub loop-kind-init : goal.loop-kind-init
loop-kind-init t c =
    let a = c.args in
    let wanted = a.wanted.now in
    let x = opened t (goal.at.loop-kind-init t c).After-next_open-c c.if-system-c.false in
    record {
      same_left = refl;
      same_rows = refl;
      answers_long = refl;
      page = loop_starts x (identified wanted) wanted.capacity (emitted_of a.e wanted.last.now a.answers.now);
    }

pub loop-r-init : goal.loop-r-init
loop-r-init t c =
    let a = c.args in
    let wanted = a.wanted.now in
    let x = opened t (goal.at.loop-r-init t c).After-next_open-c c.if-system-c.false in
    let l = c.loop-kind in
    let u = state_by (seen a.wanted.now.system) a.state.now.left a.covered a.state.now.path in
    record {
      same_left = l.invariant.same_left;
      same_rows = l.invariant.same_rows;
      answers_long = l.invariant.answers_long;
      page = ap (λ (r : ℕ). emits wanted.capacity (choices_from (seen a.wanted.now.system) (identified wanted) u r) (emitted_of l.s wanted.last.now l.answers))
          (begins_is x l.kind c.loop-kind-test.true _ _ c.start_at-start.ensures c.start_at-end.ensures) ∙ l.invariant.page;
    }

pub is_tried-requires : goal.is_tried-requires
is_tried-requires t c =
    let at = goal.at.is_tried-requires t c in
    let row = in_range t at.In-loop-r (opened t at.After-next_open-c c.if-system-c.false) in
    (row.0, sym row.1, subst (λ (m : List ℕ). 0 < get_or m c.loop-kind.kind 0) (sym c.loop-r.invariant.same_left) (some_copy t at.In-loop-r))

pub place_row-requires : goal.place_row-requires
place_row-requires t c =
    let at = goal.at.place_row-requires t c in
    let x = opened t at.After-next_open-c c.if-system-c.false in
    let y = placing t at.In-loop-r x _ _ c.is_tried.ensures c.if-is_tried.true in
    let inv = c.loop-r.invariant in
    let small = row_small x c.loop-r.r y.row in
    let room = room_left x in
    let e = ap length inv.same_rows in
    (place_kind x y, subst (λ (m : List ℕ). 0 < get_or m c.loop-kind.kind 0) (sym inv.same_left) y.some, omega arith, omega arith)

pub mask_at-requires : goal.mask_at-requires
mask_at-requires t c =
    let at = goal.at.mask_at-requires t c in
    let x = opened t at.After-next_open-c c.if-system-c.false in
    words_in x c.loop-r.r (in_range t at.In-loop-r x).0

pub search-s-requires : goal.search-s-requires
search-s-requires t c =
    let at = goal.at.search-s-requires t c in
    let x = opened t at.After-next_open-c c.if-system-c.false in
    let y = placing t at.In-loop-r x _ _ c.is_tried.ensures c.if-is_tried.true in
    let wanted = c.args.wanted.now in
    let inv = c.loop-r.invariant in
    let z = chosen inv.same_left inv.same_rows c.place_row.ensures in
    let mask = c.mask_at in
    let more = c.union-more in (
      subst (λ (m : ℕ). length (uncovered c.args.wanted.now.system.d.size more.result) < m) c.decreases (place_falls x y more.result mask.ensures more.ensures),
      (
        (
          place_rows x y more.result mask.ensures more.ensures z,
          subst (λ (m : ℕ). wanted.capacity * (2 * c.args.wanted.now.system.d.places) ≤ m) (sym inv.answers_long) c.requires.ready.1,
        ),
        place_searching x y more.result mask.ensures more.ensures z,
      ),
    )

pub put_back-requires : goal.put_back-requires
put_back-requires t c =
    let at = goal.at.put_back-requires t c in
    let x = opened t at.After-next_open-c c.if-system-c.false in
    let y = placing t at.In-loop-r x _ _ c.is_tried.ensures c.if-is_tried.true in
    let inv = c.loop-r.invariant in
    let z = chosen inv.same_left inv.same_rows c.place_row.ensures in
    let back = to_put_back z y.some c.search-s.ensures.restored (left_few x c.loop-kind.kind c.loop-kind-test.true) in
    (place_kind x y, back.0, back.1)

pub returns-then-s : goal.returns-then-s
returns-then-s t c =
    let at = goal.at.returns-then-s t c in
    let x = opened t at.After-next_open-c c.if-system-c.false in
    let y = placing t at.In-loop-r x _ _ c.is_tried.ensures c.if-is_tried.true in
    let wanted = c.args.wanted.now in
    let l = c.loop-r in
    let z = chosen l.invariant.same_left l.invariant.same_rows c.place_row.ensures in
    let s = c.search-s in
    let turn = place_turns x y c.union-more.result c.mask_at.ensures c.union-more.ensures z (identified wanted) wanted.capacity
    (emitted_of l.s wanted.last.now l.answers) _ _ s.ensures.page l.invariant.page in
    record {
      page = sym (emits_done wanted.capacity _ (emitted_of s.result wanted.last.now s.new.answers) c.if-s.true) ∙ turn;
      restored = is_back z y.some s.ensures.restored c.put_back.ensures;
    }

pub loop-r-preserved : goal.loop-r-preserved
loop-r-preserved t c =
    let at = goal.at.loop-r-preserved t c in
    let x = opened t at.After-next_open-c c.if-system-c.false in
    let a = c.args in
    let system = a.wanted.now.system in
    let wanted = a.wanted.now in
    let l = c.loop-r in
    let inv = l.invariant in
    let S = seen system in
    let i = identified wanted in
    let u = state_by S a.state.now.left a.covered a.state.now.path in
    let next : Emission → List ℕ → Emitted = λ e m. emits wanted.capacity (choices_from S i u (l.r + 1)) (emitted_of e wanted.last.now m) in
    elim c.if-is_tried.branch [
      | then-is_tried+else-s w ↦
          let y = placing t at.In-loop-r x _ _ c.is_tried.ensures w.if-is_tried.true in
          let z = chosen inv.same_left inv.same_rows w.place_row.ensures in
          let s = w.search-s in
          let back = is_back z y.some s.ensures.restored w.put_back.ensures in
          record {
            same_left = ap (λ (m : State). m.left) w.state-is ∙ back.0;
            same_rows = ap (λ (m : State). m.path) w.state-is ∙ back.1;
            answers_long = ap (λ (m : List ℕ). length m) w.answers-is ∙ s.auto.answers ∙ inv.answers_long;
            page = ap₂ next w.s-is w.answers-is
                ∙ place_turns x y w.union-more.result w.mask_at.ensures w.union-more.ensures z i wanted.capacity (emitted_of l.s wanted.last.now l.answers) _ _
                s.ensures.page inv.page;
          }
      | else-is_tried w ↦
          let row = in_range t at.In-loop-r x in
          record {
            same_left = ap (λ (m : State). m.left) w.state-is ∙ inv.same_left;
            same_rows = ap (λ (m : State). m.path) w.state-is ∙ inv.same_rows;
            answers_long = ap (λ (m : List ℕ). length m) w.answers-is ∙ inv.answers_long;
            page = ap₂ next w.s-is w.answers-is
                ∙ turn_passes x l.r row.0 row.2 wanted.last.now wanted.shown wanted.last_shown
                (subst (λ (j : ℕ). 0 < get_or a.state.now.left j 0) (sym row.1) (some_copy t at.In-loop-r)) i wanted.capacity _ _ refl
                (ap (λ (m : List ℕ). apart 128 (has (mask_at system.work.now l.r)) (has a.covered)
                && ((not (waits_at l.s.start) || shows_row (owned_in system.chart.now.pieces system.d.pieces) wanted.shown (row_at system.work.now l.r))
                && goes_on S (choose (state_by S m a.covered []) (row_at system.work.now l.r)))) (sym inv.same_left)
                ∙ sym c.is_tried.ensures ∙ w.if-is_tried.false)
                inv.page;
          }
    ]

pub loop-kind-preserved : goal.loop-kind-preserved
loop-kind-preserved t c =
    let a = c.args in
    let wanted = a.wanted.now in
    let x = opened t (goal.at.loop-kind-preserved t c).After-next_open-c c.if-system-c.false in
    let l = c.loop-kind in
    let k = l.kind in
    let S = seen a.wanted.now.system in
    let i = identified wanted in
    let u = state_by S a.state.now.left a.covered a.state.now.path in
    let next : Emission → List ℕ → Emitted =
    λ e m. emits wanted.capacity (choices_from S i u (start_of S.rows (128 * (k + 1) + c.next_open-c.result))) (emitted_of e wanted.last.now m) in
    elim c.if-left_of-gt0.branch [
      | then-left_of-gt0+else-loop-r-test w ↦ let v = w.loop-r in
          let end = ends_is x k c.loop-kind-test.true _ _ w.start_at-start.ensures w.start_at-end.ensures in
          let up = range_up x k c.loop-kind-test.true _ _ w.start_at-start.ensures w.start_at-end.ensures in
          let at-end : v.r ≡ w.start_at-end.result = omega (arith, v.auto.r-end, w.loop-r-test.false, up) in
          record {
            same_left = ap (λ (m : State). m.left) w.state-is ∙ v.invariant.same_left;
            same_rows = ap (λ (m : State). m.path) w.state-is ∙ v.invariant.same_rows;
            answers_long = ap (λ (m : List ℕ). length m) w.answers-is ∙ v.invariant.answers_long;
            page = ap₂ next w.s-is w.answers-is ∙ kind_ends x i wanted.capacity _ k v.r _ (at-end ∙ end) v.invariant.page;
          }
      | else-left_of-gt0 w ↦ record {
        same_left = ap (λ (m : State). m.left) w.state-is ∙ l.invariant.same_left;
        same_rows = ap (λ (m : State). m.path) w.state-is ∙ l.invariant.same_rows;
        answers_long = ap (λ (m : List ℕ). length m) w.answers-is ∙ l.invariant.answers_long;
        page = ap₂ next w.s-is w.answers-is
            ∙ kind_passes x i wanted.capacity _ k _
            (omega (arith, ap (λ (m : List ℕ). get_or m k 0) (sym l.invariant.same_left), w.if-left_of-gt0.false, c.left_of.ensures)) l.invariant.page;
      }
    ]

pub returns-clause-page : goal.returns-clause-page
returns-clause-page t c =
    let wanted = c.args.wanted.now in
    let x = opened t (goal.at.returns-clause-page t c).After-next_open-c c.if-system-c.false in
    loop_ends x (identified wanted) wanted.capacity _ c.loop-kind.kind _ c.loop-kind-test.false c.loop-kind.invariant.page
