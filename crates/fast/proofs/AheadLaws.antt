-- The look ahead: where no cell is uncovered, or a row can be placed at the first that is, the search goes on; else nothing is listed below. Assumes nothing.
use Prim.Native.Nat.{ℕ, ◌+◌, ◌-◌, ◌*◌, ◌≤◌, ◌<◌}
use mathlib.Core.Bool.{Bool, true, false, not, ◌&&◌, ◌||◌}
use mathlib.Core.List.Memᴰ
use mathlib.Core.List.{List, [], ◌∷◌, ◌++◌, Memᴰ}
use mathlib.Core.Path.{◌≡◌, refl, sym, ap, ap₂, ◌∙◌, subst}
use native.Mathlib.Omega.{arith}
use lib.Dec.{T, eqb, ltb}
use lib.ListN.{length, get_or, take, set}
use lib.Seq.{get_or-take}
use Rattle.lists.specs.Lists.{any, below, from, keep, is_empty}
use Rattle.lists.proofs.TestLaws.{and_no, and_both, or_left, is_true, is_false, holds, eqb_of, by_eq}
use Rattle.lists.proofs.ListLaws.{any_at, any_of, keep_of, keep_none}
use Rattle.lists.proofs.RangeLaws.{below_at, from_at, from-of}
use Rattle.definitions.specs.Placements.{Placement}
use Rattle.definitions.specs.Kept.Identify.{None}
use Rattle.definitions.specs.Orders.{State, possible, choose, fast_choices}
use Rattle.masks.specs.Masks.{has, either, apart, FirstOpen}
use Rattle.masks.specs.declared.Mask.{Mask}
use Rattle.rows.specs.Rows.{mask_at, row_at, rows_in}
use Rattle.rows.specs.Ranges.{start_of}
use Rattle.rows.specs.Systems.{System, system_in, system_over}
use Rattle.rows.specs.declared.Dims.{Dims}
use Rattle.kept.specs.Normal.{row_of}
use Rattle.rows.specs.Ready.{Ready}
use Rattle.rows.proofs.ReadyLaws as laws
use Rattle.fast.specs.Searching.{uncovered, state_by, goes_on}
use Rattle.fast.proofs.ChoiceLaws.{chosen_at, none_left, other_cell}
use Rattle.fast.proofs.SearchingLaws.{goes_any, fits, fits_apart, fits_possible, child_state, first_uncovered, none_uncovered, some_uncovered}
use Rattle.fast.proofs.TurnLaws.{rows_many, size_is, row_is, row-cells, row_first, range_within, start_is, start_up, start_before, start_behind, start_few}
use Rattle.fast.proofs.TurnLaws.{start_range}
use Rattle.rows.specs.declared.chart.Chart.{Chart}

-- ---- the look at a state
some_kept : {A : Type 0} (xs : List A) {x : A} → Memᴰ x xs → is_empty xs ≡ false
some_kept [] m = absurd (Memᴰ.not-nil m)
some_kept (y ∷ ys) m = refl

-- no row of a kind before k is a choice
abbrev pub Unplaced : Dims → List ℕ → Chart → List ℕ → Mask → ℕ → Type 0
Unplaced d work chart left covered k =
    (r : ℕ) → r < d.rows → (row_at work r).kind < k → chosen_at (state_by (system_in d work chart) left covered []) (row_at work r) ≡ false

module _ {d : Dims} {work : List ℕ} {chart : Chart} (left : List ℕ) (covered : Mask) (c : ℕ) (ready : Ready d work chart)
    (first : FirstOpen (has covered) 0 c) where
  abbrev S : System
  S = system_in d work chart

  abbrev t : State
  t = state_by S left covered []

  free_is : t.free ≡ uncovered d.size covered
  unfolding state_by
  free_is = ap (λ (m : ℕ). uncovered m covered) (size_is ready)

  pub goes_leaf : d.size ≤ c → true ≡ goes_on S t
  unfolding goes_on
  goes_leaf h =
      let e = ap (λ (l : List ℕ). is_empty l) (free_is ∙ none_uncovered d.size covered c first h) in
      sym (ap (λ (b : Bool). b || not (is_empty (fast_choices S.rows t))) e)

  module _ (inside : c < d.size) where
    few : d.size ≤ 128
    few = laws.few-cells d work chart ready.lawful

    at_first : take 1 t.free ≡ c ∷ []
    at_first = ap (λ (l : List ℕ). take 1 l) free_is ∙ first_uncovered d.size covered c first few inside

    test_is : (r : ℕ) → r < d.rows → fits left covered (mask_at work r) (row_at work r).kind ≡ possible t (row_at work r)
    test_is r h =
        let m = rows_many ready in
        let e = row_is ready r h in
        ap (λ (q : Placement). fits left covered (mask_at work r) q.kind) (sym e)
        ∙ fits_possible S ready.lawful left covered (mask_at work r) [] r (omega arith) (row-cells ready r h)
        ∙ ap (possible t) e

    -- a row at the cell that fits is a choice
    placed : (r : ℕ) → r < d.rows → (row_at work r).p ≡ c → fits left covered (mask_at work r) (row_at work r).kind ≡ true → T (chosen_at t (row_at work r))
    placed r h at fit =
        let q = row_at work r in
        and_both (any (eqb q.p) (take 1 t.free)) (possible t q)
        (subst (λ (l : List ℕ). T (any (eqb q.p) l)) (sym at_first) (or_left (eqb q.p c) false (eqb_of at)))
        (holds (possible t q) (sym (test_is r h) ∙ fit))

    module _ (k : ℕ) (kind : k < d.kinds) where
      pub ahead_within : (128 * k + c ≤ 2048) × (128 * k + c + 1 ≤ 2048)
      ahead_within = let b = few in range_within ready k c kind (omega arith)

      module _ (start end : ℕ) (begins : start ≡ get_or chart.starts (128 * k + c) 0) (ends : end ≡ get_or chart.starts (128 * k + c + 1) 0) where
        start-at : start ≡ start_of S.rows (128 * k + c)
        start-at = begins ∙ start_is ready (128 * k + c) ahead_within.0

        end_at : end ≡ start_of S.rows (128 * k + c + 1)
        end_at = ends ∙ start_is ready (128 * k + c + 1) ahead_within.1

        pub ahead_up : (start ≤ end) × (8 * end ≤ length work)
        ahead_up =
            let a = start-at in
            let b = end_at in
            let h = start_up ready (128 * k + c) (128 * k + c + 1) (omega arith) in
            let m = start_few ready (128 * k + c + 1) in
            let f = ready.rows_fit in
            (omega arith, omega arith)

        -- a row of the range can be placed
        pub goes_found : 0 < get_or left k 0 → any (λ r. apart 128 (has (mask_at work r)) (has covered)) (from start (end - start)) ≡ true → true ≡ goes_on S t
        unfolding goes_on fast_choices
        goes_found some e =
            let x = any_at (λ r. apart 128 (has (mask_at work r)) (has covered)) (from start (end - start)) (holds _ e) in
            let r = x.0 in
            let g = from_at start (end - start) x.1 in
            let up = ahead_up in
            let a = start-at in
            let b = end_at in
            let m = start_few ready (128 * k + c + 1) in
            let row : r < d.rows = omega arith in
            let u = start_behind ready (128 * k + c) r (omega arith) row in
            let v = start_before ready (128 * k + c + 1) r (omega arith) in
            let p = row_first ready r row in
            let l = few in
            let q : (row_at work r).kind ≡ k = omega arith in
            let at : (row_at work r).p ≡ c = omega arith in
            let fit = fits_apart left covered (mask_at work r) (row_at work r).kind (subst (λ (j : ℕ). 0 < get_or left j 0) (sym q) some) ∙ is_true _ x.2 in
            let n = some_kept (keep (chosen_at t) S.rows) (keep_of (chosen_at t) S.rows (laws.row_in d work chart r row) (placed r row at fit)) in
            sym (ap₂ (λ (b f : Bool). b || not f) (some_uncovered t.free c at_first).0 n)

        -- or none can
        pub kind_unplaced : any (λ r. apart 128 (has (mask_at work r)) (has covered)) (from start (end - start)) ≡ false → Unplaced d work chart left covered k
            → Unplaced d work chart left covered (k + 1)
        unfolding fits
        kind_unplaced e none r row h =
            by_eq (row_at work r).kind k
            (λ q. by_eq (row_at work r).p c (λ at. far q at) (λ at. other_cell S None t c at_first (row_at work r) at))
            (λ q. none r row (omega arith))
          where
            far : (row_at work r).kind ≡ k → (row_at work r).p ≡ c → chosen_at t (row_at work r) ≡ false
            far q at =
                let a = start-at in
                let b = end_at in
                let x = start_range ready (128 * k + c) r row (omega arith) in
                let off = is_false (apart 128 (has (mask_at work r)) (has covered))
                (λ z. subst T e (any_of (λ r. apart 128 (has (mask_at work r)) (has covered)) (from start (end - start))
                (from-of start (end - start) {x = r} (omega arith) (omega arith)) z)) in
                ap (λ (b : Bool). any (eqb (row_at work r).p) (take 1 t.free) && b)
                (sym (test_is r row) ∙ ap (λ (b : Bool). b && ltb 0 (get_or left (row_at work r).kind 0)) off)
                ∙ and_no (any (eqb (row_at work r).p) (take 1 t.free))

      -- nor where the kind has no copy left
      pub kind_spent : get_or left k 0 ≡ 0 → Unplaced d work chart left covered k → Unplaced d work chart left covered (k + 1)
      unfolding state_by
      kind_spent e none r row h =
          let m = laws.kinds_many d work chart in
          by_eq (row_at work r).kind k
          (λ q. none_left S None t (row_at work r)
          (get_or-take (length S.copies) left (row_at work r).kind 0 (omega arith) ∙ ap (λ (j : ℕ). get_or left j 0) q ∙ e))
          (λ q. none r row (omega arith))

    unchosen : (k : ℕ) → d.kinds ≤ k → Unplaced d work chart left covered k → (q : Placement) → Memᴰ q S.rows → T (chosen_at t q) → ⊥
    unfolding system_in system_over rows_in
    unchosen k h none q m u =
        let x = Memᴰ.of_map (row_at work) (below d.rows) m in
        let row = below_at d.rows x.1 in
        let l = laws.row_kind d work chart ready.lawful x.0 row in
        subst T (ap (chosen_at t) (sym x.2) ∙ none x.0 row (omega arith)) u

    pub goes_none : (k : ℕ) → d.kinds ≤ k → Unplaced d work chart left covered k → false ≡ goes_on S t
    unfolding goes_on fast_choices
    goes_none k h none =
        let e = keep_none (chosen_at t) S.rows (unchosen k h none) in
        sym (ap₂ (λ (b f : Bool). b || not f) (some_uncovered t.free c at_first).0 (ap (λ (l : List Placement). is_empty l) e))

-- ---- the state below row r is the one looked at
pub goes_below : {d : Dims} {work : List ℕ} {chart : Chart} (left : List ℕ) (covered more : Mask) → Ready d work chart → (r kind : ℕ) → r < d.rows
    → kind ≡ (row_at work r).kind
    → has more ≡ either (has covered) (has (mask_at work r))
    → goes_on (system_in d work chart) (state_by (system_in d work chart) (set left kind (get_or left kind 0 - 1)) more [])
    ≡ goes_on (system_in d work chart) (choose (state_by (system_in d work chart) left covered []) (row_at work r))
goes_below {d} {work} {chart} left covered more ready r kind row is union =
    let s = system_in d work chart in
    let m = rows_many ready in
    let e = row_is ready r row in
    let k : kind ≡ (row_of s r).kind = is ∙ ap (λ (q : Placement). q.kind) (sym e) in
    ap (λ (j : ℕ). goes_on s (state_by s (set left j (get_or left j 0 - 1)) more [])) k
    ∙ sym (goes_any s (set left (row_of s r).kind (get_or left (row_of s r).kind 0 - 1)) more ([] ++ (r ∷ [])))
    ∙ ap (λ (u : State). goes_on s u) (child_state s ready.lawful left covered (mask_at work r) [] r (omega arith) (row-cells ready r row) more union)
    ∙ ap (λ (q : Placement). goes_on s (choose (state_by s left covered []) q)) e
