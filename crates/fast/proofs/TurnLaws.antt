-- The laws of Fast's search over the slices of a row system: the leaf, the loops over the rows of a cell, and a call. Assumes nothing.
use Prim.Native.Nat.{ℕ, ◌+◌, ◌-◌, ◌*◌, ◌≤◌, ◌<◌}
use mathlib.Core.Bool.{Bool, true, false, not, ◌&&◌, ◌||◌}
use mathlib.Core.List.{List, [], ◌∷◌, ◌++◌}
use mathlib.Core.Logic.{◌⊎◌, inl, inr, ⊎_elim}
use mathlib.Core.Path.{◌≡◌, refl, sym, ap, ◌∙◌, subst}
use native.Mathlib.Omega.{arith}
use lib.Dec.{T, ltb, lt→ltb}
use lib.ListN.{length, get_or, take, set, length-append}
use lib.Seq.{get_or-take}
use Rattle.lists.specs.Lists.{all, is_empty}
use Rattle.lists.proofs.CountLaws.{at_most_sum}
use Rattle.lists.proofs.TestLaws.{and_left, and_right, and_both, by_eq}
use Rattle.definitions.specs.Placements.{Placement}
use Rattle.definitions.specs.Kept.{Identify}
use Rattle.definitions.specs.Orders.{State, possible, choose}
use Rattle.definitions.specs.Emission.{Emitted, Listed, emits}
use Rattle.theorems.proofs.EmissionLaws.{emits_append, emits_none}
use Rattle.masks.specs.Masks.{has, either, apart, FirstOpen}
use Rattle.masks.specs.declared.Mask.{Mask}
use Rattle.rows.specs.Systems.{System, system_in, owned_in, system_over}
use Rattle.rows.specs.Rows.{mask_at, row_at, cells_of}
use Rattle.rows.specs.Ranges.{start_of}
use Rattle.rows.specs.Shown.{Shown, shows_row}
use Rattle.kept.specs.Normal.{row_of}
use Rattle.rows.specs.Ready.{Ready}
use Rattle.kept.specs.Packings.{AreRows}
use Rattle.kept.specs.Emission.{emit_kept}
use Rattle.fast.specs.Searching.{fast_below, uncovered, state_by, Searching, goes_on}
use Rattle.rows.specs.declared.Dims.{Dims}
use Rattle.fast.proofs.ChoiceLaws.{chosen_at, choices_from, dead_lists, leaf_lists, all_choices, choices_end, choices_skip, choices_take, choices_pass}
use Rattle.fast.proofs.ChoiceLaws.{none_left, other_cell}
use Rattle.rows.proofs.RowRangeLaws.{range_of, start_most, before_start, starts_up, from_start, range-of}
use Rattle.kept.proofs.LeafLaws.{packing_emits}
use Rattle.rows.proofs.ReadyLaws as laws
use Rattle.kept.proofs.ReadyLaws as numbers
use Rattle.fast.proofs.SearchingLaws.{goes_same, fits, fits_apart, first_uncovered, none_uncovered, some_uncovered, fits_possible, child_state, child_less}
use Rattle.fast.proofs.SearchingLaws.{child_searching}
use Rattle.fast.proofs.StateLaws.{Chosen}
use Rattle.fast.proofs.UnmetLaws.{untried, unmet}
use Rattle.rows.specs.declared.chart.Chart.{Chart}

-- of three tests one fails: one of the first two, or the third
not_tried : (a b c : Bool) → (a && (b && c)) ≡ false → ((a && b) ≡ false) ⊎ ((a ≡ true) × (c ≡ false))
not_tried false b c e = inl refl
not_tried true false c e = inl refl
not_tried true true c e = inr (refl, e)

module _ {d : Dims} {work : List ℕ} {chart : Chart} (ready : Ready d work chart) where
  abbrev S : System
  S = system_in d work chart

  pub rows_many : length S.rows ≡ d.rows
  rows_many = laws.rows_many d work chart

  pub size_is : S.size ≡ d.size
  unfolding system_in system_over
  size_is = refl

  pub row_is : (r : ℕ) → r < d.rows → row_of S r ≡ row_at work r
  row_is = numbers.row_is d work chart

  -- where the ranges of rows begin
  pub start_is : (i : ℕ) → i ≤ 2048 → get_or chart.starts i 0 ≡ start_of S.rows i
  unfolding system_in system_over
  start_is i h = ready.ranged.begins i h

  pub start_before : (i r : ℕ) → r < start_of S.rows i → range_of (row_at work r) < i
  unfolding system_in system_over
  start_before i r h = before_start work d.rows i r h

  pub start_behind : (i r : ℕ) → start_of S.rows i ≤ r → r < d.rows → i ≤ range_of (row_at work r)
  unfolding system_in system_over
  start_behind i r h l = from_start work d.rows (laws.first_cells d work chart ready.lawful) (laws.in-order d work chart ready.lawful) i r h l

  pub start_range : (i r : ℕ) → r < d.rows → range_of (row_at work r) ≡ i → (start_of S.rows i ≤ r) × (r < start_of S.rows (i + 1))
  unfolding system_in system_over
  start_range i r h e = range-of work d.rows (laws.first_cells d work chart ready.lawful) (laws.in-order d work chart ready.lawful) i r h e

  pub start_few : (i : ℕ) → start_of S.rows i ≤ d.rows
  unfolding system_in system_over
  start_few i = start_most work d.rows i

  pub start_up : (i j : ℕ) → i ≤ j → start_of S.rows i ≤ start_of S.rows j
  unfolding system_in system_over
  start_up i j h = starts_up work d.rows i j h

  pub row-cells : (r : ℕ) → r < d.rows → (row_of S r).cells ≡ cells_of (mask_at work r)
  unfolding row_at
  row-cells r h = ap (λ (q : Placement). q.cells) (row_is r h)

  pub row_first : (r : ℕ) → r < d.rows → (row_at work r).p < 128
  row_first r l =
      let q = laws.row_in d work chart r l in
      let a = (ready.lawful.row (row_at work r) q).on_board (row_at work r).p (ready.lawful.row (row_at work r) q).covers_p in
      let b = ready.lawful.few_cells in
      omega arith

  -- the two ends of the range of a kind's rows at a cell stand in the chart
  pub range_within : (k c : ℕ) → k < d.kinds → c < 128 → (128 * k + c ≤ 2048) × (128 * k + c + 1 ≤ 2048)
  range_within k c h g = let a = laws.few-kinds d work chart ready.lawful in (omega arith, omega arith)

  module _ {left rs : List ℕ} {covered : Mask} (of-rows : AreRows d rs) (h : Searching S left covered rs) where
    abbrev t : State
    t = state_by S left covered rs

    all_rows : T (all (λ r. ltb r (length S.rows)) rs)
    all_rows = subst (λ (m : ℕ). T (all (λ r. ltb r m) rs)) (sym rows_many) of-rows.are_rows

    free_is : t.free ≡ uncovered S.size covered
    unfolding state_by
    free_is = refl

    -- ---- no cell is left
    pub leaf_emits : (i : Identify) (capacity c : ℕ) (e : Emitted) → FirstOpen (has covered) 0 c → d.size ≤ c
        → emit_kept S i capacity rs e ≡ emits capacity (fast_below S i t) e
    unfolding state_by
    leaf_emits i capacity c e o l =
        let z = size_is in
        packing_emits S ready.lawful rs all_rows h.apart i capacity e
        ∙ sym (ap (λ (L : List Listed). emits capacity L e)
        (leaf_lists S i t (ap (λ (l : List ℕ). is_empty l) (none_uncovered S.size covered c o (omega arith)))))

-- ---- cell c is the first that is left
pub record Opened (d : Dims) (work : List ℕ) (chart : Chart) (left rs : List ℕ) (covered : Mask) (c : ℕ) : Type 0 where
  pub ready : Ready d work chart
  pub of_rows : AreRows d rs
  pub searching : Searching (system_in d work chart) left covered rs
  pub first : FirstOpen (has covered) 0 c
  pub inside : c < d.size

module _ {d : Dims} {work : List ℕ} {chart : Chart} {left rs : List ℕ} {covered : Mask} {c : ℕ} (x : Opened d work chart left rs covered c) where
  abbrev the_system : System
  the_system = system_in d work chart

  abbrev the_state : State
  the_state = state_by the_system left covered rs

  few : d.size ≤ 128
  few = let z = size_is x.ready in let w = x.ready.lawful.few_cells in omega arith

  pub cell_below : c < 128
  cell_below = let f = few in let i = x.inside in omega arith

  pub words_in : (r : ℕ) → r < d.rows → 8 * r + 8 ≤ length work
  words_in r l = let f = x.ready.rows_fit in omega arith

  pub row_small : (r : ℕ) → r < d.rows → r < 1024
  row_small r l = let m = rows_many x.ready in let f = x.ready.lawful.few_rows in omega arith

  first : take 1 the_state.free ≡ c ∷ []
  first =
      let z = size_is x.ready in
      let f = few in
      ap (λ (l : List ℕ). take 1 l) (free_is x.ready x.of_rows x.searching)
      ∙ first_uncovered the_system.size covered c x.first (omega arith) (omega arith)

  pub room_left : length rs < 128
  room_left =
      let a = (some_uncovered the_state.free c first).1 in
      let f = ap (λ (l : List ℕ). length l) (free_is x.ready x.of_rows x.searching) in
      let b = x.searching.room in
      let w = x.ready.lawful.few_cells in
      omega arith

  -- ---- the rows at the cell, kind by kind
  -- rows from a to below b are passed, where each is at another cell, or has no copy left
  passed : (i : Identify) (a b : ℕ) → a ≤ b → ((r : ℕ) → a ≤ r → r < b → r < d.rows → (row_at work r).p ≡ c → get_or left (row_at work r).kind 0 ≡ 0)
      → choices_from the_system i the_state a ≡ choices_from the_system i the_state b
  unfolding state_by
  passed i a b h f =
      choices_skip the_system i the_state a b h
      (λ r u v w.
      let m = rows_many x.ready in
      let l : r < d.rows = omega arith in
      let e = row_is x.ready r l in
      let k = laws.row_kind d work chart x.ready.lawful r l in
      let n = laws.kinds_many d work chart in
      ap (chosen_at the_state) e
      ∙ by_eq (row_at work r).p c
      (λ g. none_left the_system i the_state (row_at work r) (get_or-take (length the_system.copies) left (row_at work r).kind 0 (omega arith) ∙ f r u v l g))
      (λ g. other_cell the_system i the_state c first (row_at work r) g))

  module _ (i : Identify) (capacity : ℕ) (e : Emitted) where
    pub loop_starts : emits capacity (choices_from the_system i the_state (start_of the_system.rows (128 * 0 + c))) e
        ≡ emits capacity (fast_below the_system i the_state) e
    loop_starts =
        let b : length the_state.free ≤ the_system.size =
        let w = x.searching.room in
        let z = ap (λ (l : List ℕ). length l) (free_is x.ready x.of_rows x.searching) in
        omega arith in
        ap (λ (L : List Listed). emits capacity L e)
        (sym (passed i 0 (start_of the_system.rows (128 * 0 + c)) (omega arith)
        (λ r u v w g. absurd (let k = start_before x.ready (128 * 0 + c) r v in omega arith)))
        ∙ all_choices the_system x.ready.lawful i the_state (some_uncovered the_state.free c first).0 b)

    -- no row is of a kind behind the last
    pub loop_ends : (k : ℕ) (whole : Emitted) → d.kinds ≤ k
        → emits capacity (choices_from the_system i the_state (start_of the_system.rows (128 * k + c))) e ≡ whole → e ≡ whole
    loop_ends k whole h g =
        let m = rows_many x.ready in
        sym (emits_none capacity e) ∙ sym (ap (λ (L : List Listed). emits capacity L e)
        (passed i (start_of the_system.rows (128 * k + c)) d.rows (start_few x.ready (128 * k + c))
        (λ r u v w p.
        absurd (let a = start_behind x.ready (128 * k + c) r u w in
        let b = laws.row_kind d work chart x.ready.lawful r w in
        let f = row_first x.ready r w in
        omega arith))
        ∙ choices_end the_system i the_state d.rows (omega arith))) ∙ g

    -- a kind without copies left is passed; and behind the rows of a kind those of the next come
    pub kind_passes : (k : ℕ) (whole : Emitted) → get_or left k 0 ≡ 0
        → emits capacity (choices_from the_system i the_state (start_of the_system.rows (128 * k + c))) e ≡ whole
        → emits capacity (choices_from the_system i the_state (start_of the_system.rows (128 * (k + 1) + c))) e ≡ whole
    kind_passes k whole none g =
        sym (ap (λ (L : List Listed). emits capacity L e)
        (passed i (start_of the_system.rows (128 * k + c)) (start_of the_system.rows (128 * (k + 1) + c))
        (start_up x.ready (128 * k + c) (128 * (k + 1) + c) (omega arith))
        (λ r u v w p.
        let a = start_behind x.ready (128 * k + c) r u w in
        let b = start_before x.ready (128 * (k + 1) + c) r v in
        let q : (row_at work r).kind ≡ k = omega arith in
        ap (λ (j : ℕ). get_or left j 0) q ∙ none))) ∙ g

    pub kind_ends : (k r : ℕ) (whole : Emitted) → r ≡ start_of the_system.rows (128 * k + c + 1)
        → emits capacity (choices_from the_system i the_state r) e ≡ whole
        → emits capacity (choices_from the_system i the_state (start_of the_system.rows (128 * (k + 1) + c))) e ≡ whole
    kind_ends k r whole is g =
        let f = cell_below in
        sym (ap (λ (L : List Listed). emits capacity L e)
        (ap (choices_from the_system i the_state) is
        ∙ passed i (start_of the_system.rows (128 * k + c + 1)) (start_of the_system.rows (128 * (k + 1) + c))
        (start_up x.ready (128 * k + c + 1) (128 * (k + 1) + c) (omega arith))
        (λ r u v w p.
        absurd (let a = start_behind x.ready (128 * k + c + 1) r u w in let b = start_before x.ready (128 * (k + 1) + c) r v in omega arith)))) ∙ g

  -- the rows of a kind at the cell
  module _ (k : ℕ) (kind : k < d.kinds) where
    -- no more than 128 copies are left
    pub left_few : get_or left k 0 ≤ 128
    left_few =
        let m = laws.kinds_many d work chart in
        let t = x.searching.taken k (omega arith) in
        let s = at_most_sum the_system.copies k in
        let f = x.ready.lawful.few_copies in
        omega arith

    pub starts_within : (128 * k + c ≤ 2048) × (128 * k + c + 1 ≤ 2048)
    starts_within = range_within x.ready k c kind cell_below

    module _ (first end : ℕ) (begins : first ≡ get_or chart.starts (128 * k + c) 0) (ends : end ≡ get_or chart.starts (128 * k + c + 1) 0) where
      pub begins_is : first ≡ start_of the_system.rows (128 * k + c)
      begins_is = begins ∙ start_is x.ready (128 * k + c) starts_within.0

      pub ends_is : end ≡ start_of the_system.rows (128 * k + c + 1)
      ends_is = ends ∙ start_is x.ready (128 * k + c + 1) starts_within.1

      pub range_up : first ≤ end
      range_up = let a = begins_is in let b = ends_is in let h = start_up x.ready (128 * k + c) (128 * k + c + 1) (omega arith) in omega arith

      pub range_row : (r : ℕ) → first ≤ r → r < end → (r < d.rows) × ((row_at work r).kind ≡ k) × ((row_at work r).p ≡ c)
      range_row r h l =
          let a = begins_is in
          let b = ends_is in
          let row : r < d.rows = let m = start_few x.ready (128 * k + c + 1) in omega arith in
          let u = start_behind x.ready (128 * k + c) r (omega arith) row in
          let v = start_before x.ready (128 * k + c + 1) r (omega arith) in
          let f = row_first x.ready r row in
          let g = cell_below in
          (row, omega arith, omega arith)

  -- ---- a row of the cell
  module _ (r : ℕ) (row : r < d.rows) (at : (row_at work r).p ≡ c) where
    row_in_rows : r < length the_system.rows
    row_in_rows = let m = rows_many x.ready in omega arith

    at_row : (row_of the_system r).p ≡ c
    at_row = ap (λ (q : Placement). q.p) (row_is x.ready r row) ∙ at

    kind_is : (row_of the_system r).kind ≡ (row_at work r).kind
    kind_is = ap (λ (q : Placement). q.kind) (row_is x.ready r row)

    row_kind_few : (row_at work r).kind < 16
    row_kind_few = let a = laws.row_kind d work chart x.ready.lawful r row in let b = laws.few-kinds d work chart x.ready.lawful in omega arith

    test_is : fits left covered (mask_at work r) (row_at work r).kind ≡ possible the_state (row_of the_system r)
    test_is =
        ap (fits left covered (mask_at work r)) (sym kind_is)
        ∙ fits_possible the_system x.ready.lawful left covered (mask_at work r) rs r row_in_rows (row-cells x.ready r row)

    -- ---- it does not fit, or the entry that is waited for does not show it
    misses : fits left covered (mask_at work r) (row_at work r).kind ≡ false → (i : Identify) (capacity : ℕ) (e : Emitted)
        → emits capacity (choices_from the_system i the_state (r + 1)) e ≡ emits capacity (choices_from the_system i the_state r) e
    misses f i capacity e =
        sym (ap (λ (L : List Listed). emits capacity L e) (choices_pass the_system i the_state c first r row_in_rows at_row (sym test_is ∙ f)))

    takes : fits left covered (mask_at work r) (row_at work r).kind ≡ true → (i : Identify)
        → choices_from the_system i the_state r
        ≡ fast_below the_system i (choose the_state (row_of the_system r)) ++ choices_from the_system i the_state (r + 1)
    takes f i = choices_take the_system i the_state c first r row_in_rows at_row (sym test_is ∙ f)

    module _ (last shown : List ℕ) (sh : Shown d.size (take d.places chart.scans) last shown) where
      hides : fits left covered (mask_at work r) (row_at work r).kind ≡ true → shows_row (owned_in chart.pieces d.pieces) shown (row_at work r) ≡ false
          → (i : Identify) (capacity : ℕ) (e : Emitted) → e.waiting ≡ true → e.last ≡ last
          → emits capacity (choices_from the_system i the_state (r + 1)) e ≡ emits capacity (choices_from the_system i the_state r) e
      unfolding system_in system_over
      hides f v i capacity e w is =
          let rest = choices_from the_system i the_state (r + 1) in
          let here = fast_below the_system i (choose the_state (row_of the_system r)) in
          ap (emits capacity rest)
          (sym (unmet the_system x.ready.lawful left covered rs (all_rows x.ready x.of_rows x.searching) x.searching r row_in_rows
          (sym test_is ∙ f) last shown sh
          (ap (λ (q : Placement). shows_row (owned_in chart.pieces d.pieces) shown q) (row_is x.ready r row) ∙ v) i capacity e w is))
          ∙ sym (emits_append capacity here rest e) ∙ ap (λ (L : List Listed). emits capacity L e) (sym (takes f i))

      -- or the search does not go on below it
      dead : fits left covered (mask_at work r) (row_at work r).kind ≡ true
          → goes_on the_system (choose (state_by the_system left covered []) (row_at work r)) ≡ false
          → (i : Identify) (capacity : ℕ) (e : Emitted)
          → emits capacity (choices_from the_system i the_state (r + 1)) e ≡ emits capacity (choices_from the_system i the_state r) e
      dead f g i capacity e =
          let none = dead_lists the_system i (choose the_state (row_of the_system r))
          (ap (λ (q : Placement). goes_on the_system (choose the_state q)) (row_is x.ready r row)
          ∙ goes_same the_system left covered rs (row_at work r) ∙ g) in
          sym (ap (λ (L : List Listed). emits capacity L e) (takes f i ∙ ap (λ (L : List Listed). L ++ choices_from the_system i the_state (r + 1)) none))

      pub turn_passes : 0 < get_or left (row_at work r).kind 0 → (i : Identify) (capacity : ℕ) (e whole : Emitted) → e.last ≡ last
          → (apart 128 (has (mask_at work r)) (has covered)
          && ((not e.waiting || shows_row (owned_in chart.pieces d.pieces) shown (row_at work r))
          && goes_on the_system (choose (state_by the_system left covered []) (row_at work r)))) ≡ false
          → emits capacity (choices_from the_system i the_state r) e ≡ whole → emits capacity (choices_from the_system i the_state (r + 1)) e ≡ whole
      turn_passes some i capacity e whole is f g =
          let fit = fits_apart left covered (mask_at work r) (row_at work r).kind some in
          let clear = apart 128 (has (mask_at work r)) (has covered) in
          let shows = shows_row (owned_in chart.pieces d.pieces) shown (row_at work r) in
          ⊎_elim
          (λ h. ⊎_elim (λ a. misses (fit ∙ a) i capacity e) (λ a. hides (fit ∙ a.0) a.2 i capacity e a.1 is) (untried clear e.waiting shows h))
          (λ h. dead (fit ∙ h.0) h.1 i capacity e)
          (not_tried clear (not e.waiting || shows) (goes_on the_system (choose (state_by the_system left covered []) (row_at work r))) f)
          ∙ g

    -- ---- it fits, and the search goes on below it
    module _ (fit : fits left covered (mask_at work r) (row_at work r).kind ≡ true) where
      fit_row : fits left covered (mask_at work r) (row_of the_system r).kind ≡ true
      fit_row = ap (fits left covered (mask_at work r)) kind_is ∙ fit

      is_open : has covered c ≡ false
      is_open = let f = few in x.first.stops (omega arith)

      in_size : c < the_system.size
      in_size = let z = size_is x.ready in omega arith

      module _ (more : Mask) (union : has more ≡ either (has covered) (has (mask_at work r))) where
        call_less : length (uncovered d.size more) < length (uncovered d.size covered)
        call_less =
            subst (λ (m : ℕ). length (uncovered m more) < length (uncovered m covered)) (size_is x.ready)
            (child_less the_system x.ready.lawful left covered (mask_at work r) rs r row_in_rows
            (row-cells x.ready r row) more union c at_row is_open in_size)

        module _ (left' rs' : List ℕ) (l : left' ≡ set left (row_at work r).kind (get_or left (row_at work r).kind 0 - 1)) (p : rs' ≡ rs ++ (r ∷ [])) where
          left_row : left' ≡ set left (row_of the_system r).kind (get_or left (row_of the_system r).kind 0 - 1)
          left_row = l ∙ ap (λ (k : ℕ). set left k (get_or left k 0 - 1)) (sym kind_is)

          call_searching : Searching the_system left' more rs'
          call_searching =
              subst (λ (y : List ℕ). Searching the_system y more rs') (sym left_row)
              (subst (λ (y : List ℕ). Searching the_system (set left (row_of the_system r).kind (get_or left (row_of the_system r).kind 0 - 1)) more y) (sym p)
              (child_searching the_system x.ready.lawful left covered (mask_at work r) rs r row_in_rows
              (row-cells x.ready r row) more union c at_row is_open in_size x.searching fit_row))

          call_rows : AreRows d rs'
          call_rows =
              let a = room_left in
              let b = ap length p ∙ length-append rs (r ∷ []) in
              record {
                few = omega arith;
                are_rows = subst (λ (y : List ℕ). T (all (λ j. ltb j d.rows) y)) (sym p) (all_last rs x.of_rows.are_rows);
              }
            where
              all_last : (xs : List ℕ) → T (all (λ j. ltb j d.rows) xs) → T (all (λ j. ltb j d.rows) (xs ++ (r ∷ [])))
              all_last [] u = and_both (ltb r d.rows) true (lt→ltb r d.rows row) tt
              all_last (z ∷ xs) u =
                  and_both (ltb z d.rows) (all (λ j. ltb j d.rows) (xs ++ (r ∷ []))) (and_left (ltb z d.rows) (all (λ j. ltb j d.rows) xs) u)
                  (all_last xs (and_right (ltb z d.rows) (all (λ j. ltb j d.rows) xs) u))

          turn : (i : Identify) (capacity : ℕ) (e e' whole : Emitted)
              → e' ≡ emits capacity (fast_below the_system i (state_by the_system left' more rs')) e
              → emits capacity (choices_from the_system i the_state r) e ≡ whole → emits capacity (choices_from the_system i the_state (r + 1)) e' ≡ whole
          turn i capacity e e' whole g w =
              let s : state_by the_system left' more rs' ≡ choose the_state (row_of the_system r) =
              ap (λ (y : List ℕ). state_by the_system y more rs') left_row
              ∙ ap (λ (y : List ℕ). state_by the_system (set left (row_of the_system r).kind (get_or left (row_of the_system r).kind 0 - 1)) more y) p
              ∙ child_state the_system x.ready.lawful left covered (mask_at work r) rs r row_in_rows (row-cells x.ready r row) more union in
              ap (emits capacity (choices_from the_system i the_state (r + 1))) (g ∙ ap (λ (y : State). emits capacity (fast_below the_system i y) e) s)
              ∙ sym (emits_append capacity (fast_below the_system i (choose the_state (row_of the_system r))) (choices_from the_system i the_state (r + 1)) e)
              ∙ ap (λ (L : List Listed). emits capacity L e) (sym (takes fit i))
              ∙ w

-- ---- a row of kind k at the cell, which has copies left and fits
pub record Placing (d : Dims) (work left : List ℕ) (covered : Mask) (c r k : ℕ) : Type 0 where
  pub row : r < d.rows
  pub at : (row_at work r).p ≡ c
  pub some : 0 < get_or left k 0
  pub clear : apart 128 (has (mask_at work r)) (has covered) ≡ true
  pub kind : k ≡ (row_at work r).kind

module _ {d : Dims} {work : List ℕ} {chart : Chart} {left rs : List ℕ} {covered : Mask} {c r k : ℕ}
    (x : Opened d work chart left rs covered c) (y : Placing d work left covered c r k) where
  pub place_kind : k < 16
  place_kind = let a = row_kind_few x r y.row y.at in let f = y.kind in omega arith

  fit₀ : fits left covered (mask_at work r) (row_at work r).kind ≡ true
  fit₀ = fits_apart left covered (mask_at work r) (row_at work r).kind (subst (λ (j : ℕ). 0 < get_or left j 0) y.kind y.some) ∙ y.clear

  module _ (more : Mask) {m : Mask} (is-mask : m ≡ mask_at work r) (union : has more ≡ either (has covered) (has m)) where
    union_is : has more ≡ either (has covered) (has (mask_at work r))
    union_is = union ∙ ap (λ (z : Mask). either (has covered) (has z)) is-mask

    pub place_falls : length (uncovered d.size more) < length (uncovered d.size covered)
    place_falls = call_less x r y.row y.at fit₀ more union_is

    -- the copies and the rows with it chosen
    module _ {left' rs' : List ℕ} (z : Chosen left rs k r left' rs') where
      left_is : left' ≡ set left (row_at work r).kind (get_or left (row_at work r).kind 0 - 1)
      left_is = z.left_is ∙ ap (λ (j : ℕ). set left j (get_or left j 0 - 1)) y.kind

      pub place_searching : Searching (system_in d work chart) left' more rs'
      place_searching = call_searching x r y.row y.at fit₀ more union_is left' rs' left_is z.rows_are

      pub place_rows : AreRows d rs'
      place_rows = call_rows x r y.row y.at fit₀ more union_is left' rs' left_is z.rows_are

      pub place_turns : (i : Identify) (capacity : ℕ) (e e' whole : Emitted)
          → e' ≡ emits capacity (fast_below (system_in d work chart) i (state_by (system_in d work chart) left' more rs')) e
          → emits capacity (choices_from (system_in d work chart) i (state_by (system_in d work chart) left covered rs) r) e ≡ whole
          → emits capacity (choices_from (system_in d work chart) i (state_by (system_in d work chart) left covered rs) (r + 1)) e' ≡ whole
      place_turns = turn x r y.row y.at fit₀ more union_is left' rs' left_is z.rows_are
