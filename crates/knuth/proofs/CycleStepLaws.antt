-- Each step of the search over slices: what it may call, and what it leaves on the page once its calls have met their contracts. Assumes nothing.
use Prim.Native.Nat.{ℕ, zero, suc, ◌-◌, ◌≤◌, ◌<◌}
use mathlib.Core.Bool.{Bool, true, false, not, ◌||◌, true≢false}
use mathlib.Core.List.{List, [], ◌∷◌, ◌++◌, Memᴰ}
use mathlib.Core.Path.{◌≡◌, refl, sym, ap, ◌∙◌, subst}
use mathlib.Core.Logic.{⊎_elim}
use native.Mathlib.Omega.{arith}
use lib.Dec.{T, ltb, lt→ltb}
use lib.ListN.{length, take, length-append}
use Rattle.lists.proofs.ListLaws.{all_at, all_of}
use Rattle.definitions.specs.Kept.{Identify}
use Rattle.definitions.specs.Emission.{Emitted}
use Rattle.rows.specs.Rows.{row_at}
use Rattle.rows.specs.Systems.{System, system_in, owned_in, system_over}
use Rattle.rows.specs.Shown.{Shown, shows_row}
use Rattle.rows.specs.Lawful.{Lawful}
use Rattle.rows.specs.declared.Dims.{Dims}
use Rattle.kept.specs.Emission.{emit_kept}
use Rattle.kept.specs.Normal.{row_of}
use Rattle.kept.specs.Packings.{AreRows}
use Rattle.rows.proofs.ReadyLaws.{rows_many}
use Rattle.kept.proofs.ReadyLaws.{row_is as row-stands}
use Rattle.links.specs.Links.{down, first_of, end_of, size_of, row_number}
use Rattle.links.specs.Cover.{tally, Reduced, reduced_to}
use Rattle.links.specs.Search.{Seek, At, selected, spend, first_covered, has_row, pivot}
use Rattle.links.proofs.Search.{choose_at, sel_uncovered, try_live, try_sub, try_seek, try_at}
use Rattle.knuth.specs.Matrix.{matrix_of}
use Rattle.knuth.specs.Listing.{Chosen, Choosable, Tryable, emit_all, knuth_below, knuth_rows}
use Rattle.knuth.proofs.ChosenLaws.{row-number, row_small, chosen_next, room_next}
use Rattle.knuth.proofs.CycleLaws.{leaf, few, none, below_rows, no_rows, stops, goes_on}
use Rattle.knuth.proofs.UnmetLaws.{passed_over}
use Rattle.rows.specs.declared.chart.Chart.{Chart}

module _ (d : Dims) (work : List ℕ) (chart : Chart) where
  abbrev S : System
  S = system_in d work chart

  size_is : S.size ≡ d.size
  unfolding system_in system_over
  size_is = refl

  pub to_seek : {w : Reduced} {uncovered : ℕ → Bool} {copies : ℕ → ℕ} {left : ℕ} {m : List ℕ} → Seek w uncovered copies d.size left m → Seek w uncovered copies S.size left m
  unfolding system_in system_over
  to_seek q = q

  pub of_seek : {w : Reduced} {uncovered : ℕ → Bool} {copies : ℕ → ℕ} {left : ℕ} {m : List ℕ} → Seek w uncovered copies S.size left m → Seek w uncovered copies d.size left m
  unfolding system_in system_over
  of_seek q = q

  to_at : {w : Reduced} {c k : ℕ} → At w d.size c k → At w S.size c k
  unfolding system_in system_over
  to_at q = q

  to_shown : {last shown : List ℕ} → Shown d.size (take d.places chart.scans) last shown → Shown S.size S.scans last shown
  unfolding system_in system_over
  to_shown q = q

  -- ---- choosing a column
  pub column_tryable : {m : List ℕ} {left : ℕ} {rs : List ℕ} → Choosable S m left rs → (left ≡ 0 → ⊥) → (c : ℕ) → c ≡ pivot (size_of m) d.size → (c ≡ 4096 → ⊥) → (k : ℕ) → k ≡ down m c
      → Tryable S m left c k rs
  unfolding system_in system_over
  column_tryable p nz c ec cf k ek = record { w = p.w; uncovered = p.uncovered; copies = p.copies; seek = p.seek; stand = choose_at p.seek nz c ec cf k ek; chosen = p.chosen }

  module _ (i : Identify) (capacity : ℕ) {w : Reduced} {uncovered : ℕ → Bool} {copies : ℕ → ℕ} {left : ℕ} {m : List ℕ}
      (q : Seek w uncovered copies d.size left m) (rs : List ℕ) (before : Emitted) where
    pub found_leaf : (after : Emitted) (g : ℕ) → left < g → left ≡ 0 → after ≡ emit_kept S i capacity rs before → after ≡ emit_all S i capacity (knuth_below S rs g w copies left) before
    found_leaf after g h z e = e ∙ leaf S i capacity (to_seek q) rs g h z before

    pub found_few : tally (has_row m) d.size < left → (g : ℕ) → before ≡ emit_all S i capacity (knuth_below S rs g w copies left) before
    found_few h g = few S i capacity (to_seek q) rs (subst (λ (n : ℕ). tally (has_row m) n < left) (sym size_is) h) g before

    module _ (nz : left ≡ 0 → ⊥) (c : ℕ) (ec : c ≡ pivot (size_of m) d.size) where
      column_is : c ≡ pivot (size_of m) S.size
      column_is = ec ∙ ap (pivot (size_of m)) (sym size_is)

      pub found_none : c ≡ 4096 → (g : ℕ) → left < g → before ≡ emit_all S i capacity (knuth_below S rs g w copies left) before
      found_none cf g h = none S i capacity (to_seek q) rs nz c column_is cf g h before

      pub found_rows : (after : Emitted) → (c ≡ 4096 → ⊥) → (k : ℕ) → k ≡ down m c → w.t ≡ matrix_of S
          → ((w : Reduced) (uncovered : ℕ → Bool) (copies : ℕ → ℕ) (g : ℕ) → Seek w uncovered copies d.size left m → At w d.size c k → w.t ≡ matrix_of S
          → left ≤ g → after ≡ emit_all S i capacity (knuth_rows S rs g w copies left c k) before)
          → (g : ℕ) → left < g → after ≡ emit_all S i capacity (knuth_below S rs g w copies left) before
      found_rows after cf k ek is_t f zero h = absurd (omega arith)
      found_rows after cf k ek is_t f (suc g) h =
          f w uncovered copies g q (choose_at q nz c ec cf k ek) is_t (omega arith)
          ∙ ap (λ (l : List (List ℕ)). emit_all S i capacity l before) (sym (below_rows S i capacity (to_seek q) rs nz c column_is cf k ek g h))

  pub found_head : (i : Identify) (capacity : ℕ) {w : Reduced} {uncovered : ℕ → Bool} {copies : ℕ → ℕ} {left : ℕ} {m : List ℕ}
      (q : Seek w uncovered copies d.size left m) (rs : List ℕ) (before : Emitted) (c k : ℕ) → k ≡ c → (g : ℕ)
      → before ≡ emit_all S i capacity (knuth_rows S rs g w copies left c k) before
  found_head i capacity q rs before c k kc g = no_rows S i capacity (to_seek q) rs c k kc g before

  -- ---- trying the row of k
  module _ (law : Lawful S) {rs : List ℕ} (are : AreRows d rs) {m : List ℕ} {left c k : ℕ} (p : Tryable S m left c k rs) (kc : k ≡ c → ⊥) where
    abbrev live : p.w.alive k ≡ true
    live = try_live p.seek p.stand kc

    module _ (r : ℕ) (er : r ≡ row_number m k) where
      row_is : r ≡ (matrix_of S).row k
      row_is = er ∙ row-number S p.seek p.chosen.is_matrix k live

      row_in : r < length S.rows
      row_in = subst (λ (i : ℕ). i < length S.rows) (sym row_is) (row_small S p.seek p.chosen live)

      pub row_below : r < d.rows
      row_below = let a = row_in in let b = rows_many d work chart in omega arith

      pub row_bound : r < 1024
      row_bound = let a = row_in in let b = law.few_rows in omega arith

      -- the row is passed over: the rest of the column from the next node on
      module _ (shown : List ℕ) (before : Emitted) (sh : Shown d.size (take d.places chart.scans) before.last shown) (b : Bool)
          (is : b ≡ not before.waiting || shows_row (owned_in chart.pieces d.pieces) shown (row_at work r)) (passed : b ≡ false) where
        waits : before.waiting ≡ true
        waits = go before.waiting (shows_row (owned_in chart.pieces d.pieces) shown (row_at work r)) (sym is ∙ passed)
          where
            go : (a o : Bool) → not a || o ≡ false → a ≡ true
            go true o e = refl
            go false o e = absurd (true≢false e)

        hidden : shows_row S.pieces shown (row_of S ((matrix_of S).row k)) ≡ false
        unfolding system_in system_over
        hidden =
            ap (λ (i : ℕ). shows_row (owned_in chart.pieces d.pieces) shown (row_of S i)) (sym row_is)
            ∙ ap (shows_row (owned_in chart.pieces d.pieces) shown) (row-stands d work chart r row_below)
            ∙ sym (ap (λ (a : Bool). not a || shows_row (owned_in chart.pieces d.pieces) shown (row_at work r)) waits) ∙ sym is ∙ passed

        pub found_passed : (i : Identify) (capacity : ℕ) {w : Reduced} {uncovered : ℕ → Bool} {copies : ℕ → ℕ} → Seek w uncovered copies d.size left m
            → At w d.size c k → w.t ≡ matrix_of S → (k' : ℕ) → k' ≡ down m k → (end : Emitted)
            → ((w : Reduced) (uncovered : ℕ → Bool) (copies : ℕ → ℕ) (g : ℕ) → Seek w uncovered copies d.size left m → At w d.size c k' → w.t ≡ matrix_of S
            → left ≤ g → end ≡ emit_all S i capacity (knuth_rows S rs g w copies left c k') before)
            → (g : ℕ) → left ≤ g → end ≡ emit_all S i capacity (knuth_rows S rs g w copies left c k) before
        found_passed i capacity {w} {uncovered} {copies} q st is_t k' ek end rest g h =
            rest w uncovered copies g q (try_at q st kc m refl k' ek) is_t h
            ∙ sym (passed_over S law (to_seek q) is_t (to_at st) p.seek p.stand p.chosen kc i capacity before waits shown (to_shown sh) hidden m refl k' ek g)

    module _ (cells : ℕ) (en : cells ≡ end_of m k - first_of m k - 1) where
      pub path_room : length rs < 128
      path_room =
          let a = room_next S p.seek p.chosen live cells (try_sub p.seek p.stand kc cells en) in
          let f = law.few_cells in
          omega arith

      -- the rows chosen with it
      module _ (r : ℕ) (er : r ≡ row_number m k) (longer : List ℕ) (is : longer ≡ rs ++ (r ∷ [])) where
        is_longer : longer ≡ rs ++ ((matrix_of S).row k ∷ [])
        is_longer = is ∙ ap (λ (i : ℕ). rs ++ (i ∷ [])) (row_is r er)

        pub longer_rows : AreRows d longer
        longer_rows =
            rw is (record {
              few = let a = path_room in let e = length-append rs (r ∷ []) in omega arith;
              are_rows = all_of (λ r. ltb r d.rows) (rs ++ (r ∷ [])) (λ x i. one x i);
            })
          where
            one : (x : ℕ) → Memᴰ x (rs ++ (r ∷ [])) → T (ltb x d.rows)
            one x i =
                ⊎_elim (λ (j : Memᴰ x rs). all_at (λ r. ltb r d.rows) rs are.are_rows j)
                (λ (j : Memᴰ x (r ∷ [])). let e = mathlib.Core.List.Memᴰ.eq_of_singleton j in let a = row_below r er in lt→ltb x d.rows (omega arith))
                (mathlib.Core.List.Memᴰ.append_cases rs i)

        module _ (m₁ : List ℕ) (g₁ : (w : Reduced) (uncovered : ℕ → Bool) (copies : ℕ → ℕ) (cells left : ℕ) → Seek w uncovered copies cells left m
            → w.alive k ≡ true → m₁ ≡ selected w copies k m) where
          pub row_choosable : Choosable S m₁ (left - cells) longer
          row_choosable =
              record {
                w = reduced_to p.w (first_covered p.w.t p.copies k) (p.w.t.hi k - first_covered p.w.t p.copies k);
                uncovered = sel_uncovered p.seek k live;
                copies = spend p.w.t p.copies k;
                seek = try_seek p.seek p.stand kc cells en m₁ g₁;
                chosen = subst (λ (l : List ℕ). Chosen S (reduced_to p.w (first_covered p.w.t p.copies k)
                    (p.w.t.hi k - first_covered p.w.t p.copies k)) (spend p.w.t p.copies k) (left - cells) l)
                    (sym is_longer)
                    (chosen_next S p.seek p.chosen live law cells (try_sub p.seek p.stand kc cells en));
              }

          module _ (i : Identify) (capacity : ℕ) {w : Reduced} {uncovered : ℕ → Bool} {copies : ℕ → ℕ} (q : Seek w uncovered copies d.size left m)
              (st : At w d.size c k) (is_t : w.t ≡ matrix_of S) (before after : Emitted)
              (f : (w : Reduced) (uncovered : ℕ → Bool) (copies : ℕ → ℕ) (g : ℕ) → Seek w uncovered copies d.size (left - cells) m₁ → w.t ≡ matrix_of S → left - cells < g
              → after ≡ emit_all S i capacity (knuth_below S longer g w copies (left - cells)) before) (g : ℕ) (h : left ≤ g) where
            pub found_stop : after.further ≡ true → after ≡ emit_all S i capacity (knuth_rows S rs g w copies left c k) before
            found_stop done =
                stops S i capacity (to_seek q) rs (to_at st) kc cells en m₁ g₁ longer is_longer is_t before after
                (λ w uncovered copies g u. f w uncovered copies g (of_seek u)) done g h

            pub found_on : (m₃ : List ℕ) → m₃ ≡ m → (k' : ℕ) → k' ≡ down m₃ k → (rows : List ℕ) → rows ≡ rs → (end : Emitted)
                → ((w : Reduced) (uncovered : ℕ → Bool) (copies : ℕ → ℕ) (g : ℕ) → Seek w uncovered copies d.size left m₃ → At w d.size c k'
                → w.t ≡ matrix_of S → left ≤ g → end ≡ emit_all S i capacity (knuth_rows S rows g w copies left c k') after)
                → end ≡ emit_all S i capacity (knuth_rows S rs g w copies left c k) before
            found_on m₃ back k' ek rows same end rest =
                goes_on S i capacity (to_seek q) rs (to_at st) kc cells en m₁ g₁ longer is_longer is_t before after
                (λ w uncovered copies g u. f w uncovered copies g (of_seek u)) m₃ back k' ek end g h
                (rest w uncovered copies g (subst (λ (l : List ℕ). Seek w uncovered copies d.size left l) (sym back) q) (try_at q st kc m₃ back k' ek) is_t h
                ∙ ap (λ (l : List ℕ). emit_all S i capacity (knuth_rows S l g w copies left c k') after) same)

    pub next_tryable : (m₃ : List ℕ) → m₃ ≡ m → (k' : ℕ) → k' ≡ down m₃ k → (rows : List ℕ) → rows ≡ rs → Tryable S m₃ left c k' rows
    next_tryable m₃ back k' ek rows same =
        record {
          w = p.w;
          uncovered = p.uncovered;
          copies = p.copies;
          seek = subst (λ (l : List ℕ). Seek p.w p.uncovered p.copies S.size left l) (sym back) p.seek;
          stand = try_at p.seek p.stand kc m₃ back k' ek;
          chosen = subst (λ (l : List ℕ). Chosen S p.w p.copies left l) (sym same) p.chosen;
        }
