-- What a search over the links may ask and gets: which rows stay possible once a row is chosen, and that walking a column's ring lists the packings row by
-- row. Assumes nothing.
use Prim.Native.Nat.{ℕ, zero, suc, ◌+◌, ◌-◌, ◌*◌, ◌≤◌, ◌<◌}
use native.Mathlib.Omega.{arith}
use mathlib.Core.Path.{◌≡◌, refl, sym, ap, ◌∙◌, subst, fun_ext}
use mathlib.Core.List.{List, [], ◌∷◌, ◌++◌, map}
use mathlib.Core.Bool.{Bool, true, false, false≢true, cond}
use lib.ListN.{length}
use lib.Dec.{eqb}
use borrow.Author.Tests.{eqb-true, eq-eqb, lt-ltb}
use Rattle.lists.proofs.TestLaws.{by_bool, by_eq, by_order, by_find, not_true, cond_true, cond_false, cond_same, cond_other, at_cond, both, both_left, both_right, true_together}
use Rattle.links.specs.Links.{down, column_of, first_of, end_of, size_of, copies_of, at_column, at_copies, Matrix, Fields, without}
use Rattle.links.specs.Cover.{tally, here, Reduced, Holds, Open, Run, Runnable, Ran, reduced_to, alive_run, run_to}
use Rattle.links.specs.Search.{free, apart, first_covered, select, spend, spent, regained, Takes, Gives, Sized, Selectable, Selected, selected, pivot, has_row, Seek, At}
use Rattle.links.specs.Packings.{list_from, rows_from, exact_covers}
use Rattle.links.proofs.Tally.{tally_same, tally_less, tally_some, tally_none, tally_more}
use Rattle.links.proofs.Places.{still_copies}
use Rattle.links.proofs.Rings.{in_without, without_other, without_ne}
use Rattle.links.proofs.Hide.{here_alive, here_col, in_here, one_in_row}
use Rattle.links.proofs.Select.{Runs, runs, run_to_still}
use Rattle.links.proofs.Copies.{spent_other, spent_same, regained_spent, spent_holds}
use Rattle.links.proofs.Pivot.{pivot_same, pivot_some}

-- ---- which rows stay possible

pub free_on : (t : Matrix) (j a n : ℕ) → free t j a n ≡ true → (y : ℕ) → a ≤ y → y < a + n → t.col y ≡ j → ⊥
unfolding free
free_on t j a zero h y l g e = omega arith
free_on t j a (suc n) h y l g e =
    let rest : free t j a n ≡ true → y < a + n → ⊥ = λ f q. free_on t j a n f y l q e in
    by_eq (t.col (a + n)) j
    (λ z. false≢true (sym (cond_same (t.col (a + n)) j false (free t j a n) z) ∙ h))
    (λ z. rest (sym (cond_other (t.col (a + n)) j false (free t j a n) z) ∙ h) (by_eq y (a + n) (λ q. absurd (z (ap t.col (sym q) ∙ e))) (λ q. omega arith)))

in_free : (t : Matrix) (j a n : ℕ) → ((y : ℕ) → a ≤ y → y < a + n → t.col y ≡ j → ⊥) → free t j a n ≡ true
unfolding free
in_free t j a zero h = refl
in_free t j a (suc n) h = cond_other (t.col (a + n)) j false (free t j a n) (h (a + n) (omega arith) (omega arith)) ∙ in_free t j a n (λ y l g. h y l (omega arith))

module _ (t : Matrix) (k : ℕ) where
  pub apart_on : (a n : ℕ) → apart t k a n ≡ true → (y z : ℕ) → a ≤ y → y < a + n → t.lo k ≤ z → z < t.hi k → t.col z ≡ t.col y → ⊥
  unfolding apart
  apart_on a zero h y z l g i j e = omega arith
  apart_on a (suc n) h y z l g i j e =
      let f = free t (t.col (a + n)) (t.lo k) (t.hi k - t.lo k) in
      let rest : y < a + n → ⊥ = λ q. apart_on a n (both_right f (apart t k a n) h) y z l q i j e in
      by_eq y (a + n)
      (λ q. free_on t (t.col (a + n)) (t.lo k) (t.hi k - t.lo k) (both_left f (apart t k a n) h) z i (omega arith) (e ∙ ap t.col q))
      (λ q. rest (omega arith))

  pub in_apart : (a n : ℕ) → ((y z : ℕ) → a ≤ y → y < a + n → t.lo k ≤ z → z < t.hi k → t.col z ≡ t.col y → ⊥) → apart t k a n ≡ true
  unfolding apart
  in_apart a zero h = refl
  in_apart a (suc n) h =
      both (free t (t.col (a + n)) (t.lo k) (t.hi k - t.lo k)) (apart t k a n)
      (in_free t (t.col (a + n)) (t.lo k) (t.hi k - t.lo k) (λ z i j. h (a + n) z (omega arith) (omega arith) i (omega arith)))
      (in_apart a n (λ y z l g. h y z l (omega arith)))

-- ---- lists of what the rows give, row by row

module _ (f : ℕ → List (List ℕ)) (p : ℕ → Bool) (N : ℕ) where
  list_step : (i : ℕ) → i < N → list_from f p (N - i) i ≡ cond (p i) (f i) [] ++ list_from f p (N - suc i) (suc i)
  unfolding list_from
  list_step i h = ap (λ (n : ℕ). list_from f p n i) (let z : N - i ≡ suc (N - suc i) = omega arith in z)

  list_end : (i : ℕ) → N ≤ i → list_from f p (N - i) i ≡ []
  unfolding list_from
  list_end i h = ap (λ (n : ℕ). list_from f p n i) (let z : N - i ≡ 0 = omega arith in z)

  list_hit : (i : ℕ) → i < N → p i ≡ true → list_from f p (N - i) i ≡ f i ++ list_from f p (N - suc i) (suc i)
  list_hit i h e = list_step i h ∙ ap (λ (l : List (List ℕ)). l ++ list_from f p (N - suc i) (suc i)) (cond_true (p i) (f i) [] e)

  list_skip : (n i : ℕ) → i + n ≤ N → ((y : ℕ) → i ≤ y → y < i + n → p y ≡ true → ⊥) → list_from f p (N - i) i ≡ list_from f p (N - (i + n)) (i + n)
  list_skip zero i h g = ap (λ (k : ℕ). list_from f p (N - k) k) (omega arith)
  list_skip (suc n) i h g =
      list_step i (omega arith)
      ∙ ap (λ (l : List (List ℕ)). l ++ list_from f p (N - suc i) (suc i)) (cond_false (p i) (f i) [] (not_true (p i) (g i (omega arith) (omega arith))))
      ∙ list_skip n (suc i) (omega arith) (λ y l q. g y (omega arith) (omega arith))
      ∙ ap (λ (k : ℕ). list_from f p (N - k) k) (omega arith)

  list_gap : (i j : ℕ) → i ≤ j → j ≤ N → ((y : ℕ) → i ≤ y → y < j → p y ≡ true → ⊥) → list_from f p (N - i) i ≡ list_from f p (N - j) j
  list_gap i j h l g =
      list_skip (j - i) i (omega arith) (λ y a b. g y a (omega arith))
      ∙ ap (λ (k : ℕ). list_from f p (N - k) k) (omega arith)

-- ---- the cells still uncovered after the columns of n nodes from a on are covered

unfoldable pub uncovered_run : Matrix → (ℕ → Bool) → ℕ → ℕ → ℕ → Bool
uncovered_run t uncovered a zero = uncovered
uncovered_run t uncovered a (suc n) = without (uncovered_run t uncovered a n) (t.col (a + n))

pub in_uncovered_run : (t : Matrix) (uncovered : ℕ → Bool) (a n j : ℕ) → uncovered j ≡ true → ((y : ℕ) → a ≤ y → y < a + n → j ≡ t.col y → ⊥) → uncovered_run t uncovered a n j ≡ true
unfolding uncovered_run
in_uncovered_run t uncovered a zero j u g = u
in_uncovered_run t uncovered a (suc n) j u g =
    in_without (uncovered_run t uncovered a n) (t.col (a + n)) j (in_uncovered_run t uncovered a n j u (λ y l h. g y l (omega arith))) (g (a + n) (omega arith) (omega arith))

-- one column less; the kind's column, which is no cell, changes nothing
pub tally_cell : (u : ℕ → Bool) (c n : ℕ) → u c ≡ true → c < n → tally u n ≡ tally (without u c) n + 1
tally_cell u c n h l =
    tally_less u (without u c) c n l h (not_true (without u c c) (λ q. without_ne u c c q refl)) (λ k d. sym (without_other u c k d))

pub tally_kind : (u : ℕ → Bool) (c n : ℕ) → n ≤ c → tally (without u c) n ≡ tally u n
tally_kind u c n l = tally_same (without u c) u n (λ k h. without_other u c k (omega arith))

module _ {w : Reduced} {uncovered : ℕ → Bool} {copies : ℕ → ℕ} {primary left : ℕ} {m : List ℕ} (s : Seek w uncovered copies primary left m) where
  -- ---- walking the ring of column c from node cur

  module _ (c : ℕ) (column : c < primary) (op : Open w c) (cur : ℕ) (ac : w.active cur ≡ true) (qc : w.t.col cur ≡ c) where
    d : ℕ
    d = down m cur

    d_size : d < w.t.nodes
    unfolding d
    d_size = s.holds.rings.bound (down m cur) (s.holds.rings.down_active cur ac)

    after : (y : ℕ) → cur < y → here w.t w.alive c y ≡ true → (cur < d) × (d ≤ y)
    unfolding d
    after y l h = s.holds.rings.next cur y ac (s.holds.there y (here_alive w.t w.alive c y h)) (here_col w.t w.alive c y h ∙ sym qc) l

    rises : (d ≡ c → ⊥) → cur < d
    unfolding d
    rises z = by_order (down m cur) cur (λ l. absurd (z (s.holds.rings.wrap cur ac l ∙ qc))) (λ l. l)

    pub next_at : (k : ℕ) → k ≡ down m cur → At w primary c k
    next_at k e =
        record {
          column = column;
          is_open = op;
          at = λ z.
              let r = s.holds.rings in
              let qd : w.t.col k ≡ c = ap w.t.col e ∙ r.down_column cur ac ∙ qc in
              let ad : w.active k ≡ true = ap w.active e ∙ r.down_active cur ac in
              in_here w.t w.alive c k (op k ad qd (by_order w.t.cols k (λ l. l) (λ l. absurd (z (sym (w.law.head k l) ∙ qd))))) qd;
        }

    pub next_rises : (k : ℕ) → k ≡ down m cur → (k ≡ c → ⊥) → cur < k
    unfolding d
    next_rises k e z = subst (λ (i : ℕ). cur < i) (sym e) (rises (λ q. z (e ∙ q)))

    -- the rows behind cur are those from the next node on
    next_rows : (f : (ℕ → Bool) → (ℕ → ℕ) → ℕ → List (List ℕ)) → c ≤ cur → (k : ℕ) → k ≡ down m cur
        → rows_from w.t f w.alive copies left c (suc cur) ≡ cond (eqb k c) [] (rows_from w.t f w.alive copies left c k)
    unfolding d rows_from
    next_rows f lc k e =
        let F : ℕ → List (List ℕ) = λ i. map (λ ks. i ∷ ks) (f (select w.t w.alive copies i) (spend w.t copies i) (left - (w.t.hi i - w.t.lo i - 1))) in
        let p = here w.t w.alive c in
        at_cond (λ (l : List (List ℕ)). rows_from w.t f w.alive copies left c (suc cur) ≡ l) k c [] (rows_from w.t f w.alive copies left c k)
        (λ z. list_gap F p w.t.nodes (suc cur) w.t.nodes (s.holds.rings.bound cur ac) (omega arith) (λ y l h q. let i = after y l q in omega arith)
        ∙ list_end F p w.t.nodes w.t.nodes (omega arith))
        (λ z. list_gap F p w.t.nodes (suc cur) k (next_rises k e z) (omega (arith, d_size)) (λ y l h q. let i = after y l q in omega arith))

  -- ---- choosing the row of x

  module _ (x : ℕ) (lx : w.alive x ≡ true) where
    nx : (w.t.cols ≤ x) × (x < w.t.nodes)
    nx = s.holds.node x lx

    x_low : (w.t.cols ≤ w.t.lo x) × (w.t.lo x ≤ x)
    x_low = w.law.low x nx.0 nx.1

    x_high : (x < w.t.hi x) × (w.t.hi x ≤ w.t.nodes)
    x_high = w.law.high x nx.0 nx.1

    x_size : w.t.lo x + 2 ≤ w.t.hi x
    x_size = s.shape.size x nx.0 nx.1

    abbrev kind : ℕ
    kind = w.t.col (w.t.lo x)

    abbrev a : ℕ
    a = first_covered w.t copies x

    -- where the kind's column stays open, copies of it are left
    a_first : (w.t.lo x ≤ a) × (a ≤ w.t.lo x + 1)
    unfolding first_covered
    a_first = at_cond (λ (n : ℕ). (w.t.lo x ≤ n) × (n ≤ w.t.lo x + 1)) (copies kind) 1 (w.t.lo x) (w.t.lo x + 1) (λ e. omega arith) (λ e. omega arith)

    a_last : (a ≡ w.t.lo x → ⊥) → copies kind ≡ 1 → ⊥
    unfolding first_covered
    a_last h e = h (cond_same (copies kind) 1 (w.t.lo x) (w.t.lo x + 1) e)

    kind_less : kind < w.t.cols
    kind_less = w.law.inside (w.t.lo x) x_low.0 (omega (arith, x_low, x_high))

    pub sel_run : Run w a (w.t.hi x)
    sel_run =
        record {
          order = omega (arith, a_first, x_size);
          low = omega (arith, a_first, x_low);
          high = x_high.1;
          opens = λ y p q. s.clean y (s.holds.whole x y lx (omega (arith, a_first)) q);
          once = λ y z p q p' q' e. one_in_row w.law x y z nx.0 nx.1 (omega (arith, a_first)) q (omega (arith, a_first)) q' e;
        }

    abbrev n : ℕ
    n = w.t.hi x - a

    full : (m' : List ℕ) → Holds w m' → Runs w a (w.t.hi x) n (reduced_to w a n) (run_to w a m' n)
    full m' h = runs w h sel_run n (omega (arith, a_first, x_size))

    pub sel_alive : alive_run w.t w.alive a n ≡ select w.t w.alive copies x
    unfolding select
    sel_alive =
        let u = full m s.holds in
        fun_ext (λ k. true_together (alive_run w.t w.alive a n k) (cond (w.alive k) (apart w.t k a n) false)
        (λ h. both (w.alive k) (apart w.t k a n) (u.was k h) (in_apart w.t k a n (λ y z. u.off k y z h)))
        (λ h. u.stay k (both_left (w.alive k) (apart w.t k a n) h) (apart_on w.t k a n (both_right (w.alive k) (apart w.t k a n) h))))

    -- each cell of the row is one uncovered cell less
    run_uncovered : (i : ℕ) → a + i ≤ w.t.hi x → tally (uncovered_run w.t uncovered a i) primary + (a + i - (w.t.lo x + 1)) ≡ tally uncovered primary
    unfolding uncovered_run
    run_uncovered zero h = omega (arith, a_first)
    run_uncovered (suc i) h =
        let y : ℕ = a + i in
        let c = w.t.col y in
        let rest = run_uncovered i (omega arith) in
        let ly = s.holds.whole x y lx (omega (arith, a_first)) (omega arith) in
        by_eq y (w.t.lo x)
        (λ e. omega (arith, tally_kind (uncovered_run w.t uncovered a i) c primary (subst (λ (k : ℕ). primary ≤ w.t.col k) (sym e) (s.shape.kind x nx.0 nx.1))))
        (λ e.
        let u : uncovered_run w.t uncovered a i c ≡ true
        = in_uncovered_run w.t uncovered a i c (s.meets y ly)
        (λ z p q g. absurd (omega (arith, one_in_row w.law x y z nx.0 nx.1 (omega (arith, a_first)) (omega arith) (omega (arith, a_first)) (omega arith) g))) in
        omega (arith, a_first, tally_cell (uncovered_run w.t uncovered a i) c primary u (s.shape.cell x y nx.0 nx.1 (omega (arith, a_first)) (omega arith))))

    pub sel_cells : (w.t.hi x - w.t.lo x - 1 ≤ left) × (1 ≤ w.t.hi x - w.t.lo x - 1)
    sel_cells = omega (arith, run_uncovered n (omega (arith, a_first, x_size)), s.rest, x_size, a_first)

    pub sel_uncovered : ℕ → Bool
    sel_uncovered = uncovered_run w.t uncovered a n

    pub sel_seek : Seek (reduced_to w a n) sel_uncovered (spend w.t copies x) primary (left - (w.t.hi x - w.t.lo x - 1)) (run_to w a (spent m kind) n)
    unfolding sel_uncovered spend
    sel_seek =
        let h = spent_holds w s.holds kind (omega (arith, kind_less, w.law.some, w.law.small)) in
        let u = full (spent m kind) h in
        record {
          holds = u.holds;
          shape = s.shape;
          clean = λ k g. u.keeps (w.t.col k) (s.clean k (u.was k g)) (λ y p q e. apart_here k g y p q e);
          meets = λ k g. in_uncovered_run w.t uncovered a n (w.t.col k) (s.meets k (u.was k g)) (λ y p q e. apart_here k g y p q e);
          rest = omega (arith, run_uncovered n (omega (arith, a_first, x_size)), s.rest, x_size, a_first);
          held = λ j g.
              run_to_still w h sel_run n (omega (arith, a_first, x_size)) (at_copies j) (still_copies j)
              ∙ at_cond (λ (i : ℕ). copies_of (spent m kind) j ≡ i) j kind (copies j - 1) (copies j)
              (λ e. subst (λ (i : ℕ). copies_of (spent m kind) i ≡ copies i - 1) (sym e)
              (omega (arith, spent_same m kind (omega (arith, s.holds.fields.long, kind_less, w.law.some, w.law.small)), s.held kind kind_less)))
              (λ e. spent_other m kind (at_copies j) (λ z. e (omega arith)) ∙ s.held j g);
          few = λ j g. at_cond (λ (i : ℕ). i < 4096) j kind (copies j - 1) (copies j) (λ e. omega (arith, s.few j g)) (λ e. s.few j g);
          stock = λ k g. at_cond (λ (i : ℕ). 1 ≤ i) (w.t.col (w.t.lo k)) kind (copies (w.t.col (w.t.lo k)) - 1) (copies (w.t.col (w.t.lo k)))
              (λ e. two_left k g e)
              (λ e. s.stock k (u.was k g));
        }
      where
        apart_here : (k : ℕ) → alive_run w.t w.alive a n k ≡ true → (y : ℕ) → a ≤ y → y < a + n → w.t.col k ≡ w.t.col y → ⊥
        apart_here k h y p q e =
            let u = full m s.holds in
            let nk = s.holds.node k (u.was k h) in
            u.off k y k h p q (w.law.low k nk.0 nk.1).1 (w.law.high k nk.0 nk.1).0 e

        two_left : (k : ℕ) → alive_run w.t w.alive a n k ≡ true → w.t.col (w.t.lo k) ≡ kind → 1 ≤ copies (w.t.col (w.t.lo k)) - 1
        two_left k h e =
            let u = full m s.holds in
            let lk = u.was k h in
            let nk = s.holds.node k lk in
            let kl = w.law.low k nk.0 nk.1 in
            let kh = w.law.high k nk.0 nk.1 in
            by_eq a (w.t.lo x)
            (λ z. absurd (u.off k (w.t.lo x) (w.t.lo k) h (omega arith) (omega (arith, x_size)) (omega arith) (omega arith) e))
            (λ z. let q = a_last z in omega (arith, s.stock k lk, ap copies e, ne_one z))
          where
            ne_one : (a ≡ w.t.lo x → ⊥) → (copies kind ≡ 1 → ⊥)
            ne_one z = a_last z

  pub seek_long : 32768 ≤ length m
  seek_long = s.holds.fields.long

  pub seek_cells : primary ≤ 4096
  seek_cells = omega (arith, s.shape.few, w.law.some, w.law.small)

  -- ---- the row of k chosen, and given up again

  module _ {k : ℕ} (lk : w.alive k ≡ true) where
    abbrev kd : ℕ
    kd = w.t.col (w.t.lo k)

    abbrev st : ℕ
    st = first_covered w.t copies k

    kd_size : kd < 4096
    kd_size = omega (arith, kind_less k lk, w.law.some, w.law.small)

    kd_held : copies_of m kd ≡ copies kd
    kd_held = s.held kd (kind_less k lk)

    lo_size : w.t.lo k < w.t.nodes
    lo_size = omega (arith, x_low k lk, x_high k lk)

    pub sel_small : k < 4096
    sel_small = omega (arith, nx k lk, w.law.small)

    module _ (first end : ℕ) (ef : first ≡ first_of m k) (ee : end ≡ end_of m k) where
      f_is : first ≡ w.t.lo k
      f_is = ef ∙ s.holds.fields.lo k (nx k lk).1

      end_is : end ≡ w.t.hi k
      end_is = ee ∙ s.holds.fields.hi k (nx k lk).1

      kind_is : column_of m first ≡ kd
      kind_is = ap (λ (i : ℕ). column_of m i) f_is ∙ s.holds.fields.col (w.t.lo k) lo_size

      pub sel_takes : Takes m first
      sel_takes =
          record {
            small = omega (arith, f_is, lo_size, w.law.small);
            column = omega (arith, kind_is, kd_size);
            some = rw (kind_is, kd_held) (s.stock k lk);
          }

      module _ (m₀ : List ℕ) (b : ℕ) (g₀ : m₀ ≡ spent m (column_of m first)) (gb : b ≡ cond (eqb (copies_of m (column_of m first)) 1) first (first + 1)) where
        m₀_is : m₀ ≡ spent m kd
        m₀_is = g₀ ∙ ap (spent m) kind_is

        pub sel_first : b ≡ st
        unfolding first_covered
        sel_first =
            gb
            ∙ ap (λ (i : ℕ). cond (eqb i 1) first (first + 1)) (ap (copies_of m) kind_is ∙ kd_held)
            ∙ ap (λ (i : ℕ). cond (eqb (copies kd) 1) i (i + 1)) f_is

        sel_holds : Holds w m₀
        sel_holds = rw m₀_is (spent_holds w s.holds kd kd_size)

        sel_runs : Run w b end
        sel_runs = rw (sel_first, end_is) (sel_run k lk)

        pub sel_runnable : Runnable m₀ b end
        sel_runnable = record { w = w; holds = sel_holds; run = sel_runs }

        pub sel_done : (m₁ : List ℕ) → ((w : Reduced) → Holds w m₀ → Run w b end → m₁ ≡ run_to w b m₀ (end - b)) → m₁ ≡ selected w copies k m
        unfolding selected
        sel_done m₁ g₁ =
            g₁ w sel_holds sel_runs
            ∙ ap (λ (i : ℕ). run_to w i m₀ (end - b)) sel_first
            ∙ ap (λ (i : ℕ). run_to w st m₀ i) (omega (arith, sel_first, end_is))
            ∙ ap (λ (l : List ℕ). run_to w st l (w.t.hi k - st)) m₀_is

    module _ {m₂ : List ℕ} (e₂ : m₂ ≡ selected w copies k m) (b : ℕ) (gb : b ≡ st) where
      still : Fields w.t m₂
      unfolding selected
      still = rw e₂ (sel_seek k lk).holds.fields

      module _ (first end : ℕ) (ef : first ≡ first_of m₂ k) (ee : end ≡ end_of m₂ k) where
        g_is : first ≡ w.t.lo k
        g_is = ef ∙ still.lo k (nx k lk).1

        h_is : end ≡ w.t.hi k
        h_is = ee ∙ still.hi k (nx k lk).1

        run_back : Run w b end
        run_back = rw (gb, h_is) (sel_run k lk)

        so_back : m₂ ≡ run_to w b (spent m kd) (end - b)
        unfolding selected
        so_back =
            e₂
            ∙ ap (λ (i : ℕ). run_to w i (spent m kd) (w.t.hi k - st)) (sym gb)
            ∙ ap (λ (i : ℕ). run_to w b (spent m kd) i) (omega (arith, gb, h_is))

        pub unsel_ran : Ran m₂ b end
        unsel_ran = record { w = w; old = spent m kd; holds = spent_holds w s.holds kd kd_size; run = run_back; so = so_back }

        module _ (m₃ : List ℕ) (g₃ : (w : Reduced) (m : List ℕ) → Holds w m → Run w b end → m₂ ≡ run_to w b m (end - b) → m₃ ≡ m) where
          m₃_is : m₃ ≡ spent m kd
          m₃_is = g₃ w (spent m kd) (spent_holds w s.holds kd kd_size) run_back so_back

          first_small : first < 4096
          first_small = omega (arith, g_is, lo_size, w.law.small)

          kind_still : column_of m₃ first ≡ kd
          kind_still =
              rw m₃_is
              (spent_other m kd (at_column first) (omega (arith, first_small))
              ∙ ap (λ (i : ℕ). column_of m i) g_is ∙ s.holds.fields.col (w.t.lo k) lo_size)

          fewer : copies_of m₃ kd < 4096
          fewer = rw m₃_is (omega (arith, spent_same m kd (omega (arith, seek_long, kd_size)), kd_held, s.few kd (kind_less k lk)))

          pub unsel_gives : Gives m₃ first
          unsel_gives =
              record {
                small = first_small;
                column = omega (arith, kind_still, kd_size);
                few = rw kind_still fewer;
              }

          pub unsel_back : (m₄ : List ℕ) → m₄ ≡ regained m₃ (column_of m₃ first) → m₄ ≡ m
          unsel_back m₄ e₄ =
              e₄ ∙ ap (regained m₃) kind_still ∙ ap (λ (l : List ℕ). regained l kd) m₃_is
              ∙ regained_spent m kd (omega (arith, seek_long, kd_size)) (omega (arith, kd_held, s.stock k lk))

  -- ---- at a node k of the ring of column c that is not its head

  module _ {c k : ℕ} (st : At w primary c k) (kc : k ≡ c → ⊥) where
    pub try_live : w.alive k ≡ true
    try_live = here_alive w.t w.alive c k (st.at kc)

    k_col : w.t.col k ≡ c
    k_col = here_col w.t w.alive c k (st.at kc)

    k_active : w.active k ≡ true
    k_active = s.holds.there k try_live

    k_node : (w.t.cols ≤ k) × (k < w.t.nodes)
    k_node = s.holds.node k try_live

    pub try_small : k < 4096
    try_small = sel_small try_live

    k_low : c ≤ k
    k_low = omega (arith, k_node, st.column, s.shape.few)

    pub try_sized : Sized m k
    try_sized =
        record {
          small = try_small;
          some = omega (arith, s.holds.fields.lo k k_node.1, s.holds.fields.hi k k_node.1, x_size k try_live);
        }

    pub try_selectable : Selectable m k
    try_selectable = record { w = w; uncovered = uncovered; copies = copies; primary = primary; left = left; seek = s; live = try_live }

    module _ (n : ℕ) (en : n ≡ end_of m k - first_of m k - 1) where
      n_is : n ≡ w.t.hi k - w.t.lo k - 1
      n_is = omega (arith, en, s.holds.fields.lo k k_node.1, s.holds.fields.hi k k_node.1)

      pub try_sub : (n ≤ left) × (left - n < left)
      try_sub = omega (arith, sel_cells k try_live, n_is)

      module _ (m₁ : List ℕ) (g₁ : (w : Reduced) (uncovered : ℕ → Bool) (copies : ℕ → ℕ) (primary left : ℕ) → Seek w uncovered copies primary left m → w.alive k ≡ true → m₁ ≡ selected w copies k m) where
        m₁_is : m₁ ≡ selected w copies k m
        m₁_is = g₁ w uncovered copies primary left s try_live

        pub try_seek : Seek (reduced_to w (first_covered w.t copies k) (w.t.hi k - first_covered w.t copies k)) (sel_uncovered k try_live) (spend w.t copies k) primary (left - n) m₁
        unfolding selected
        try_seek = rw (m₁_is, n_is) (sel_seek k try_live)

        -- what the matrix of `try_seek` lists
        pub try_packings : (g : ℕ)
            → exact_covers w.t primary g (alive_run w.t w.alive (first_covered w.t copies k) (w.t.hi k - first_covered w.t copies k)) (spend w.t copies k) (left - n)
            ≡ exact_covers w.t primary g (select w.t w.alive copies k) (spend w.t copies k) (left - (w.t.hi k - w.t.lo k - 1))
        try_packings g =
            ap (λ (l : ℕ → Bool). exact_covers w.t primary g l (spend w.t copies k) (left - n)) (sel_alive k try_live)
            ∙ ap (λ (i : ℕ). exact_covers w.t primary g (select w.t w.alive copies k) (spend w.t copies k) (left - i)) n_is

        module _ (a : ℕ) (ga : (w : Reduced) (uncovered : ℕ → Bool) (copies : ℕ → ℕ) (primary left : ℕ) → Seek w uncovered copies primary left m → w.alive k ≡ true
            → a ≡ first_covered w.t copies k) (m₂ : List ℕ) (e₂ : m₂ ≡ m₁) where
          pub try_selected : Selected m₂ k a
          try_selected =
              record {
                w = w;
                uncovered = uncovered;
                copies = copies;
                primary = primary;
                left = left;
                old = m;
                seek = s;
                live = try_live;
                first = ga w uncovered copies primary left s try_live;
                so = e₂ ∙ m₁_is;
              }

          pub try_back : (m₃ : List ℕ)
              → ((w : Reduced) (uncovered : ℕ → Bool) (copies : ℕ → ℕ) (primary left : ℕ) (m : List ℕ) → Seek w uncovered copies primary left m → w.alive k ≡ true
              → a ≡ first_covered w.t copies k → m₂ ≡ selected w copies k m → m₃ ≡ m)
              → m₃ ≡ m
          try_back m₃ g₃ = g₃ w uncovered copies primary left m s try_live (ga w uncovered copies primary left s try_live) (e₂ ∙ m₁_is)

    rows_hit : (f : (ℕ → Bool) → (ℕ → ℕ) → ℕ → List (List ℕ))
        → rows_from w.t f w.alive copies left c k
        ≡ map (λ ks. k ∷ ks) (f (select w.t w.alive copies k) (spend w.t copies k) (left - (w.t.hi k - w.t.lo k - 1))) ++ rows_from w.t f w.alive copies left c (suc k)
    unfolding rows_from
    rows_hit f =
        let F : ℕ → List (List ℕ) = λ i. map (λ ks. i ∷ ks) (f (select w.t w.alive copies i) (spend w.t copies i) (left - (w.t.hi i - w.t.lo i - 1))) in
        list_hit F (here w.t w.alive c) w.t.nodes k k_node.1 (st.at kc)

    -- the next node of the ring, read from memory that is as before
    module _ (m₃ : List ℕ) (back : m₃ ≡ m) (k' : ℕ) (e : k' ≡ down m₃ k) where
      e_is : k' ≡ down m k
      e_is = e ∙ ap (λ (l : List ℕ). down l k) back

      pub try_at : At w primary c k'
      try_at = next_at c st.column st.is_open k k_active k_col k' e_is

      pub try_less : cond (eqb k' c) 0 (4096 - k') < cond (eqb k c) 0 (4096 - k)
      try_less =
          rw (cond_other k c 0 (4096 - k) kc)
          (at_cond (λ (n : ℕ). n < 4096 - k) k' c 0 (4096 - k')
          (λ z. omega (arith, try_small))
          (λ z. omega (arith, try_small, next_rises c st.column st.is_open k k_active k_col k' e_is z)))

      -- the rows from k on: those with the row of k, then those from the next node on
      pub try_rows_next : (f : (ℕ → Bool) → (ℕ → ℕ) → ℕ → List (List ℕ))
          → rows_from w.t f w.alive copies left c k
          ≡ map (λ ks. k ∷ ks) (f (select w.t w.alive copies k) (spend w.t copies k) (left - (w.t.hi k - w.t.lo k - 1)))
          ++ cond (eqb k' c) [] (rows_from w.t f w.alive copies left c k')
      try_rows_next f =
          rows_hit f
          ∙ ap (λ (l : List (List ℕ)). map (λ ks. k ∷ ks) (f (select w.t w.alive copies k) (spend w.t copies k) (left - (w.t.hi k - w.t.lo k - 1))) ++ l)
          (next_rows c st.column st.is_open k k_active k_col f k_low k' e_is)

  -- ---- the column to try, and its rows

  pub choose_zero : (g : ℕ) → left < g → left ≡ 0 → exact_covers w.t primary g w.alive copies left ≡ [] ∷ []
  unfolding exact_covers
  choose_zero zero h e = absurd (omega arith)
  choose_zero (suc g) h e = cond_same left 0 ([] ∷ []) (cond (eqb (pivot (λ j. tally (here w.t w.alive j) w.t.nodes) primary) 4096) []
      (rows_from w.t (exact_covers w.t primary g) w.alive copies left (pivot (λ j. tally (here w.t w.alive j) w.t.nodes) primary) 0)) e

  module _ (nz : left ≡ 0 → ⊥) (c : ℕ) (ec : c ≡ pivot (size_of m) primary) where
    c_is : pivot (λ j. tally (here w.t w.alive j) w.t.nodes) primary ≡ c
    c_is = sym (ec ∙ pivot_same (size_of m) (λ j. tally (here w.t w.alive j) w.t.nodes) primary (λ j l. s.holds.count j (omega (arith, s.shape.few))))

    packings_one : (g : ℕ) → exact_covers w.t primary (suc g) w.alive copies left ≡ cond (eqb c 4096) [] (rows_from w.t (exact_covers w.t primary g) w.alive copies left c 0)
    unfolding exact_covers
    packings_one g =
        cond_other left 0 ([] ∷ []) (cond (eqb (pivot (λ j. tally (here w.t w.alive j) w.t.nodes) primary) 4096) []
        (rows_from w.t (exact_covers w.t primary g) w.alive copies left (pivot (λ j. tally (here w.t w.alive j) w.t.nodes) primary) 0)) nz
        ∙ ap (λ (i : ℕ). cond (eqb i 4096) [] (rows_from w.t (exact_covers w.t primary g) w.alive copies left i 0)) c_is

    pub choose_none : c ≡ 4096 → (g : ℕ) → left < g → exact_covers w.t primary g w.alive copies left ≡ []
    choose_none e zero h = absurd (omega arith)
    choose_none e (suc g) h = packings_one g ∙ cond_same c 4096 [] (rows_from w.t (exact_covers w.t primary g) w.alive copies left c 0) e

    module _ (cf : c ≡ 4096 → ⊥) where
      pub c_size : c < primary
      c_size = let i = pivot_some (size_of m) primary (λ e. cf (ec ∙ e)) in omega arith

      c_column : c < w.t.cols
      c_column = omega (arith, c_size, s.shape.few)

      c_some : 1 ≤ tally (here w.t w.alive c) w.t.nodes
      c_some =
          subst (λ (n : ℕ). 1 ≤ n) (s.holds.count c c_column)
          (subst (λ (i : ℕ). 1 ≤ size_of m i) (sym ec) (pivot_some (size_of m) primary (λ e. cf (ec ∙ e))).1)

      c_open : Open w c
      c_open =
          by_find (here w.t w.alive c) 0 w.t.nodes
          (λ k l h q. subst (λ (i : ℕ). Open w i) (here_col w.t w.alive c k q) (s.clean k (here_alive w.t w.alive c k q)))
          (λ none. absurd (omega (arith, c_some, tally_none (here w.t w.alive c) w.t.nodes (λ k l q. none k (omega arith) (omega arith) q))))

      -- no row has a head
      rows_below : (f : (ℕ → Bool) → (ℕ → ℕ) → ℕ → List (List ℕ)) → rows_from w.t f w.alive copies left c 0 ≡ rows_from w.t f w.alive copies left c (suc c)
      unfolding rows_from
      rows_below f =
          let F : ℕ → List (List ℕ) = λ i. map (λ ks. i ∷ ks) (f (select w.t w.alive copies i) (spend w.t copies i) (left - (w.t.hi i - w.t.lo i - 1))) in
          list_gap F (here w.t w.alive c) w.t.nodes 0 (suc c) (omega arith) (omega (arith, c_column, w.law.some))
          (λ y l h q. omega (arith, s.holds.node y (here_alive w.t w.alive c y q), c_column))

      module _ (k : ℕ) (e : k ≡ down m c) where
        pub choose_at : At w primary c k
        choose_at = next_at c c_size c_open c (s.holds.rings.heads c c_column) (w.law.head c c_column) k e

        all_rows : (f : (ℕ → Bool) → (ℕ → ℕ) → ℕ → List (List ℕ))
            → rows_from w.t f w.alive copies left c 0 ≡ cond (eqb k c) [] (rows_from w.t f w.alive copies left c k)
        all_rows f = rows_below f ∙ next_rows c c_size c_open c (s.holds.rings.heads c c_column) (w.law.head c c_column) f (omega arith) k e

        pub choose_rows : (g : ℕ) → left < suc g
            → exact_covers w.t primary (suc g) w.alive copies left ≡ cond (eqb k c) [] (rows_from w.t (exact_covers w.t primary g) w.alive copies left c k)
        choose_rows g h = packings_one g ∙ cond_other c 4096 [] (rows_from w.t (exact_covers w.t primary g) w.alive copies left c 0) cf ∙ all_rows (exact_covers w.t primary g)

-- back at the head nothing is left
pub try_head : {k c : ℕ} → k ≡ c → (l : List (List ℕ)) → cond (eqb k c) [] l ≡ []
try_head {k} {c} e l = cond_same k c [] l e

pub try_below : (left k c : ℕ) → 8192 * left + cond (eqb k c) 0 (4096 - k) < 8192 * left + 8191
try_below left k c = at_cond (λ (n : ℕ). 8192 * left + n < 8192 * left + 8191) k c 0 (4096 - k) (λ e. omega arith) (λ e. omega arith)

-- ---- a cell that no row covers any more

list_empty : (f : ℕ → List (List ℕ)) (p : ℕ → Bool) → ((k : ℕ) → p k ≡ true → f k ≡ []) → (n i : ℕ) → list_from f p n i ≡ []
unfolding list_from
list_empty f p h zero i = refl
list_empty f p h (suc n) i =
    by_bool (p i)
    (λ e. ap (λ (l : List (List ℕ)). l ++ list_from f p n (suc i)) (cond_true (p i) (f i) [] e ∙ h i e) ∙ list_empty f p h n (suc i))
    (λ e. ap (λ (l : List (List ℕ)). l ++ list_from f p n (suc i)) (cond_false (p i) (f i) [] e) ∙ list_empty f p h n (suc i))

-- whatever is chosen, it stays uncovered
dead_none : (g : ℕ) {w : Reduced} {uncovered : ℕ → Bool} {copies : ℕ → ℕ} {primary left : ℕ} {m : List ℕ} → Seek w uncovered copies primary left m
    → (j : ℕ) → j < primary → uncovered j ≡ true → ((x : ℕ) → w.alive x ≡ true → w.t.col x ≡ j → ⊥) → exact_covers w.t primary g w.alive copies left ≡ []
unfolding exact_covers rows_from sel_uncovered
dead_none zero s j jl u none = refl
dead_none (suc g) {w} {uncovered} {copies} {primary} {left} {m} s j jl u none =
    let t = w.t in
    let c = pivot (λ i. tally (here t w.alive i) t.nodes) primary in
    let rows = rows_from t (exact_covers t primary g) w.alive copies left c 0 in
    let below : (k : ℕ) → w.alive k ≡ true → exact_covers t primary g (select t w.alive copies k) (spend t copies k) (left - (t.hi k - t.lo k - 1)) ≡ []
    = λ k lk.
    let a = first_covered t copies k in
    ap (λ (l : ℕ → Bool). exact_covers t primary g l (spend t copies k) (left - (t.hi k - t.lo k - 1))) (sym (sel_alive s k lk))
    ∙ dead_none g (sel_seek s k lk) j jl
    (in_uncovered_run t uncovered a (t.hi k - a) j u
    (λ y p q e. none y (s.holds.whole k y lk (omega (arith, a_first s k lk)) (omega (arith, a_first s k lk, x_size s k lk))) (sym e)))
    (λ x h e. none x ((full s k lk m s.holds).was x h) e) in
    cond_other left 0 ([] ∷ []) (cond (eqb c 4096) [] rows) (λ e. omega (arith, s.rest, tally_some uncovered j primary jl u))
    ∙ at_cond (λ (l : List (List ℕ)). l ≡ []) c 4096 [] rows (λ e. refl)
    (λ e. list_empty (λ k. map (λ ks. k ∷ ks) (exact_covers t primary g (select t w.alive copies k) (spend t copies k) (left - (t.hi k - t.lo k - 1))))
    (here t w.alive c) (λ k p. ap (map (λ ks. k ∷ ks)) (below k (here_alive t w.alive c k p))) (t.nodes - 0) 0)

-- fewer columns have a row than cells are uncovered: one of these has none, and nothing is found
pub few_open : {w : Reduced} {uncovered : ℕ → Bool} {copies : ℕ → ℕ} {primary left : ℕ} {m : List ℕ} → Seek w uncovered copies primary left m → tally (has_row m) primary < left → (g : ℕ)
    → exact_covers w.t primary g w.alive copies left ≡ []
few_open {w} {uncovered} {copies} {primary} {left} {m} s few g =
    by_find (λ j. cond (uncovered j) (eqb (size_of m j) 0) false) 0 primary
    (λ j l h e.
    dead_none g s j (omega arith) (both_left (uncovered j) (eqb (size_of m j) 0) e)
    (λ x lx q.
    omega (
      arith,
      eqb-true (size_of m j) 0 (both_right (uncovered j) (eqb (size_of m j) 0) e),
      s.holds.count j (omega (arith, h, s.shape.few)),
      tally_some (here w.t w.alive j) x w.t.nodes (s.holds.node x lx).1 (in_here w.t w.alive j x lx q),
    )))
    (λ none. absurd (omega (
      arith,
      few,
      s.rest,
      tally_more uncovered (has_row m) primary (λ j l u. lt-ltb 0 (size_of m j)
          (by_eq (size_of m j) 0
          (λ z. absurd (none j (omega arith) (omega arith) (both (uncovered j) (eqb (size_of m j) 0) u (eq-eqb (size_of m j) 0 z))))
          (λ z. omega arith))),
    )))
