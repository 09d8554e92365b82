-- Covering the columns of a run of nodes, and uncovering them in the reverse order, which restores the links. Assumes nothing.
use Prim.Native.Nat.{ℕ, zero, suc, ◌+◌, ◌-◌, ◌≤◌, ◌<◌}
use native.Mathlib.Omega.{arith}
use mathlib.Core.Path.{◌≡◌, refl, sym, ap, ◌∙◌}
use mathlib.Core.List.{List}
use mathlib.Core.Bool.{Bool, true}
use lib.ListN.{length, get_or}
use Rattle.lists.proofs.TestLaws.{by_eq, not_both}
use Rattle.links.specs.Links.{column_of, Still}
use Rattle.links.specs.Cover.{Reduced, Holds, Open, Coverable, Covered, cover, after_cover, reduced_to, alive_run, active_run, run_to, Run}
use Rattle.links.proofs.Hide.{same_row, here_alive, here_col, in_here}
use Rattle.links.proofs.Cover.{upto, cover_to_length, cover_to_still}

module _ (w : Reduced) {m : List ℕ} (s : Holds w m) {c : ℕ} (column : c < w.t.cols) where
  pub after_cover_holds : Holds (after_cover w c) (cover w c m)
  after_cover_holds = (upto w s column w.t.nodes).held

  -- a row is live after it if it was live and does not meet the column
  pub after_cover_was : (k : ℕ) → (after_cover w c).alive k ≡ true → w.alive k ≡ true
  after_cover_was k h = (upto w s column w.t.nodes).was k h

  pub after_cover_off : (k y : ℕ) → (after_cover w c).alive k ≡ true → w.t.lo k ≤ y → y < w.t.hi k → w.t.col y ≡ c → ⊥
  after_cover_off k y h a b e =
      let lk = after_cover_was k h in
      let nk = s.node k lk in
      let ly = s.whole k y lk a b in
      (upto w s column w.t.nodes).off k y h (s.node y ly).1 (in_here w.t w.alive c y ly e) (sym (w.law.row k y nk.0 nk.1 a b).0)

  pub after_cover_stay : (k : ℕ) → w.alive k ≡ true → ((y : ℕ) → w.t.lo k ≤ y → y < w.t.hi k → w.t.col y ≡ c → ⊥) → (after_cover w c).alive k ≡ true
  after_cover_stay k l g =
      let nk = s.node k l in
      (upto w s column w.t.nodes).stay k l (λ y h q e.
      let ny = s.node y (here_alive w.t w.alive c y q) in
      let i = same_row w.law k y nk.0 nk.1 ny.0 ny.1 (sym e) in
      g y i.0 i.1 (here_col w.t w.alive c y q))

  -- another column that was open stays so
  pub after_cover_open : (j : ℕ) → (j ≡ c → ⊥) → Open w j → Open (after_cover w c) j
  after_cover_open j d op k a q n =
      let u = upto w s column w.t.nodes in
      let l = op k (u.mono k a) q n in
      let nk = s.node k l in
      u.stay k l (λ y h p e.
      let ny = s.node y (here_alive w.t w.alive c y p) in
      let i = same_row w.law y k ny.0 ny.1 nk.0 nk.1 e in
      not_both ((after_cover w c).active k) a (u.gone y k h p i.0 i.1 (λ z. d (sym q ∙ ap w.t.col z ∙ here_col w.t w.alive c y p))))

-- ---- a run of nodes

pub record Runs (w : Reduced) (a b n : ℕ) (w' : Reduced) (m' : List ℕ) : Type 0 where
  pub holds : Holds w' m'
  pub opens : (y : ℕ) → a + n ≤ y → y < b → Open w' (w.t.col y)
  pub was : (k : ℕ) → w'.alive k ≡ true → w.alive k ≡ true
  pub off : (k y z : ℕ) → w'.alive k ≡ true → a ≤ y → y < a + n → w.t.lo k ≤ z → z < w.t.hi k → w.t.col z ≡ w.t.col y → ⊥
  pub stay : (k : ℕ) → w.alive k ≡ true → ((y z : ℕ) → a ≤ y → y < a + n → w.t.lo k ≤ z → z < w.t.hi k → w.t.col z ≡ w.t.col y → ⊥) → w'.alive k ≡ true
  pub keeps : (j : ℕ) → Open w j → ((y : ℕ) → a ≤ y → y < a + n → j ≡ w.t.col y → ⊥) → Open w' j

module _ (w : Reduced) {m : List ℕ} (s : Holds w m) {a b : ℕ} (r : Run w a b) where
  run_col : (y : ℕ) → a ≤ y → y < b → w.t.col y < w.t.cols
  run_col y l h = w.law.inside y (omega (arith, r.low)) (omega (arith, r.high))

  runs_next : (n : ℕ) → a + n < b → (alive' active' : ℕ → Bool) (m' : List ℕ)
      → Runs w a b n (record { t = w.t; law = w.law; alive = alive'; active = active' }) m'
      → Runs w a b (suc n) (after_cover (record { t = w.t; law = w.law; alive = alive'; active = active' }) (w.t.col (a + n)))
      (cover (record { t = w.t; law = w.law; alive = alive'; active = active' }) (w.t.col (a + n)) m')
  runs_next n h alive' active' m' u =
      let w' : Reduced = record { t = w.t; law = w.law; alive = alive'; active = active' } in
      let c = run_col (a + n) (omega arith) h in
      record {
        holds = after_cover_holds w' u.holds c;
        opens = λ y l g. after_cover_open w' u.holds c (w.t.col y) (λ e. absurd (omega (arith, r.once y (a + n) (omega arith) g (omega arith) h e))) (u.opens y (omega arith) g);
        was = λ k l. u.was k (after_cover_was w' u.holds c k l);
        off = λ k y z l p q i j e. by_eq y (a + n)
            (λ f. after_cover_off w' u.holds c k z l i j (e ∙ ap w.t.col f))
            (λ f. u.off k y z (after_cover_was w' u.holds c k l) p (omega arith) i j e);
        stay = λ k l g. after_cover_stay w' u.holds c k (u.stay k l (λ y z p q. g y z p (omega arith))) (λ z i j. g (a + n) z (omega arith) (omega arith) i j);
        keeps = λ j o g. after_cover_open w' u.holds c j (g (a + n) (omega arith) (omega arith)) (u.keeps j o (λ y p q. g y p (omega arith)));
      }

  pub runs : (n : ℕ) → a + n ≤ b → Runs w a b n (reduced_to w a n) (run_to w a m n)
  unfolding alive_run active_run run_to
  runs zero h = record { holds = s; opens = λ y l g. r.opens y (omega arith) g; was = λ k l. l; off = λ k y z l p q i j e. omega arith; stay = λ k l g. l; keeps = λ j o g. o }
  runs (suc n) h = runs_next n (omega arith) (alive_run w.t w.alive a n) (active_run w.t w.alive w.active a n) (run_to w a m n) (runs n (omega arith))

  -- what is covered is the columns of the nodes before y
  run_next : (n : ℕ) → run_to w a m (suc n) ≡ cover (reduced_to w a n) (w.t.col (a + n)) (run_to w a m n)
  unfolding run_to
  run_next n = refl

  pub run_to_length : (n : ℕ) → a + n ≤ b → length (run_to w a m n) ≡ length m
  unfolding run_to
  run_to_length zero h = refl
  run_to_length (suc n) h =
      cover_to_length (reduced_to w a n) (runs n (omega arith)).holds (run_col (a + n) (omega arith) (omega arith)) w.t.nodes ∙ run_to_length n (omega arith)

  pub run_to_still : (n : ℕ) → a + n ≤ b → (i : ℕ) → Still i → get_or (run_to w a m n) i 0 ≡ get_or m i 0
  unfolding run_to
  run_to_still zero h i g = refl
  run_to_still (suc n) h i g =
      cover_to_still (reduced_to w a n) (runs n (omega arith)).holds (run_col (a + n) (omega arith) (omega arith)) w.t.nodes i g ∙ run_to_still n (omega arith) i g

pub record Running (w : Reduced) (a b : ℕ) (m₀ m : List ℕ) (y : ℕ) : Type 0 where
  pub low : a ≤ y
  pub high : y ≤ b
  pub so : m ≡ run_to w a m₀ (y - a)

module _ (w : Reduced) {m₀ : List ℕ} (s : Holds w m₀) {a b : ℕ} (r : Run w a b) where
  pub running_start : Running w a b m₀ m₀ a
  unfolding run_to
  running_start = record { low = omega arith; high = r.order; so = ap (λ (n : ℕ). run_to w a m₀ n) (let z : 0 ≡ a - a = omega arith in z) }

  module _ {m : List ℕ} {y : ℕ} (v : Running w a b m₀ m y) where
    pub ran_end : y ≤ a → m ≡ m₀
    unfolding run_to
    ran_end h = v.so ∙ ap (λ (n : ℕ). run_to w a m₀ n) (let z : y - a ≡ 0 = omega (arith, v.low) in z)

    -- going up
    module _ (h : y < b) where
      here_is : a + (y - a) ≡ y
      here_is = omega (arith, v.low)

      holds_here : Holds (reduced_to w a (y - a)) m
      holds_here = rw v.so (runs w s r (y - a) (omega (arith, v.low))).holds

      col_here : column_of m y ≡ w.t.col y
      col_here = holds_here.fields.col y (omega (arith, r.high))

      open_here : Open (reduced_to w a (y - a)) (w.t.col y)
      open_here = (runs w s r (y - a) (omega (arith, v.low))).opens y (omega (arith, here_is)) h

      module _ (c : ℕ) (e : c ≡ column_of m y) where
        c_is : c ≡ w.t.col y
        c_is = e ∙ col_here

        c_column : c < w.t.cols
        c_column = rw c_is (run_col w s r y v.low h)

        c_open : Open (reduced_to w a (y - a)) c
        c_open = rw c_is open_here

        pub running_coverable : Coverable m c
        running_coverable = record { w = reduced_to w a (y - a); holds = holds_here; column = c_column; is_open = c_open }

        pub running_next : (m' : List ℕ) → ((w' : Reduced) → Holds w' m → c < w'.t.cols → Open w' c → m' ≡ cover w' c m) → Running w a b m₀ m' (y + 1)
        running_next m' g =
            record {
              low = omega (arith, v.low);
              high = omega arith;
              so = g (reduced_to w a (y - a)) holds_here c_column c_open
                  ∙ ap (λ (i : ℕ). cover (reduced_to w a (y - a)) i m) (c_is ∙ ap w.t.col (sym here_is))
                  ∙ ap (λ (l : List ℕ). cover (reduced_to w a (y - a)) (w.t.col (a + (y - a))) l) v.so
                  ∙ sym (run_next w s r (y - a))
                  ∙ ap (λ (n : ℕ). run_to w a m₀ n) (omega (arith, v.low));
            }

    -- going down
    module _ (h : a < y) where
      n : ℕ
      n = y - 1 - a

      n_is : a + n ≡ y - 1
      unfolding n
      n_is = omega arith

      last_is : m ≡ run_to w a m₀ (suc n)
      unfolding n
      last_is = v.so ∙ ap (λ (k : ℕ). run_to w a m₀ k) (omega arith)

      cover_is : m ≡ cover (reduced_to w a n) (w.t.col (y - 1)) (run_to w a m₀ n)
      cover_is = last_is ∙ run_next w s r n ∙ ap (λ (i : ℕ). cover (reduced_to w a n) (w.t.col i) (run_to w a m₀ n)) n_is

      col_last : column_of m (y - 1) ≡ w.t.col (y - 1)
      col_last = rw last_is ((runs w s r (suc n) (omega (arith, n_is, v.high))).holds.fields.col (y - 1) (omega (arith, r.high, v.high)))

      module _ (c : ℕ) (e : c ≡ column_of m (y - 1)) where
        d_is : c ≡ w.t.col (y - 1)
        d_is = e ∙ col_last

        d_column : c < w.t.cols
        d_column = rw d_is (run_col w s r (y - 1) (omega arith) (omega (arith, v.high)))

        d_open : Open (reduced_to w a n) c
        d_open = rw d_is ((runs w s r n (omega (arith, n_is, v.high))).opens (y - 1) (omega (arith, n_is)) (omega (arith, v.high)))

        d_holds : Holds (reduced_to w a n) (run_to w a m₀ n)
        d_holds = (runs w s r n (omega (arith, n_is, v.high))).holds

        d_so : m ≡ cover (reduced_to w a n) c (run_to w a m₀ n)
        d_so = rw d_is cover_is

        pub ran_covered : Covered m c
        ran_covered = record { w = reduced_to w a n; old = run_to w a m₀ n; holds = d_holds; column = d_column; is_open = d_open; so = d_so }

        pub ran_next : (m' : List ℕ) → ((w' : Reduced) (old : List ℕ) → Holds w' old → c < w'.t.cols → Open w' c → m ≡ cover w' c old → m' ≡ old) → Running w a b m₀ m' (y - 1)
        unfolding n
        ran_next m' g =
            record {
              low = omega arith;
              high = omega (arith, v.high);
              so = g (reduced_to w a n) (run_to w a m₀ n) d_holds d_column d_open d_so;
            }
