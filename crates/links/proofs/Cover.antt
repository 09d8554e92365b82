-- Covering a column hides its live rows in ascending order; walking its ring up again shows them in the reverse order, which restores the links.
-- Assumes nothing.
use Prim.Native.Nat.{ℕ, zero, suc, ◌-◌, ◌≤◌, ◌<◌}
use native.Mathlib.Omega.{arith}
use mathlib.Core.Path.{◌≡◌, refl, sym, ap, ◌∙◌, subst}
use mathlib.Core.List.{List}
use mathlib.Core.Bool.{Bool, true, false, cond}
use lib.ListN.{length, get_or}
use lib.Dec.{eqb}
use Rattle.lists.proofs.TestLaws.{by_eq, by_bool, by_order, not_true, not_both, cond_true, cond_false, cond_same, cond_other, at_cond}
use Rattle.links.specs.Links.{up, down, Still}
use Rattle.links.specs.Cover.{hide, active_to, here, less_row, Consistent, Reduced, Holds, Hidable, Hidden, cover_to, alive_to, actives_to, cover, Open}
use Rattle.links.proofs.Hide.{hide_holds, hide_self, hide_far, hide_gone, hide_mono, hide_still, less_row_alive, less_row_row, in_less_row, here_alive, here_col, in_here, same_row}
use Rattle.links.proofs.Rows.{hide_length}

-- what holds after the live rows that meet c below n are hidden
pub record Upto (w : Reduced) (c n : ℕ) (alive' active' : ℕ → Bool) (m' : List ℕ) : Type 0 where
  pub held : Consistent w.t alive' active' m'
  pub was : (k : ℕ) → alive' k ≡ true → w.alive k ≡ true
  pub off : (k y : ℕ) → alive' k ≡ true → y < n → here w.t w.alive c y ≡ true → w.t.lo k ≡ w.t.lo y → ⊥
  pub stay : (k : ℕ) → w.alive k ≡ true → ((y : ℕ) → y < n → here w.t w.alive c y ≡ true → w.t.lo k ≡ w.t.lo y → ⊥) → alive' k ≡ true
  pub ring : (k : ℕ) → w.t.col k ≡ c → active' k ≡ w.active k
  pub gone : (y k : ℕ) → y < n → here w.t w.alive c y ≡ true → w.t.lo y ≤ k → k < w.t.hi y → (k ≡ y → ⊥) → active' k ≡ false
  pub mono : (k : ℕ) → active' k ≡ true → w.active k ≡ true

-- `purge_column` at node k of the ring: what stands before k is hidden; back at the head, everything
pub record Walk (w : Reduced) (c : ℕ) (m₀ m : List ℕ) (k : ℕ) : Type 0 where
  pub so : m ≡ cover_to w.t w.alive c m₀ (cond (eqb k c) w.t.nodes k)
  pub at : (k ≡ c → ⊥) → here w.t w.alive c k ≡ true

-- `unpurge_column` at node k: what stands up to k is hidden; back at the head, nothing
pub record Unwalk (w : Reduced) (c : ℕ) (m₀ m : List ℕ) (k : ℕ) : Type 0 where
  pub so : m ≡ cover_to w.t w.alive c m₀ (cond (eqb k c) 0 (suc k))
  pub at : (k ≡ c → ⊥) → here w.t w.alive c k ≡ true

module _ (w : Reduced) {m : List ℕ} (s : Holds w m) {c : ℕ} (column : c < w.t.cols) where
  -- a live node of column c, and its row
  here_node : (k : ℕ) → here w.t w.alive c k ≡ true → (w.t.cols ≤ k) × (k < w.t.nodes)
  here_node k h = s.node k (here_alive w.t w.alive c k h)

  one_row : (k y : ℕ) → here w.t w.alive c k ≡ true → here w.t w.alive c y ≡ true → w.t.lo k ≡ w.t.lo y → k ≡ y
  one_row k y hk hy e =
      let nk = here_node k hk in
      let ny = here_node y hy in
      let a = same_row w.law y k ny.0 ny.1 nk.0 nk.1 e in
      w.law.once y k ny.0 ny.1 a.0 a.1 (here_col w.t w.alive c k hk ∙ sym (here_col w.t w.alive c y hy))

  upto_next : (n : ℕ) (alive' active' : ℕ → Bool) (m' : List ℕ) (b : Bool) → here w.t w.alive c n ≡ b → Upto w c n alive' active' m'
      → Upto w c (suc n) (cond b (less_row w.t alive' n) alive') (cond b (active_to w.t n active' (w.t.hi n - w.t.lo n)) active') (cond b (hide w.t n m') m')
  upto_next n alive' active' m' false e u =
      let skip : (y : ℕ) → y < suc n → here w.t w.alive c y ≡ true → y < n
      = λ y h q. by_eq y n (λ d. not_both (here w.t w.alive c n) (subst (λ (k : ℕ). here w.t w.alive c k ≡ true) d q) e) (λ d. omega arith) in
      record {
        held = u.held;
        was = u.was;
        off = λ k y l h q. u.off k y l (skip y h q) q;
        stay = λ k l g. u.stay k l (λ y h q. g y (omega arith) q);
        ring = u.ring;
        gone = λ y k h q. u.gone y k (skip y h q) q;
        mono = u.mono;
      }
  upto_next n alive' active' m' true e u =
      let nn = here_node n e in
      let lives : alive' n ≡ true = u.stay n (here_alive w.t w.alive c n e) (λ y h q d. omega (arith, one_row n y e q d)) in
      record {
        held = hide_holds w.law u.held n lives;
        was = λ k l. u.was k (less_row_alive w.t alive' n k l);
        off = λ k y l h q d. by_eq y n
            (λ z. less_row_row w.t alive' n k l (d ∙ ap w.t.lo z))
            (λ z. u.off k y (less_row_alive w.t alive' n k l) (omega arith) q d);
        stay = λ k l g. in_less_row w.t alive' n k (u.stay k l (λ y h q. g y (omega arith) q)) (g n (omega arith) e);
        ring = λ k q. by_eq k n
            (λ z. subst (λ (i : ℕ). active_to w.t n active' (w.t.hi n - w.t.lo n) i ≡ active' i) (sym z) (hide_self w.law u.held n lives))
            (λ z. hide_far w.law u.held n lives k (λ a b. z (w.law.once n k nn.0 nn.1 a b (q ∙ sym (here_col w.t w.alive c n e)))))
            ∙ u.ring k q;
        gone = λ y k h q a b d. by_eq y n
            (λ z. hide_gone w.law u.held n lives k (subst (λ (i : ℕ). w.t.lo i ≤ k) z a) (subst (λ (i : ℕ). k < w.t.hi i) z b) (λ i. d (i ∙ sym z)))
            (λ z. not_true (active_to w.t n active' (w.t.hi n - w.t.lo n) k)
            (λ i. not_both (active' k) (hide_mono w.law u.held n lives k i) (u.gone y k (omega arith) q a b d)));
        mono = λ k h. u.mono k (hide_mono w.law u.held n lives k h);
      }

  pub upto : (n : ℕ) → Upto w c n (alive_to w.t w.alive c n) (actives_to w.t w.alive c w.active n) (cover_to w.t w.alive c m n)
  unfolding alive_to actives_to cover_to
  upto zero =
      record {
        held = s;
        was = λ k l. l;
        off = λ k y l h q d. omega arith;
        stay = λ k l g. l;
        ring = λ k q. refl;
        gone = λ y k h. absurd (omega arith);
        mono = λ k h. h;
      }
  upto (suc n) = upto_next n (alive_to w.t w.alive c n) (actives_to w.t w.alive c w.active n) (cover_to w.t w.alive c m n) (here w.t w.alive c n) refl (upto n)

  -- a stretch with no live node of column c changes nothing
  gap : (a b : ℕ) → a ≤ b → ((y : ℕ) → a ≤ y → y < b → here w.t w.alive c y ≡ true → ⊥) → cover_to w.t w.alive c m b ≡ cover_to w.t w.alive c m a
  unfolding cover_to
  gap a zero h g = ap (λ (n : ℕ). cover_to w.t w.alive c m n) (let z : zero ≡ a = omega arith in z)
  gap a (suc b) h g =
      let rest : a ≤ b → cover_to w.t w.alive c m b ≡ cover_to w.t w.alive c m a = λ l. gap a b l (λ y p q. g y p (omega arith)) in
      by_order a b
      (λ l. cond_false (here w.t w.alive c b) (hide w.t b (cover_to w.t w.alive c m b)) (cover_to w.t w.alive c m b)
      (not_true (here w.t w.alive c b) (g b l (omega arith))) ∙ rest l)
      (λ l. ap (λ (n : ℕ). cover_to w.t w.alive c m n) (let z : suc b ≡ a = omega arith in z))

  one_more : (k : ℕ) → here w.t w.alive c k ≡ true → cover_to w.t w.alive c m (suc k) ≡ hide w.t k (cover_to w.t w.alive c m k)
  unfolding cover_to
  one_more k h = cond_true (here w.t w.alive c k) (hide w.t k (cover_to w.t w.alive c m k)) (cover_to w.t w.alive c m k) h

  pub cover_to_length : (n : ℕ) → length (cover_to w.t w.alive c m n) ≡ length m
  unfolding cover_to
  cover_to_length zero = refl
  cover_to_length (suc n) =
      let rest = cover_to_length n in
      by_bool (here w.t w.alive c n)
      (λ e. ap length (cond_true (here w.t w.alive c n) (hide w.t n (cover_to w.t w.alive c m n)) (cover_to w.t w.alive c m n) e)
      ∙ hide_length w.t n (cover_to w.t w.alive c m n) ∙ rest)
      (λ e. ap length (cond_false (here w.t w.alive c n) (hide w.t n (cover_to w.t w.alive c m n)) (cover_to w.t w.alive c m n) e) ∙ rest)

  -- the matrix in the middle of a cover
  abbrev pub among : ℕ → Reduced
  among n = record { t = w.t; law = w.law; alive = alive_to w.t w.alive c n; active = actives_to w.t w.alive c w.active n }

  among_holds : (n : ℕ) (m' : List ℕ) → m' ≡ cover_to w.t w.alive c m n → Holds (among n) m'
  among_holds n m' e = rw e (upto n).held

  among_live : (k : ℕ) → here w.t w.alive c k ≡ true → (among k).alive k ≡ true
  among_live k h = (upto k).stay k (here_alive w.t w.alive c k h) (λ y l q d. omega (arith, one_row k y h q d))

  pub cover_to_still : (n i : ℕ) → Still i → get_or (cover_to w.t w.alive c m n) i 0 ≡ get_or m i 0
  unfolding cover_to
  cover_to_still zero i h = refl
  cover_to_still (suc n) i h =
      let rest = cover_to_still n i h in
      by_bool (here w.t w.alive c n)
      (λ e. ap (λ (l : List ℕ). get_or l i 0) (cond_true (here w.t w.alive c n) (hide w.t n (cover_to w.t w.alive c m n)) (cover_to w.t w.alive c m n) e)
      ∙ hide_still w.law (upto n).held n (among_live n e) i h ∙ rest)
      (λ e. ap (λ (l : List ℕ). get_or l i 0) (cond_false (here w.t w.alive c n) (hide w.t n (cover_to w.t w.alive c m n)) (cover_to w.t w.alive c m n) e) ∙ rest)

  module _ (op : Open w c) where
    -- an active node of column c that is not its head is live
    found : (n k : ℕ) → actives_to w.t w.alive c w.active n k ≡ true → w.t.col k ≡ c → (k ≡ c → ⊥) → here w.t w.alive c k ≡ true
    found n k a q d =
        let ak = (upto n).mono k a in
        in_here w.t w.alive c k
        (op k ak q (by_order w.t.cols k (λ l. l) (λ l. absurd (d (sym (w.law.head k l) ∙ q))))) q

    module _ (cur : ℕ) (ac : w.active cur ≡ true) (qc : w.t.col cur ≡ c) (lc : c ≤ cur) where
      cur_size : cur < w.t.nodes
      cur_size = s.rings.bound cur ac

      pub cover_next : (m' : List ℕ) → m' ≡ cover_to w.t w.alive c m (suc cur) → Walk w c m m' (down m' cur)
      cover_next m' e =
          let u = upto (suc cur) in
          let r = (among_holds (suc cur) m' e).rings in
          let aA = u.ring cur qc ∙ ac in
          let d = down m' cur in
          let after : (y : ℕ) → cur < y → here w.t w.alive c y ≡ true → (cur < d) × (d ≤ y)
          = λ y l h. r.next cur y aA (u.ring y (here_col w.t w.alive c y h) ∙ s.there y (here_alive w.t w.alive c y h)) (here_col w.t w.alive c y h ∙ sym qc) l in
          record {
            so = at_cond (λ (b : ℕ). m' ≡ cover_to w.t w.alive c m b) d c w.t.nodes d
                (λ z. e ∙ sym (gap (suc cur) w.t.nodes cur_size (λ y l l' h. let i = after y l h in omega arith)))
                (λ z. e ∙ sym (gap (suc cur) d (by_order d cur (λ l. absurd (z (r.wrap cur aA l ∙ qc))) (λ l. l)) (λ y l l' h. let i = after y l h in omega arith)));
            at = λ z. found (suc cur) d (r.down_active cur aA) (r.down_column cur aA ∙ qc) z;
          }

      back : (m' : List ℕ) (b : ℕ) → ((p : ℕ) → p < w.t.nodes → (cur ≤ p → cur ≡ c) → p < b) → ((p y : ℕ) → c ≤ p → p < cur → cur ≤ y → y < b → ⊥)
          → m' ≡ cover_to w.t w.alive c m b → Unwalk w c m m' (up m' cur)
      back m' b less none e =
          let u = upto b in
          let r = (among_holds b m' e).rings in
          let aA = u.ring cur qc ∙ ac in
          let p = up m' cur in
          let pA = r.up_active cur aA in
          let qp = r.up_column cur aA ∙ qc in
          let dp = r.down_up cur aA in
          let low : c ≤ p = by_order w.t.cols p (λ l. omega (arith, column)) (λ l. omega (arith, w.law.head p l, qp)) in
          let after : (y : ℕ) → p < y → here w.t w.alive c y ≡ true → (p < cur) × (cur ≤ y)
          = λ y l h.
          let i = r.next p y pA (u.ring y (here_col w.t w.alive c y h) ∙ s.there y (here_alive w.t w.alive c y h)) (here_col w.t w.alive c y h ∙ sym qp) l in
          omega (arith, dp) in
          record {
            so = at_cond (λ (n : ℕ). m' ≡ cover_to w.t w.alive c m n) p c 0 (suc p)
                (λ z. e ∙ gap 0 b (omega arith) (λ y l l' h. let i = after y (omega (arith, here_node y h, column)) h in none p y low i.0 i.1 l'))
                (λ z. e ∙ gap (suc p) b (less p (r.bound p pA) (λ l. sym dp ∙ r.wrap p pA (rw dp l) ∙ qp)) (λ y l l' h. let i = after y l h in none p y low i.0 i.1 l'));
            at = λ z. found b p pA qp z;
          }

      pub uncover_next : (m' : List ℕ) → m' ≡ cover_to w.t w.alive c m (cond (eqb cur c) w.t.nodes cur) → Unwalk w c m m' (up m' cur)
      uncover_next m' =
          at_cond (λ (b : ℕ). m' ≡ cover_to w.t w.alive c m b → Unwalk w c m m' (up m' cur)) cur c w.t.nodes cur
          (λ z. back m' w.t.nodes (λ p l g. l) (λ p y l l' h h'. omega arith))
          (λ z. back m' cur (λ p l g. by_order cur p (λ i. absurd (z (g i))) (λ i. i)) (λ p y l l' h h'. omega arith))

      cover_rises : (m' : List ℕ) → m' ≡ cover_to w.t w.alive c m (suc cur) → (down m' cur ≡ c → ⊥) → cur < down m' cur
      cover_rises m' e d =
          let r = (among_holds (suc cur) m' e).rings in
          by_order (down m' cur) cur (λ l. absurd (d (r.wrap cur ((upto (suc cur)).ring cur qc ∙ ac) l ∙ qc))) (λ l. l)

      uncover_falls : (m' : List ℕ) → m' ≡ cover_to w.t w.alive c m cur → (cur ≡ c → ⊥) → up m' cur < cur
      uncover_falls m' e d =
          let r = (among_holds cur m' e).rings in
          let aA = (upto cur).ring cur qc ∙ ac in
          let dp = r.down_up cur aA in
          by_order cur (up m' cur) (λ l. absurd (d (sym dp ∙ r.wrap (up m' cur) (r.up_active cur aA) (rw dp l) ∙ r.up_column cur aA ∙ qc))) (λ l. l)

    none_low : m ≡ cover_to w.t w.alive c m (suc c)
    unfolding cover_to
    none_low = sym (gap 0 (suc c) (omega arith) (λ y l l' h. omega (arith, here_node y h, column)))

    pub walk_start : (k : ℕ) → k ≡ down m c → Walk w c m m k
    walk_start k e = subst (λ (i : ℕ). Walk w c m m i) (sym e) (cover_next c (s.rings.heads c column) (w.law.head c column) (omega arith) m none_low)

    here_small : (k : ℕ) → here w.t w.alive c k ≡ true → k < 4096
    here_small k h = omega (arith, here_node k h, w.law.small)

    module _ {m' : List ℕ} {k : ℕ} (v : Walk w c m m' k) (d : k ≡ c → ⊥) where
      walk_so : m' ≡ cover_to w.t w.alive c m k
      walk_so = v.so ∙ ap (λ (n : ℕ). cover_to w.t w.alive c m n) (cond_other k c w.t.nodes k d)

      pub walk_hidable : Hidable m' k
      walk_hidable = record { w = among k; holds = among_holds k m' walk_so; live = among_live k (v.at d) }

      module _ (m'' : List ℕ) (g : (w' : Reduced) → Holds w' m' → w'.alive k ≡ true → m'' ≡ hide w'.t k m') where
        walk_hid : m'' ≡ cover_to w.t w.alive c m (suc k)
        walk_hid = g (among k) (among_holds k m' walk_so) (among_live k (v.at d)) ∙ ap (λ (l : List ℕ). hide w.t k l) walk_so ∙ sym (one_more k (v.at d))

        pub walk_small : k < 4096
        walk_small = here_small k (v.at d)

        k_active : w.active k ≡ true
        k_active = s.there k (here_alive w.t w.alive c k (v.at d))

        k_col : w.t.col k ≡ c
        k_col = here_col w.t w.alive c k (v.at d)

        k_low : c ≤ k
        k_low = omega (arith, here_node k (v.at d), column)

        pub walk_next : (k' : ℕ) → k' ≡ down m'' k → Walk w c m m'' k'
        walk_next k' e = subst (λ (i : ℕ). Walk w c m m'' i) (sym e) (cover_next k k_active k_col k_low m'' walk_hid)

        pub walk_less : (k' : ℕ) → k' ≡ down m'' k → cond (eqb k' c) 0 (4096 - k') < cond (eqb k c) 0 (4096 - k)
        walk_less k' e =
            rw (cond_other k c 0 (4096 - k) d)
            (at_cond (λ (n : ℕ). n < 4096 - k) k' c 0 (4096 - k')
            (λ z. omega (arith, here_small k (v.at d)))
            (λ z. omega (arith, here_small k (v.at d), e, cover_rises k k_active k_col k_low m'' walk_hid (λ q. z (e ∙ q)))))

    pub unwalk_start : (m' : List ℕ) → m' ≡ cover w c m → (k : ℕ) → k ≡ up m' c → Unwalk w c m m' k
    unwalk_start m' q k e =
        subst (λ (i : ℕ). Unwalk w c m m' i) (sym e)
        (uncover_next c (s.rings.heads c column) (w.law.head c column) (omega arith) m'
        (q ∙ ap (λ (n : ℕ). cover_to w.t w.alive c m n) (sym (cond_same c c w.t.nodes c refl))))

    pub unwalk_end : {m' : List ℕ} {k : ℕ} → Unwalk w c m m' k → k ≡ c → m' ≡ m
    unfolding cover_to
    unwalk_end {m'} {k} v e = v.so ∙ ap (λ (n : ℕ). cover_to w.t w.alive c m n) (cond_same k c 0 (suc k) e)

    module _ {m' : List ℕ} {k : ℕ} (v : Unwalk w c m m' k) (d : k ≡ c → ⊥) where
      unwalk_so : m' ≡ hide w.t k (cover_to w.t w.alive c m k)
      unwalk_so = v.so ∙ ap (λ (n : ℕ). cover_to w.t w.alive c m n) (cond_other k c 0 (suc k) d) ∙ one_more k (v.at d)

      pub unwalk_hidden : Hidden m' k
      unwalk_hidden = record { w = among k; old = cover_to w.t w.alive c m k; holds = (upto k).held; live = among_live k (v.at d); so = unwalk_so }

      module _ (m'' : List ℕ) (g : (w' : Reduced) (old : List ℕ) → Holds w' old → w'.alive k ≡ true → m' ≡ hide w'.t k old → m'' ≡ old) where
        unwalk_shown : m'' ≡ cover_to w.t w.alive c m k
        unwalk_shown = g (among k) (cover_to w.t w.alive c m k) (upto k).held (among_live k (v.at d)) unwalk_so

        pub unwalk_small : k < 4096
        unwalk_small = here_small k (v.at d)

        j_active : w.active k ≡ true
        j_active = s.there k (here_alive w.t w.alive c k (v.at d))

        j_col : w.t.col k ≡ c
        j_col = here_col w.t w.alive c k (v.at d)

        j_low : c ≤ k
        j_low = omega (arith, here_node k (v.at d), column)

        pub unwalk_next : (k' : ℕ) → k' ≡ up m'' k → Unwalk w c m m'' k'
        unwalk_next k' e =
            subst (λ (i : ℕ). Unwalk w c m m'' i) (sym e)
            (uncover_next k j_active j_col j_low m''
            (unwalk_shown ∙ ap (λ (n : ℕ). cover_to w.t w.alive c m n) (sym (cond_other k c w.t.nodes k d))))

        pub unwalk_less : (k' : ℕ) → k' ≡ up m'' k → k' < k
        unwalk_less k' e = omega (arith, e, uncover_falls k j_active j_col j_low m'' unwalk_shown d)
