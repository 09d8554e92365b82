-- The links of a matrix, built node by node: each node that is added as the last of its column keeps the rings and the counts right. Assumes nothing.
use Prim.Native.Nat.{ℕ, suc, ◌+◌, ◌≤◌, ◌<◌}
use native.Mathlib.Omega.{arith}
use mathlib.Core.Path.{◌≡◌, refl, sym, ap, ◌∙◌, subst}
use mathlib.Core.List.{List}
use mathlib.Core.Bool.{true}
use lib.ListN.{length, get_or, set, length-set}
use lib.Seq.{get_or-set_same, get_or-set_other}
use lib.Dec.{ltb, leb}
use borrow.Author.Tests.{ltb-true, lt-ltb, leb-true, le-leb}
use Rattle.lists.proofs.TestLaws.{by_eq, by_order, not_true, both, both_left, both_right}
use Rattle.links.specs.Links.{up, down, column_of, size_of, at_up, at_down, at_size, Still, Matrix, LawfulMatrix, Fields, Rings}
use Rattle.links.specs.Cover.{bit, tally, inc, here, Consistent}
use Rattle.links.specs.Build.{is_below, every, headed, inserted, link_last, Joinable, Partial, Headed}
use Rattle.links.proofs.Tally.{tally_none, tally_le}
use Rattle.links.proofs.Places.{fields_agree}
use Rattle.links.proofs.Rings.{two_other, two_first, two_second, two_length, rings_agree}
use Rattle.links.proofs.Hide.{here_alive, here_col, in_here}

-- ---- one node joined

module _ (m : List ℕ) (x c u : ℕ) (long : 32768 ≤ length m) (xl : x < 4096) (cl : c < 4096) (ul : u < 4096) (xc : c ≡ x → ⊥) (xu : u ≡ x → ⊥) where
  own : List ℕ
  own = set (set m (at_up x) u) (at_down x) c

  own_length : length own ≡ length m
  unfolding own
  own_length = two_length m (at_up x) u (at_down x) c

  pub inserted_length : length (inserted m x c u) ≡ length m
  unfolding inserted own
  inserted_length = two_length own (at_down u) x (at_up c) x ∙ own_length

  pub inserted_other : (i : ℕ) → (i ≡ at_up x → ⊥) → (i ≡ at_down x → ⊥) → (i ≡ at_down u → ⊥) → (i ≡ at_up c → ⊥) → get_or (inserted m x c u) i 0 ≡ get_or m i 0
  unfolding inserted own
  inserted_other i a b d e = two_other own (at_down u) x (at_up c) x i d e ∙ two_other m (at_up x) u (at_down x) c i a b

  pub inserted_up : up (inserted m x c u) x ≡ u
  unfolding inserted own
  inserted_up = two_other own (at_down u) x (at_up c) x (at_up x) (omega arith) (λ e. xc (omega arith)) ∙ two_first m (at_up x) u (at_down x) c (omega arith) (omega arith)

  pub inserted_down : down (inserted m x c u) x ≡ c
  unfolding inserted own
  inserted_down = two_other own (at_down u) x (at_up c) x (at_down x) (λ e. xu (omega arith)) (omega arith) ∙ two_second m (at_up x) u (at_down x) c (omega arith)

  pub inserted_last : down (inserted m x c u) u ≡ x
  unfolding inserted own
  inserted_last = two_first own (at_down u) x (at_up c) x (omega arith) (omega (arith, own_length))

  pub inserted_head : up (inserted m x c u) c ≡ x
  unfolding inserted own
  inserted_head = two_second own (at_down u) x (at_up c) x (omega (arith, own_length))

-- what is no neighbour of a node stays as it is
inserted_beside : (m : List ℕ) (x c u : ℕ) → x < 4096 → c < 4096 → u < 4096
    → (i : ℕ) → ((y : ℕ) → y < 4096 → i ≡ at_up y → ⊥) → ((y : ℕ) → y < 4096 → i ≡ at_down y → ⊥) → get_or (inserted m x c u) i 0 ≡ get_or m i 0
unfolding inserted
inserted_beside m x c u xl cl ul i a b =
    two_other (set (set m (at_up x) u) (at_down x) c) (at_down u) x (at_up c) x i (b u ul) (a c cl) ∙ two_other m (at_up x) u (at_down x) c i (a x xl) (b x xl)

-- ---- the rings of the nodes below x, with x joined

below_less : (n k : ℕ) → is_below n k ≡ true → k < n
below_less n k h = ltb-true k n h

in_below : (n k : ℕ) → k < n → is_below n k ≡ true
in_below n k h = lt-ltb k n h

module _ {t : Matrix} (law : LawfulMatrix t) {m : List ℕ} (f : Fields t m) (x : ℕ) (r : Rings t (is_below x) m) (nx : t.cols ≤ x) (lx : x < t.nodes) where
  abbrev c : ℕ
  c = t.col x

  abbrev u : ℕ
  u = up m (t.col x)

  c_less : c < t.cols
  c_less = law.inside x nx lx

  c_active : is_below x c ≡ true
  c_active = in_below x c (omega (arith, c_less))

  c_col : t.col c ≡ c
  c_col = law.head c c_less

  u_less : u < x
  u_less = below_less x u (r.up_active c c_active)

  up_column : t.col u ≡ c
  up_column = r.up_column c c_active ∙ c_col

  down_up_c : down m u ≡ c
  down_up_c = r.down_up c c_active

  up_active : is_below x u ≡ true
  up_active = in_below x u u_less

  u_low : c ≤ u
  u_low = by_order t.cols u (λ l. omega (arith, c_less)) (λ l. omega (arith, law.head u l, up_column))

  abbrev m' : List ℕ
  m' = inserted m x c u

  size : x < 4096
  size = omega (arith, law.small)

  cs : c < 4096
  cs = omega (arith, c_less, size)

  us : u < 4096
  us = omega (arith, u_less, size)

  cx : c ≡ x → ⊥
  cx e = omega (arith, c_less)

  ux : u ≡ x → ⊥
  ux e = omega (arith, u_less)

  -- down and up of a node y, by cases
  at_d : (P : ℕ → Type 0) (y : ℕ) → y < suc x → (y ≡ x → P c) → (y ≡ u → P x) → ((y < x) → (y ≡ u → ⊥) → P (down m y)) → P (down m' y)
  at_d P y l p q o =
      by_eq y x
      (λ e. subst (λ (i : ℕ). P (down (inserted m x c u) i)) (sym e) (subst P (sym (inserted_down m x c u f.long size cs us cx ux)) (p e)))
      (λ e. by_eq y u
      (λ g. subst (λ (i : ℕ). P (down (inserted m x c u) i)) (sym g) (subst P (sym (inserted_last m x c u f.long size cs us cx ux)) (q g)))
      (λ g. subst P (sym (inserted_other m x c u f.long size cs us cx ux (at_down y) (omega (arith, size)) (λ z. e (omega arith)) (λ z. g (omega arith)) (omega (arith, cs)))) (o (omega arith) g)))

  at_u : (P : ℕ → Type 0) (y : ℕ) → y < suc x → (y ≡ x → P u) → (y ≡ c → P x) → ((y < x) → (y ≡ c → ⊥) → P (up m y)) → P (up m' y)
  at_u P y l p q o =
      by_eq y x
      (λ e. subst (λ (i : ℕ). P (up (inserted m x c u) i)) (sym e) (subst P (sym (inserted_up m x c u f.long size cs us cx ux)) (p e)))
      (λ e. by_eq y c
      (λ g. subst (λ (i : ℕ). P (up (inserted m x c u) i)) (sym g) (subst P (sym (inserted_head m x c u f.long size cs us cx ux)) (q g)))
      (λ g. subst P (sym (inserted_other m x c u f.long size cs us cx ux (at_up y) (λ z. e (omega arith)) (omega (arith, size)) (omega (arith, size)) (λ z. g (omega arith)))) (o (omega arith) g)))

  pub inserted_rings : Rings t (is_below (suc x)) m'
  inserted_rings =
      record {
        bound = λ y h. omega (arith, below_less (suc x) y h);
        heads = λ j h. in_below (suc x) j (omega arith);
        down_active = λ y h. let l = below_less (suc x) y h in
            at_d (λ (n : ℕ). is_below (suc x) n ≡ true) y l
            (λ e. in_below (suc x) c (omega (arith, c_less)))
            (λ e. in_below (suc x) x (omega arith))
            (λ a b. in_below (suc x) (down m y) (omega (arith, below_less x (down m y) (r.down_active y (in_below x y a)))));
        up_active = λ y h. let l = below_less (suc x) y h in
            at_u (λ (n : ℕ). is_below (suc x) n ≡ true) y l
            (λ e. in_below (suc x) u (omega (arith, u_less)))
            (λ e. in_below (suc x) x (omega arith))
            (λ a b. in_below (suc x) (up m y) (omega (arith, below_less x (up m y) (r.up_active y (in_below x y a)))));
        down_column = λ y h. let l = below_less (suc x) y h in
            at_d (λ (n : ℕ). t.col n ≡ t.col y) y l
            (λ e. c_col ∙ x_col y e)
            (λ e. x_col x refl ∙ sym up_column ∙ ap t.col (sym e))
            (λ a b. r.down_column y (in_below x y a));
        up_column = λ y h. let l = below_less (suc x) y h in
            at_u (λ (n : ℕ). t.col n ≡ t.col y) y l
            (λ e. up_column ∙ x_col y e)
            (λ e. x_col x refl ∙ sym c_col ∙ ap t.col (sym e))
            (λ a b. r.up_column y (in_below x y a));
        up_down = λ y h. let l = below_less (suc x) y h in
            at_d (λ (n : ℕ). up m' n ≡ y) y l
            (λ e. inserted_head m x c u f.long size cs us cx ux ∙ sym e)
            (λ e. inserted_up m x c u f.long size cs us cx ux ∙ sym e)
            (λ a b.
            let ay = in_below x y a in
            let dl = below_less x (down m y) (r.down_active y ay) in
            at_u (λ (n : ℕ). n ≡ y) (down m y) (omega arith)
            (λ z. absurd (omega arith))
            (λ z. absurd (b (sym (r.up_down y ay) ∙ ap (λ (n : ℕ). up m n) z)))
            (λ a' b'. r.up_down y ay));
        down_up = λ y h. let l = below_less (suc x) y h in
            at_u (λ (n : ℕ). down m' n ≡ y) y l
            (λ e. inserted_last m x c u f.long size cs us cx ux ∙ sym e)
            (λ e. inserted_down m x c u f.long size cs us cx ux ∙ sym e)
            (λ a b.
            let ay = in_below x y a in
            let dl = below_less x (up m y) (r.up_active y ay) in
            at_d (λ (n : ℕ). n ≡ y) (up m y) (omega arith)
            (λ z. absurd (omega arith))
            (λ z. absurd (b (sym (r.down_up y ay) ∙ ap (λ (n : ℕ). down m n) z ∙ down_up_c)))
            (λ a' b'. r.down_up y ay));
        wrap = λ y h. let l = below_less (suc x) y h in
            at_d (λ (n : ℕ). n ≤ y → n ≡ t.col y) y l
            (λ e g. x_col y e)
            (λ e g. absurd (omega (arith, u_less)))
            (λ a b g. r.wrap y (in_below x y a) g);
        next = λ y k h hk q g.
            let l = below_less (suc x) y h in
            let lk = below_less (suc x) k hk in
            at_d (λ (n : ℕ). (y < n) × (n ≤ k)) y l
            (λ e. absurd (omega arith))
            (λ e. by_order x k
            (λ a. omega (arith, u_less))
            (λ a. absurd (omega (arith, r.next u k up_active (in_below x k a) (q ∙ ap t.col e) (omega arith), down_up_c, u_low))))
            (λ a b.
            let ay = in_below x y a in
            by_order x k
            (λ i.
            let kx : k ≡ x = omega arith in
            let dl = below_less x (down m y) (r.down_active y ay) in
            let rises : y < down m y
            = by_order (down m y) y
            (λ z. absurd (b (sym (r.up_down y ay) ∙ ap (λ (n : ℕ). up m n) (r.wrap y ay z ∙ sym q ∙ ap t.col kx))))
            (λ z. z) in
            omega arith)
            (λ i. r.next y k ay (in_below x k i) q g));
      }
    where
      x_col : (y : ℕ) → y ≡ x → c ≡ t.col y
      x_col y e = ap t.col (sym e)

-- ---- with the count

inc_length : (m : List ℕ) (j : ℕ) → length (inc m j) ≡ length m
unfolding inc
inc_length m j = length-set m (at_size j) (size_of m j + 1)

inc_other : (m : List ℕ) (j i : ℕ) → (i ≡ at_size j → ⊥) → get_or (inc m j) i 0 ≡ get_or m i 0
unfolding inc
inc_other m j i h = get_or-set_other m (at_size j) i (size_of m j + 1) 0 h

inc_same : (m : List ℕ) (j : ℕ) → at_size j < length m → size_of (inc m j) j ≡ size_of m j + 1
unfolding inc
inc_same m j h = get_or-set_same m (at_size j) (size_of m j + 1) 0 h

pub in_every : (t : Matrix) (k : ℕ) → t.cols ≤ k → k < t.nodes → every t k ≡ true
unfolding every
in_every t k a b = both (leb t.cols k) (ltb k t.nodes) (le-leb t.cols k a) (lt-ltb k t.nodes b)

pub every_node : (t : Matrix) (k : ℕ) → every t k ≡ true → (t.cols ≤ k) × (k < t.nodes)
unfolding every
every_node t k h =
    (leb-true t.cols k (both_left (leb t.cols k) (ltb k t.nodes) h), ltb-true k t.nodes (both_right (leb t.cols k) (ltb k t.nodes) h))

module _ {t : Matrix} (law : LawfulMatrix t) {m : List ℕ} {x : ℕ} (p : Partial t x m) (nx : t.cols ≤ x) (lx : x < t.nodes) where
  k_less : t.col x < t.cols
  k_less = law.inside x nx lx

  col_is : column_of m x ≡ t.col x
  col_is = p.fields.col x lx

  last_less : up m (t.col x) < x
  last_less = u_less law p.fields x p.rings nx lx

  pub partial_joinable : Joinable m x
  partial_joinable =
      record {
        small = omega (arith, law.small);
        column = omega (arith, col_is, k_less, law.small);
        last = rw col_is (omega (arith, last_less, law.small));
        apart = λ e. omega (arith, col_is, k_less);
        few = rw col_is (omega (arith, p.count (t.col x) k_less, tally_le (here t (every t) (t.col x)) x, law.small));
      }

  abbrev next : List ℕ
  next = inc (inserted m x (t.col x) (up m (t.col x))) (t.col x)

  next_is : link_last m x ≡ next
  unfolding link_last
  next_is = ap (λ (c : ℕ). inc (inserted m x c (up m c)) c) col_is

  sizes : (x < 4096) × (t.col x < 4096) × (up m (t.col x) < 4096)
  sizes = omega (arith, k_less, last_less, law.small)

  c_apart : t.col x ≡ x → ⊥
  c_apart e = omega (arith, k_less)

  u_apart : up m (t.col x) ≡ x → ⊥
  u_apart e = omega (arith, last_less)

  join_beside : (i : ℕ) → ((y : ℕ) → y < 4096 → i ≡ at_up y → ⊥) → ((y : ℕ) → y < 4096 → i ≡ at_down y → ⊥)
      → get_or (inserted m x (t.col x) (up m (t.col x))) i 0 ≡ get_or m i 0
  join_beside i a b = inserted_beside m x (t.col x) (up m (t.col x)) sizes.0 sizes.1 sizes.2 i a b

  join_size : (j : ℕ) → size_of (inserted m x (t.col x) (up m (t.col x))) j ≡ size_of m j
  join_size j = join_beside (at_size j) (λ y l e. omega arith) (λ y l e. omega arith)

  join_length : length (inserted m x (t.col x) (up m (t.col x))) ≡ length m
  join_length = inserted_length m x (t.col x) (up m (t.col x)) p.fields.long sizes.0 sizes.1 sizes.2 c_apart u_apart

  next_count : (j : ℕ) → j < t.cols → size_of next j ≡ tally (here t (every t) j) (suc x)
  unfolding tally
  next_count j h =
      by_eq j (t.col x)
      (λ e. subst (λ (i : ℕ). size_of (inc (inserted m x (t.col x) (up m (t.col x))) (t.col x)) i ≡ bit (here t (every t) i x) + tally (here t (every t) i) x) (sym e)
      (omega (
        arith,
        inc_same (inserted m x (t.col x) (up m (t.col x))) (t.col x) (omega (arith, join_length, p.fields.long, sizes)),
        join_size (t.col x),
        p.count (t.col x) k_less,
        ap bit (in_here t (every t) (t.col x) x (in_every t x nx lx) refl),
      )))
      (λ e. omega (
        arith,
        inc_other (inserted m x (t.col x) (up m (t.col x))) (t.col x) (at_size j) (λ z. e (omega arith)),
        join_size j,
        p.count j h,
        ap bit (not_true (here t (every t) j x) (λ z. e (sym (here_col t (every t) j x z)))),
      ))

  pub partial_next : Partial t (suc x) (link_last m x)
  partial_next =
      rw next_is
      (record {
        fields = fields_agree p.fields next next_length next_still;
        rings = rings_agree next (inserted_rings law p.fields x p.rings nx lx) (λ k. refl) next_up next_down;
        count = next_count;
      })
    where
      next_length : length next ≡ length m
      next_length = inc_length (inserted m x (t.col x) (up m (t.col x))) (t.col x) ∙ join_length

      next_still : (i : ℕ) → Still i → get_or next i 0 ≡ get_or m i 0
      next_still i s = inc_other (inserted m x (t.col x) (up m (t.col x))) (t.col x) i (s.size (t.col x) sizes.1) ∙ join_beside i s.up s.down

      next_up : (k : ℕ) → up next k ≡ up (inserted m x (t.col x) (up m (t.col x))) k
      next_up k = inc_other (inserted m x (t.col x) (up m (t.col x))) (t.col x) (at_up k) (omega arith)

      next_down : (k : ℕ) → down next k ≡ down (inserted m x (t.col x) (up m (t.col x))) k
      next_down k = inc_other (inserted m x (t.col x) (up m (t.col x))) (t.col x) (at_down k) (omega arith)

-- ---- the heads

module _ (m : List ℕ) (i : ℕ) (long : 32768 ≤ length m) (il : i < 4096) where
  pub headed_length : length (headed m i) ≡ length m
  unfolding headed
  headed_length = simp length-set

  headed_other : (k : ℕ) → (k ≡ at_up i → ⊥) → (k ≡ at_down i → ⊥) → (k ≡ at_size i → ⊥) → get_or (headed m i) k 0 ≡ get_or m k 0
  unfolding headed
  headed_other k a b d = get_or-set_other (set (set m (at_up i) i) (at_down i) i) (at_size i) k 0 0 d ∙ two_other m (at_up i) i (at_down i) i k a b

  headed_up : up (headed m i) i ≡ i
  unfolding headed
  headed_up = get_or-set_other (set (set m (at_up i) i) (at_down i) i) (at_size i) (at_up i) 0 0 (omega arith) ∙ two_first m (at_up i) i (at_down i) i (omega arith) (omega arith)

  headed_down : down (headed m i) i ≡ i
  unfolding headed
  headed_down = get_or-set_other (set (set m (at_up i) i) (at_down i) i) (at_size i) (at_down i) 0 0 (omega arith) ∙ two_second m (at_up i) i (at_down i) i (omega arith)

  headed_size : size_of (headed m i) i ≡ 0
  unfolding headed
  headed_size = get_or-set_same (set (set m (at_up i) i) (at_down i) i) (at_size i) 0 0 (omega (arith, two_length m (at_up i) i (at_down i) i))

pub headed_still : (m : List ℕ) (i : ℕ) → i < 4096 → (k : ℕ) → Still k → get_or (headed m i) k 0 ≡ get_or m k 0
unfolding headed
headed_still m i l k s =
    get_or-set_other (set (set m (at_up i) i) (at_down i) i) (at_size i) k 0 0 (s.size i l) ∙ two_other m (at_up i) i (at_down i) i k (s.up i l) (s.down i l)

module _ {t : Matrix} (law : LawfulMatrix t) where
  pub headed_next : {m : List ℕ} {i : ℕ} → Headed t i m → i < t.cols → Headed t (suc i) (headed m i)
  headed_next {m} {i} h l =
      let long = h.fields.long in
      let il : i < 4096 = omega (arith, law.some, law.small) in
      record {
        fields = fields_agree h.fields (headed m i) (headed_length m i long il) (headed_still m i il);
        ups = λ j g. by_eq j i
            (λ e. subst (λ (k : ℕ). up (headed m i) k ≡ k) (sym e) (headed_up m i long il))
            (λ e. headed_other m i long il (at_up j) (λ z. e (omega arith)) (omega arith) (omega arith) ∙ h.ups j (omega arith));
        downs = λ j g. by_eq j i
            (λ e. subst (λ (k : ℕ). down (headed m i) k ≡ k) (sym e) (headed_down m i long il))
            (λ e. headed_other m i long il (at_down j) (omega arith) (λ z. e (omega arith)) (omega arith) ∙ h.downs j (omega arith));
        none = λ j g. by_eq j i
            (λ e. subst (λ (k : ℕ). size_of (headed m i) k ≡ 0) (sym e) (headed_size m i long il))
            (λ e. headed_other m i long il (at_size j) (omega arith) (omega arith) (λ z. e (omega arith)) ∙ h.none j (omega arith));
      }

  pub headed_all : {m : List ℕ} → Headed t t.cols m → Partial t t.cols m
  headed_all {m} h =
      record {
        fields = h.fields;
        rings = record {
          bound = λ x a. omega (arith, below_less t.cols x a, law.some);
          heads = λ c l. in_below t.cols c l;
          down_active = λ x a. rw (h.downs x (below_less t.cols x a)) a;
          up_active = λ x a. rw (h.ups x (below_less t.cols x a)) a;
          down_column = λ x a. ap t.col (h.downs x (below_less t.cols x a));
          up_column = λ x a. ap t.col (h.ups x (below_less t.cols x a));
          up_down = λ x a. ap (λ (n : ℕ). up m n) (h.downs x (below_less t.cols x a)) ∙ h.ups x (below_less t.cols x a);
          down_up = λ x a. ap (λ (n : ℕ). down m n) (h.ups x (below_less t.cols x a)) ∙ h.downs x (below_less t.cols x a);
          wrap = λ x a l. h.downs x (below_less t.cols x a) ∙ sym (law.head x (below_less t.cols x a));
          next = λ x k a b q l. absurd (omega (arith, law.head x (below_less t.cols x a), law.head k (below_less t.cols k b)));
        };
        count = λ j l. h.none j l ∙ sym (tally_none (here t (every t) j) t.cols (λ k g q. omega (arith, every_node t k (here_alive t (every t) j k q))));
      }

  pub partial_all : {m : List ℕ} → Partial t t.nodes m → Consistent t (every t) (is_below t.nodes) m
  partial_all {m} p =
      record {
        fields = p.fields;
        rings = p.rings;
        node = λ x h. every_node t x h;
        whole = λ x y h a b.
            let n = every_node t x h in
            in_every t y (omega (arith, law.low x n.0 n.1)) (omega (arith, law.high x n.0 n.1));
        there = λ x h. in_below t.nodes x (every_node t x h).1;
        count = p.count;
      }

pub link_last_still : {m : List ℕ} {x : ℕ} → Joinable m x → (k : ℕ) → Still k → get_or (link_last m x) k 0 ≡ get_or m k 0
unfolding link_last
link_last_still {m} {x} j k h =
    inc_other (inserted m x (column_of m x) (up m (column_of m x))) (column_of m x) k (h.size (column_of m x) j.column)
    ∙ inserted_beside m x (column_of m x) (up m (column_of m x)) j.small j.column j.last k h.up h.down
