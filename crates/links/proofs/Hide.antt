-- Hiding a row takes its nodes out of every ring but one, and showing it puts them back, the last one first. Assumes nothing.
use Prim.Native.Nat.{ℕ, zero, suc, ◌+◌, ◌-◌, ◌≤◌, ◌<◌}
use native.Mathlib.Omega.{arith}
use mathlib.Core.Path.{◌≡◌, refl, sym, ap, ◌∙◌, subst}
use mathlib.Core.List.{List}
use mathlib.Core.Bool.{Bool, true, false, false≢true, cond}
use lib.ListN.{length, get_or, set, length-set}
use lib.Seq.{get_or-set_same, get_or-set_other, set-set, set-get_or}
use lib.Dec.{eqb}
use borrow.Author.Tests.{eqb-true, eq-eqb}
use Rattle.lists.proofs.TestLaws.{by_eq, cond_same, cond_other, both, both_left, both_right, at_cond, by_find, not_true, true_together}
use Rattle.links.specs.Links.{up, down, size_of, at_up, at_down, at_size, Still, unlink, relink, Matrix, LawfulMatrix, Fields, Rings, without}
use Rattle.links.specs.Cover.{tally, dec, inc, hide1, show1, hide_to, hide, active1, active_to, here, less_row, Consistent}
use Rattle.links.proofs.Tally.{tally_same, tally_less, tally_some}
use Rattle.links.proofs.Places.{fields_agree}
use Rattle.links.proofs.Rings.{unlink_back, unlink_fields, unlink_rings, unlink_still, rings_agree, unlink_other, without_active, without_ne, down_size, up_size, down_ne, up_ne, without_other}

-- ---- counts

pub dec_length : (m : List ℕ) (j : ℕ) → length (dec m j) ≡ length m
unfolding dec
dec_length m j = length-set m (at_size j) (size_of m j - 1)

pub dec_other : (m : List ℕ) (j i : ℕ) → (i ≡ at_size j → ⊥) → get_or (dec m j) i 0 ≡ get_or m i 0
unfolding dec
dec_other m j i h = get_or-set_other m (at_size j) i (size_of m j - 1) 0 h

pub dec_same : (m : List ℕ) (j : ℕ) → at_size j < length m → size_of (dec m j) j ≡ size_of m j - 1
unfolding dec
dec_same m j h = get_or-set_same m (at_size j) (size_of m j - 1) 0 h

set_dec : (m : List ℕ) (j : ℕ) → set (dec m j) (at_size j) (size_of m j) ≡ m
unfolding dec
set_dec m j = set-set m (at_size j) (size_of m j - 1) (size_of m j) ∙ set-get_or m (at_size j) 0

pub inc_dec : (m : List ℕ) (j : ℕ) → at_size j < length m → 1 ≤ size_of m j → inc (dec m j) j ≡ m
unfolding inc
inc_dec m j h l = ap (λ (n : ℕ). set (dec m j) (at_size j) n) (omega (arith, dec_same m j h)) ∙ set_dec m j

pub dec_fields : {t : Matrix} {m : List ℕ} (j : ℕ) → j < 4096 → Fields t m → Fields t (dec m j)
dec_fields {t} {m} j l f = fields_agree f (dec m j) (dec_length m j) (λ i s. dec_other m j i (s.size j l))

-- ---- one node of a row

stays : (active : ℕ → Bool) (x y : ℕ) → y ≡ x → (k : ℕ) → active1 x active y k ≡ active k
unfolding active1
stays active x y e k = cond_same y x (active k) (without active y k) e

goes : (active : ℕ → Bool) (x y : ℕ) → (y ≡ x → ⊥) → (k : ℕ) → active1 x active y k ≡ without active y k
unfolding active1
goes active x y d k = cond_other y x (active k) (without active y k) d

module _ {t : Matrix} (law : LawfulMatrix t) {active : ℕ → Bool} {m : List ℕ} (f : Fields t m) (r : Rings t active m)
    (x y : ℕ) (ny : t.cols ≤ y) (ly : y < t.nodes) (ay : active y ≡ true) where
  mid : List ℕ
  mid = cond (eqb y x) m (unlink m y)

  mid_fields : Fields t mid
  unfolding mid
  mid_fields = at_cond (λ (l : List ℕ). Fields t l) y x m (unlink m y) (λ e. f) (λ d. unlink_fields law f r y ay ny)

  mid_rings : Rings t (active1 x active y) mid
  unfolding mid
  mid_rings =
      at_cond (λ (l : List ℕ). Rings t (active1 x active y) l) y x m (unlink m y)
      (λ e. rings_agree m r (λ k. stays active x y e k) (λ k. refl) (λ k. refl))
      (λ d. rings_agree (unlink m y) (unlink_rings law f r y ay ny) (λ k. goes active x y d k) (λ k. refl) (λ k. refl))

  mid_size : (j : ℕ) → size_of mid j ≡ size_of m j
  unfolding mid
  mid_size j =
      at_cond (λ (l : List ℕ). size_of l j ≡ size_of m j) y x m (unlink m y) (λ e. refl)
      (λ d. unlink_other m y (at_size j) (omega (arith, up_size law f r y ay ny)) (omega (arith, down_size law f r y ay ny)))

  mid_still : (i : ℕ) → Still i → get_or mid i 0 ≡ get_or m i 0
  unfolding mid
  mid_still i h =
      at_cond (λ (l : List ℕ). get_or l i 0 ≡ get_or m i 0) y x m (unlink m y) (λ e. refl)
      (λ d. unlink_still law f r y ay ny i h)

  mid_long : 32768 ≤ length mid
  mid_long = mid_fields.long

  in_long : t.col y < 4096
  in_long = omega (arith, law.small, law.some, law.inside y ny ly)

  pub hide1_fields : Fields t (hide1 t x m y)
  unfolding hide1 mid
  hide1_fields = dec_fields (t.col y) in_long mid_fields

  pub hide1_rings : Rings t (active1 x active y) (hide1 t x m y)
  unfolding hide1 mid
  hide1_rings =
      rings_agree (dec mid (t.col y)) mid_rings (λ k. refl) (λ k. dec_other mid (t.col y) (at_up k) (omega arith)) (λ k. dec_other mid (t.col y) (at_down k) (omega arith))

  -- a node's own links stay as they are
  pub hide1_own : (up (hide1 t x m y) y ≡ up m y) × (down (hide1 t x m y) y ≡ down m y)
  unfolding hide1 mid
  hide1_own =
      let u = up_size law f r y ay ny in
      let d = down_size law f r y ay ny in
      let yl : y < 4096 = omega (arith, law.small) in (
        dec_other mid (t.col y) (at_up y) (omega arith)
            ∙ at_cond (λ (l : List ℕ). up l y ≡ up m y) y x m (unlink m y) (λ e. refl)
            (λ e. unlink_other m y (at_up y) (omega arith) (λ q. down_ne law f r y ay ny (omega arith))),
        dec_other mid (t.col y) (at_down y) (omega arith)
            ∙ at_cond (λ (l : List ℕ). down l y ≡ down m y) y x m (unlink m y) (λ e. refl)
            (λ e. unlink_other m y (at_down y) (λ q. up_ne law f r y ay ny (omega arith)) (omega arith)),
      )

  hide1_size : size_of (hide1 t x m y) (t.col y) ≡ size_of m (t.col y) - 1
  unfolding hide1 mid
  hide1_size = omega (arith, dec_same mid (t.col y) (omega (arith, mid_long, in_long)), mid_size (t.col y))

  -- what is no neighbour and no count stays as it is
  pub hide1_still : (i : ℕ) → Still i → get_or (hide1 t x m y) i 0 ≡ get_or m i 0
  unfolding hide1 mid
  hide1_still i h = dec_other mid (t.col y) i (h.size (t.col y) in_long) ∙ mid_still i h

  pub hide1_size_other : (j : ℕ) → (j ≡ t.col y → ⊥) → size_of (hide1 t x m y) j ≡ size_of m j
  unfolding hide1 mid
  hide1_size_other j d = dec_other mid (t.col y) (at_size j) (λ e. d (omega arith)) ∙ mid_size j

  pub show1_hide1 : 1 ≤ size_of m (t.col y) → show1 t x (hide1 t x m y) y ≡ m
  unfolding show1 hide1 mid
  show1_hide1 c =
      let e : inc (dec mid (t.col y)) (t.col y) ≡ mid = inc_dec mid (t.col y) (omega (arith, mid_long, in_long)) (omega (arith, mid_size (t.col y))) in
      ap (λ (l : List ℕ). cond (eqb y x) l (relink l y)) e
      ∙ at_cond (λ (l : List ℕ). cond (eqb y x) l (relink l y) ≡ m) y x m (unlink m y)
      (λ q. cond_same y x m (relink m y) q)
      (λ d. cond_other y x (unlink m y) (relink (unlink m y) y) d ∙ unlink_back law f r y ay ny)

active1_other : (active : ℕ → Bool) (x y k : ℕ) → (k ≡ y → ⊥) → active1 x active y k ≡ active k
active1_other active x y k d = by_eq y x (λ e. stays active x y e k) (λ e. goes active x y e k ∙ without_other active y k d)

active1_self : (active : ℕ → Bool) (x y : ℕ) → active1 x active y x ≡ active x
active1_self active x y = by_eq y x (λ e. stays active x y e x) (λ e. active1_other active x y x (λ q. e (sym q)))

active1_mono : (active : ℕ → Bool) (x y k : ℕ) → active1 x active y k ≡ true → active k ≡ true
active1_mono active x y k h = by_eq y x (λ e. sym (stays active x y e k) ∙ h) (λ e. without_active active y k (sym (goes active x y e k) ∙ h))

-- ---- the first n nodes of a row

pub record Part (t : Matrix) (active : ℕ → Bool) (m : List ℕ) (x n : ℕ) : Type 0 where
  pub fields : Fields t (hide_to t x m n)
  pub rings : Rings t (active_to t x active n) (hide_to t x m n)
  pub left : (y : ℕ) → t.lo x + n ≤ y → y < t.hi x → active_to t x active n y ≡ true
  pub kept : (j : ℕ) → ((y : ℕ) → t.lo x ≤ y → y < t.lo x + n → j ≡ t.col y → ⊥) → size_of (hide_to t x m n) j ≡ size_of m j
  pub less : (y : ℕ) → t.lo x ≤ y → y < t.lo x + n → size_of (hide_to t x m n) (t.col y) ≡ size_of m (t.col y) - 1
  pub far : (k : ℕ) → (t.lo x ≤ k → k < t.hi x → ⊥) → active_to t x active n k ≡ active k
  pub self : active_to t x active n x ≡ active x
  pub gone : (k : ℕ) → t.lo x ≤ k → k < t.lo x + n → (k ≡ x → ⊥) → active_to t x active n k ≡ false
  pub mono : (k : ℕ) → active_to t x active n k ≡ true → active k ≡ true
  pub still : (i : ℕ) → Still i → get_or (hide_to t x m n) i 0 ≡ get_or m i 0

-- two nodes of one row in one column are one
pub one_in_row : {t : Matrix} (law : LawfulMatrix t) (x y z : ℕ) → t.cols ≤ x → x < t.nodes → t.lo x ≤ y → y < t.hi x → t.lo x ≤ z → z < t.hi x → t.col y ≡ t.col z → y ≡ z
one_in_row law x y z nx lx ly hy lz hz e =
    let p = law.row x z nx lx lz hz in
    let q = law.low x nx lx in
    let q' = law.high x nx lx in
    law.once z y (omega arith) (omega arith) (omega arith) (omega arith) e

module _ {t : Matrix} (law : LawfulMatrix t) {alive active : ℕ → Bool} {m : List ℕ} (s : Consistent t alive active m) (x : ℕ) (lx : alive x ≡ true) where
  part_next : (n : ℕ) → t.lo x + suc n ≤ t.hi x → Part t active m x n → Part t active m x (suc n)
  unfolding hide_to active_to
  part_next n h p =
      let nx = s.node x lx in
      let q = law.low x nx.0 nx.1 in
      let q' = law.high x nx.0 nx.1 in
      let y : ℕ = t.lo x + n in
      let ny : t.cols ≤ y = omega arith in
      let ly : y < t.nodes = omega arith in
      let ay : active_to t x active n y ≡ true = p.left y (omega arith) (omega arith) in
      record {
        fields = hide1_fields law p.fields p.rings x y ny ly ay;
        rings = hide1_rings law p.fields p.rings x y ny ly ay;
        left = λ z a b. active1_other (active_to t x active n) x y z (omega arith) ∙ p.left z (omega arith) b;
        kept = λ j g. hide1_size_other law p.fields p.rings x y ny ly ay j (g y (omega arith) (omega arith)) ∙ p.kept j (λ z a b. g z a (omega arith));
        less = λ z a b. by_eq z y
            (λ e. subst (λ (i : ℕ). size_of (hide1 t x (hide_to t x m n) y) (t.col i) ≡ size_of m (t.col i) - 1) (sym e)
            (omega (
              arith,
              hide1_size law p.fields p.rings x y ny ly ay,
              p.kept (t.col y)
                  (λ i a' b' c. absurd (omega (arith, one_in_row law x y i nx.0 nx.1 (omega arith) (omega arith) a' (omega arith) c))),
            )))
            (λ d. hide1_size_other law p.fields p.rings x y ny ly ay (t.col z)
            (λ c. d (one_in_row law x z y nx.0 nx.1 a (omega arith) (omega arith) (omega arith) c)) ∙ p.less z a (omega arith));
        far = λ k g. active1_other (active_to t x active n) x y k (λ e. g (omega arith) (omega arith)) ∙ p.far k g;
        self = active1_self (active_to t x active n) x y ∙ p.self;
        gone = λ k a b d. by_eq k y
            (λ e. subst (λ (i : ℕ). active1 x (active_to t x active n) y i ≡ false) (sym e)
            (goes (active_to t x active n) x y (λ q. d (e ∙ q)) y
            ∙ not_true (without (active_to t x active n) y y) (λ h. without_ne (active_to t x active n) y y h refl)))
            (λ e. active1_other (active_to t x active n) x y k e ∙ p.gone k a (omega arith) d);
        mono = λ k h. p.mono k (active1_mono (active_to t x active n) x y k h);
        still = λ i g. hide1_still law p.fields p.rings x y ny ly ay i g ∙ p.still i g;
      }

  pub part : (n : ℕ) → t.lo x + n ≤ t.hi x → Part t active m x n
  unfolding hide_to active_to
  part zero h =
      record {
        fields = s.fields;
        rings = s.rings;
        left = λ y a b. s.there y (s.whole x y lx (omega arith) b);
        kept = λ j g. refl;
        less = λ y a b. absurd (omega arith);
        far = λ k g. refl;
        self = refl;
        gone = λ k a b d. absurd (omega arith);
        mono = λ k h. h;
        still = λ i g. refl;
      }
  part (suc n) h = part_next n h (part n (omega arith))

-- nodes with the same first node are of one row
pub same_row : {t : Matrix} (law : LawfulMatrix t) (x k : ℕ) → t.cols ≤ x → x < t.nodes → t.cols ≤ k → k < t.nodes → t.lo k ≡ t.lo x → (t.lo x ≤ k) × (k < t.hi x)
same_row {t} law x k nx lx nk lk e =
    let a = law.low x nx lx in
    let a' = law.high x nx lx in
    let b = law.low k nk lk in
    let b' = law.high k nk lk in
    let p = law.row x (t.lo x) nx lx (omega arith) (omega arith) in
    let q = law.row k (t.lo k) nk lk (omega arith) (omega arith) in
    let z : t.hi (t.lo k) ≡ t.hi (t.lo x) = ap t.hi e in
    omega arith

pub less_row_alive : (t : Matrix) (alive : ℕ → Bool) (x k : ℕ) → less_row t alive x k ≡ true → alive k ≡ true
unfolding less_row
less_row_alive t alive x k h = by_eq (t.lo k) (t.lo x)
    (λ e. absurd (false≢true (sym (cond_same (t.lo k) (t.lo x) false (alive k) e) ∙ h)))
    (λ d. sym (cond_other (t.lo k) (t.lo x) false (alive k) d) ∙ h)

pub less_row_row : (t : Matrix) (alive : ℕ → Bool) (x k : ℕ) → less_row t alive x k ≡ true → t.lo k ≡ t.lo x → ⊥
unfolding less_row
less_row_row t alive x k h e = false≢true (sym (cond_same (t.lo k) (t.lo x) false (alive k) e) ∙ h)

pub in_less_row : (t : Matrix) (alive : ℕ → Bool) (x k : ℕ) → alive k ≡ true → (t.lo k ≡ t.lo x → ⊥) → less_row t alive x k ≡ true
unfolding less_row
in_less_row t alive x k l d = cond_other (t.lo k) (t.lo x) false (alive k) d ∙ l

pub here_alive : (t : Matrix) (alive : ℕ → Bool) (j k : ℕ) → here t alive j k ≡ true → alive k ≡ true
unfolding here
here_alive t alive j k h = both_left (alive k) (eqb (t.col k) j) h

pub here_col : (t : Matrix) (alive : ℕ → Bool) (j k : ℕ) → here t alive j k ≡ true → t.col k ≡ j
unfolding here
here_col t alive j k h = eqb-true (t.col k) j (both_right (alive k) (eqb (t.col k) j) h)

pub in_here : (t : Matrix) (alive : ℕ → Bool) (j k : ℕ) → alive k ≡ true → t.col k ≡ j → here t alive j k ≡ true
unfolding here
in_here t alive j k l e = both (alive k) (eqb (t.col k) j) l (eq-eqb (t.col k) j e)

module _ {t : Matrix} (law : LawfulMatrix t) {alive active : ℕ → Bool} {m : List ℕ} (s : Consistent t alive active m) (x : ℕ) (lx : alive x ≡ true) where
  pub count_pos : (y : ℕ) → t.lo x ≤ y → y < t.hi x → 1 ≤ size_of m (t.col y)
  count_pos y a b =
      let ly = s.whole x y lx a b in
      let ny = s.node y ly in
      omega (arith, s.count (t.col y) (law.inside y ny.0 ny.1), tally_some (here t alive (t.col y)) y t.nodes ny.1 (in_here t alive (t.col y) y ly refl))

  -- showing the last hidden node again
  pub show_back : (n : ℕ) → t.lo x + suc n ≤ t.hi x → show1 t x (hide_to t x m (suc n)) (t.lo x + n) ≡ hide_to t x m n
  unfolding hide_to
  show_back n h =
      let nx = s.node x lx in
      let q = law.low x nx.0 nx.1 in
      let q' = law.high x nx.0 nx.1 in
      let y : ℕ = t.lo x + n in
      let p = part law s x lx n (omega arith) in
      let kept = p.kept (t.col y) (λ i a b c. absurd (omega (arith, one_in_row law x y i nx.0 nx.1 (omega arith) (omega arith) a (omega arith) c))) in
      show1_hide1 law p.fields p.rings x y (omega arith) (omega arith) (p.left y (omega arith) (omega arith))
      (omega (arith, count_pos y (omega arith) (omega arith)))

  whole_part : Part t active m x (t.hi x - t.lo x)
  whole_part =
      let nx = s.node x lx in
      let q = law.low x nx.0 nx.1 in
      let q' = law.high x nx.0 nx.1 in
      part law s x lx (t.hi x - t.lo x) (omega arith)

  hide_count : (j : ℕ) → j < t.cols → size_of (hide t x m) j ≡ tally (here t (less_row t alive x) j) t.nodes
  unfolding hide
  hide_count j jl =
      let nx = s.node x lx in
      let q = law.low x nx.0 nx.1 in
      let q' = law.high x nx.0 nx.1 in
      by_find (λ y. eqb (t.col y) j) (t.lo x) (t.hi x - t.lo x)
      (λ y a b e.
      let c : t.col y ≡ j = eqb-true (t.col y) j e in
      let ly = s.whole x y lx a (omega arith) in
      let less = tally_less (here t alive j) (here t (less_row t alive x) j) y t.nodes (s.node y ly).1 (in_here t alive j y ly c)
      (not_true (here t (less_row t alive x) j y) (λ h. less_row_row t alive x y (here_alive t (less_row t alive x) j y h) (law.row x y nx.0 nx.1 a (omega arith)).0))
      (λ k d. keeps j k (λ h e'.
      let nk = s.node k (here_alive t alive j k h) in
      let r = same_row law x k nx.0 nx.1 nk.0 nk.1 e' in
      d (one_in_row law x k y nx.0 nx.1 r.0 r.1 a (omega arith) (here_col t alive j k h ∙ sym c))))
      in
      subst (λ (i : ℕ). size_of (hide_to t x m (t.hi x - t.lo x)) i ≡ tally (here t (less_row t alive x) j) t.nodes) c
      (omega (arith, whole_part.less y a b, s.count j jl, ap (λ (i : ℕ). size_of m i) c)))
      (λ none.
      whole_part.kept j (λ y a b e. none y a b (eq-eqb (t.col y) j (sym e)))
      ∙ s.count j jl
      ∙ tally_same (here t alive j) (here t (less_row t alive x) j) t.nodes (λ k kl. keeps j k (λ h e'.
      let nk = s.node k (here_alive t alive j k h) in
      let r = same_row law x k nx.0 nx.1 nk.0 nk.1 e' in
      none k r.0 (omega arith) (eq-eqb (t.col k) j (here_col t alive j k h)))))
    where
      keeps : (j k : ℕ) → (here t alive j k ≡ true → t.lo k ≡ t.lo x → ⊥) → here t alive j k ≡ here t (less_row t alive x) j k
      keeps j k d =
          true_together (here t alive j k) (here t (less_row t alive x) j k)
          (λ h. in_here t (less_row t alive x) j k (in_less_row t alive x k (here_alive t alive j k h) (d h)) (here_col t alive j k h))
          (λ h. in_here t alive j k (less_row_alive t alive x k (here_alive t (less_row t alive x) j k h)) (here_col t (less_row t alive x) j k h))

  -- the row of x is hidden, and all else is as it was
  pub hide_holds : Consistent t (less_row t alive x) (active_to t x active (t.hi x - t.lo x)) (hide t x m)
  unfolding hide
  hide_holds =
      let nx = s.node x lx in
      let q = law.low x nx.0 nx.1 in
      let q' = law.high x nx.0 nx.1 in
      record {
        fields = whole_part.fields;
        rings = whole_part.rings;
        node = λ k h. s.node k (less_row_alive t alive x k h);
        whole = λ k y h a b.
            let lk = less_row_alive t alive x k h in
            let nk = s.node k lk in
            in_less_row t alive x y (s.whole k y lk a b) (λ e. less_row_row t alive x k h (sym (law.row k y nk.0 nk.1 a b).0 ∙ e));
        there = λ k h. whole_part.far k (λ a b. less_row_row t alive x k h (law.row x k nx.0 nx.1 a b).0) ∙ s.there k (less_row_alive t alive x k h);
        count = λ j h. hide_count j h;
      }

  pub hide_self : active_to t x active (t.hi x - t.lo x) x ≡ active x
  hide_self = whole_part.self

  pub hide_far : (k : ℕ) → (t.lo x ≤ k → k < t.hi x → ⊥) → active_to t x active (t.hi x - t.lo x) k ≡ active k
  hide_far k g = whole_part.far k g

  pub hide_gone : (k : ℕ) → t.lo x ≤ k → k < t.hi x → (k ≡ x → ⊥) → active_to t x active (t.hi x - t.lo x) k ≡ false
  hide_gone k a b d = whole_part.gone k a (omega arith) d

  pub hide_mono : (k : ℕ) → active_to t x active (t.hi x - t.lo x) k ≡ true → active k ≡ true
  hide_mono k h = whole_part.mono k h

  pub hide_still : (i : ℕ) → Still i → get_or (hide t x m) i 0 ≡ get_or m i 0
  unfolding hide
  hide_still i h = whole_part.still i h
