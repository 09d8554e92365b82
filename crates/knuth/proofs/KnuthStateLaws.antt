-- The live rows of a matrix stand for the rows that are still possible at a state, and stay so once a row is chosen. Assumes nothing.
use Prim.Native.Nat.{ℕ, zero, suc, ◌+◌, ◌-◌, ◌≤◌, ◌<◌}
use mathlib.Core.Bool.{Bool, true, false, not, false≢true, cond}
use mathlib.Core.List.Memᴰ
use mathlib.Core.List.{Memᴰ}
use mathlib.Core.Path.{◌≡◌, refl, sym, ap, ◌∙◌, subst}
use native.Mathlib.Omega.{arith}
use lib.Dec.{T, ltb, leb, eqb, ltb→lt, lt→ltb, leb→le, le→leb}
use lib.ListN.{length, get_or}
use lib.Seq.{get_or-set_same, get_or-set_other}
use Rattle.lists.specs.Lists.{all, keep, member, ascending}
use Rattle.lists.proofs.TestLaws.{both, both_right, both_left, cond_other, cond_same, by_eq, and_left, and_right, and_both, ltb_trans, ltb_irrefl, clash, is_true, holds}
use Rattle.lists.proofs.ListLaws.{split_length, all_at, all_of, keep_at, keep_of, get_or_pos}
use Rattle.lists.proofs.SortLaws.{keep_ascending, ascending_unique}
use Rattle.lists.proofs.RangeLaws.{below_at, below_of, from_ascending, length_below, member_at, member_of}
use Rattle.definitions.specs.Placements.{Placement}
use Rattle.definitions.specs.Orders.{State, possible, choose}
use Rattle.rows.specs.Systems.{System}
use Rattle.rows.specs.Lawful.{Lawful, LawfulRow}
use Rattle.kept.specs.Normal.{row_of}
use Rattle.kept.specs.Entries.{start_by}
use Rattle.links.specs.Links.{Matrix}
use Rattle.links.specs.Search.{free, apart, first_covered, select, spend}
use Rattle.links.specs.Build.{every}
use Rattle.knuth.specs.Matrix.{columns, matrix_of}
use Rattle.knuth.proofs.MatrixLaws.{RowNode, matrix_rows, cols_are, row_lawful, cell_in, cell-of, cell_small}

-- ---- rows that share no column
module _ (t : Matrix) where
  free_on : (j a n : ℕ) → free t j a n ≡ true → (y : ℕ) → a ≤ y → y < a + n → t.col y ≡ j → ⊥
  unfolding free
  free_on j a zero h y l g e = omega arith
  free_on j a (suc n) h y l g e =
      let off : t.col (a + n) ≡ j → ⊥ = λ q. false≢true (sym (cond_same (t.col (a + n)) j false (free t j a n) q) ∙ h) in
      let rest : y < a + n → ⊥ = λ k. free_on j a n (sym (cond_other (t.col (a + n)) j false (free t j a n) off) ∙ h) y l k e in
      by_eq y (a + n) (λ q. off (ap t.col (sym q) ∙ e)) (λ q. rest (omega arith))

  in_free : (j a n : ℕ) → ((y : ℕ) → a ≤ y → y < a + n → t.col y ≡ j → ⊥) → free t j a n ≡ true
  unfolding free
  in_free j a zero h = refl
  in_free j a (suc n) h = cond_other (t.col (a + n)) j false (free t j a n) (h (a + n) (omega arith) (omega arith)) ∙ in_free j a n (λ y l g. h y l (omega arith))

  apart_on : (k a n : ℕ) → apart t k a n ≡ true → (y z : ℕ) → a ≤ y → y < a + n → t.lo k ≤ z → z < t.hi k → t.col z ≡ t.col y → ⊥
  unfolding apart
  apart_on k a zero h y z l g i j e = omega arith
  apart_on k a (suc n) h y z l g i j e =
      let f = free t (t.col (a + n)) (t.lo k) (t.hi k - t.lo k) in
      let both-f : cond f (apart t k a n) false ≡ true = h in
      let rest : y < a + n → ⊥ = λ q. apart_on k a n (both_right f (apart t k a n) both-f) y z l q i j e in
      by_eq y (a + n)
      (λ q. free_on (t.col (a + n)) (t.lo k) (t.hi k - t.lo k) (both_left f (apart t k a n) both-f) z i (omega arith) (e ∙ ap t.col q))
      (λ q. rest (omega arith))

  in_apart : (k a n : ℕ) → ((y z : ℕ) → a ≤ y → y < a + n → t.lo k ≤ z → z < t.hi k → t.col z ≡ t.col y → ⊥) → apart t k a n ≡ true
  unfolding apart
  in_apart k a zero h = refl
  in_apart k a (suc n) h =
      both (free t (t.col (a + n)) (t.lo k) (t.hi k - t.lo k)) (apart t k a n)
      (in_free (t.col (a + n)) (t.lo k) (t.hi k - t.lo k) (λ z i j. h (a + n) z (omega arith) (omega arith) i (omega arith)))
      (in_apart k a n (λ y z l g. h y z l (omega arith)))

  -- the first node whose column is used up
  start_last : (copies : ℕ → ℕ) (x : ℕ) → copies (t.col (t.lo x)) ≡ 1 → first_covered t copies x ≡ t.lo x
  unfolding first_covered
  start_last copies x e = cond_same (copies (t.col (t.lo x))) 1 (t.lo x) (t.lo x + 1) e

  start_more : (copies : ℕ → ℕ) (x : ℕ) → (copies (t.col (t.lo x)) ≡ 1 → ⊥) → first_covered t copies x ≡ t.lo x + 1
  unfolding first_covered
  start_more copies x d = cond_other (copies (t.col (t.lo x))) 1 (t.lo x) (t.lo x + 1) d

  start_first : (copies : ℕ → ℕ) (x : ℕ) → (t.lo x ≤ first_covered t copies x) × (first_covered t copies x ≤ t.lo x + 1)
  start_first copies x =
      by_eq (copies (t.col (t.lo x))) 1 (λ e. let z = start_last copies x e in (omega arith, omega arith)) (λ d. let z = start_more copies x d in (omega arith, omega arith))

-- ---- what is possible at a state
module _ (t : State) (q : Placement) where
  pub can_left : T (possible t q) → 0 < get_or t.left q.kind 0
  unfolding possible
  can_left h = ltb→lt 0 (get_or t.left q.kind 0) (and_left (ltb 0 (get_or t.left q.kind 0)) (all (λ n. member n t.free) q.cells) h)

  pub can_free : T (possible t q) → {n : ℕ} → Memᴰ n q.cells → Memᴰ n t.free
  unfolding possible
  can_free h {n} k =
      member_at n t.free (all_at (λ (i : ℕ). member i t.free) q.cells (and_right (ltb 0 (get_or t.left q.kind 0)) (all (λ n. member n t.free) q.cells) h) k)

  pub can-be : 0 < get_or t.left q.kind 0 → ((n : ℕ) → Memᴰ n q.cells → Memᴰ n t.free) → T (possible t q)
  unfolding possible
  can-be h f =
      and_both (ltb 0 (get_or t.left q.kind 0)) (all (λ n. member n t.free) q.cells) (lt→ltb 0 (get_or t.left q.kind 0) h)
      (all_of (λ n. member n t.free) q.cells (λ n m. member_of t.free (f n m)))

  left_same : 0 < get_or t.left q.kind 0 → get_or (choose t q).left q.kind 0 ≡ get_or t.left q.kind 0 - 1
  unfolding choose
  left_same h = get_or-set_same t.left q.kind (get_or t.left q.kind 0 - 1) 0 (get_or_pos t.left q.kind h)

  left_other : (k : ℕ) → (k ≡ q.kind → ⊥) → get_or (choose t q).left k 0 ≡ get_or t.left k 0
  unfolding choose
  left_other k d = get_or-set_other t.left q.kind k (get_or t.left q.kind 0 - 1) 0 d

  left_less : 0 < get_or t.left q.kind 0 → (k : ℕ) → get_or (choose t q).left k 0 ≤ get_or t.left k 0
  left_less h k =
      by_eq k q.kind (λ e. subst (λ (i : ℕ). get_or (choose t q).left i 0 ≤ get_or t.left i 0) (sym e) (let z = left_same h in omega arith)) (λ d. let z = left_other k d in omega arith)

  free_was : {n : ℕ} → Memᴰ n (choose t q).free → Memᴰ n t.free × (Memᴰ n q.cells → ⊥)
  unfolding choose
  free_was {n} m =
      let r = keep_at (λ (i : ℕ). not (member i q.cells)) t.free m in
      (r.0, λ k. clash (member n q.cells) (member_of q.cells k) r.1)

  free_stays : {n : ℕ} → Memᴰ n t.free → (Memᴰ n q.cells → ⊥) → Memᴰ n (choose t q).free
  unfolding choose
  free_stays {n} m f = keep_of (λ (i : ℕ). not (member i q.cells)) t.free m (lib.Dec.not_T (member n q.cells) (λ h. f (member_at n q.cells h)))

  choose_up : T (ascending ltb t.free) → T (ascending ltb (choose t q).free)
  unfolding choose
  choose_up h = keep_ascending ltb (λ (i : ℕ). not (member i q.cells)) t.free h

-- ---- a matrix with its live rows, and a state
pub record Represents (s : System) (alive : ℕ → Bool) (copies : ℕ → ℕ) (m : ℕ) (t : State) : Type 0 where
  pub node : (x : ℕ) → alive x ≡ true → (columns s ≤ x) × (x < (matrix_of s).nodes)
  pub can : (x : ℕ) → alive x ≡ true → T (possible t (row_of s ((matrix_of s).row x)))
  pub back : (x : ℕ) → columns s ≤ x → x < (matrix_of s).nodes → T (possible t (row_of s ((matrix_of s).row x))) → alive x ≡ true
  pub stock : (k : ℕ) → get_or t.left k 0 ≤ get_or s.copies k 0
  pub held : (k : ℕ) → k < length s.copies → copies (s.size + k) ≡ get_or t.left k 0
  pub rest : m ≡ length t.free
  pub up : T (ascending ltb t.free)
  pub on : (n : ℕ) → Memᴰ n t.free → n < s.size

-- at the start
every_at : (s : System) (x : ℕ) → every (matrix_of s) x ≡ true → (columns s ≤ x) × (x < (matrix_of s).nodes)
unfolding every
every_at s x h =
    let e = cols_are s in
    let a = leb→le (matrix_of s).cols x (holds (leb (matrix_of s).cols x) (both_left (leb (matrix_of s).cols x) (ltb x (matrix_of s).nodes) h)) in
    let b = ltb→lt x (matrix_of s).nodes (holds (ltb x (matrix_of s).nodes) (both_right (leb (matrix_of s).cols x) (ltb x (matrix_of s).nodes) h)) in
    (omega arith, omega arith)

every_of : (s : System) (x : ℕ) → columns s ≤ x → x < (matrix_of s).nodes → every (matrix_of s) x ≡ true
unfolding every
every_of s x a b =
    let e = cols_are s in
    both (leb (matrix_of s).cols x) (ltb x (matrix_of s).nodes) (is_true (leb (matrix_of s).cols x) (le→leb (matrix_of s).cols x (omega arith)))
    (is_true (ltb x (matrix_of s).nodes) (lt→ltb x (matrix_of s).nodes b))

module _ (s : System) (law : Lawful s) (copies : ℕ → ℕ) (held : (k : ℕ) → k < length s.copies → copies (s.size + k) ≡ get_or s.copies k 0) where
  pub starts : Represents s (every (matrix_of s)) copies s.size (start_by s)
  unfolding start_by
  starts =
      record {
        node = every_at s;
        can = λ x h. let a = every_at s x h in can-be (start_by s) (row_of s ((matrix_of s).row x)) (matrix_rows s x a.0 a.1).stocked
            (λ n m. below_of s.size ((row_lawful s law x a.0 a.1).on_board n m));
        back = λ x a b h. every_of s x a b;
        stock = λ k. omega arith;
        held = held;
        rest = sym (length_below s.size);
        up = from_ascending 0 s.size;
        on = λ n m. below_at s.size m;
      }

-- once the row of x is chosen
module _ (s : System) (law : Lawful s) (alive : ℕ → Bool) (copies : ℕ → ℕ) (m : ℕ) (t : State) (w : Represents s alive copies m t) (x : ℕ) (lx : alive x ≡ true) where
  abbrev T₀ : Matrix
  T₀ = matrix_of s

  abbrev q : Placement
  q = row_of s ((matrix_of s).row x)

  is_row : LawfulRow s q
  is_row = row_lawful s law x (w.node x lx).0 (w.node x lx).1

  node_x : RowNode s x
  node_x = matrix_rows s x (w.node x lx).0 (w.node x lx).1

  some_left : 0 < get_or t.left q.kind 0
  some_left = can_left t q (w.can x lx)

  held_x : copies (T₀.col (T₀.lo x)) ≡ get_or t.left q.kind 0
  held_x = ap copies node_x.kind ∙ w.held q.kind is_row.of_kind

  a_first : (T₀.lo x ≤ first_covered T₀ copies x) × (first_covered T₀ copies x ≤ T₀.lo x + 1)
  a_first = start_first T₀ copies x

  long : T₀.lo x + 1 ≤ T₀.hi x
  long = let z = node_x.size in omega arith

  module _ (k : ℕ) (a : columns s ≤ k) (b : k < T₀.nodes) where
    abbrev qk : Placement
    qk = row_of s ((matrix_of s).row k)

    node_k : RowNode s k
    node_k = matrix_rows s k a b

    -- nodes from `first_covered` on share no column with the row of k
    abbrev Off : Type 0
    Off = (y z : ℕ) → first_covered T₀ copies x ≤ y → y < T₀.hi x → T₀.lo k ≤ z → z < T₀.hi k → T₀.col z ≡ T₀.col y → ⊥

    off_can : alive k ≡ true → Off → T (possible (choose t q) qk)
    off_can lk off = can-be (choose t q) qk left_after (λ n i. free_stays t q (can_free t qk (w.can k lk) i) (λ j. not_shared n i j))
      where
        not_shared : (n : ℕ) → Memᴰ n qk.cells → Memᴰ n q.cells → ⊥
        not_shared n i j =
            let z = cell-of s law k a b i in
            let y = cell-of s law x (w.node x lx).0 (w.node x lx).1 j in
            let f = a_first in
            let g = y.1 in
            let h = z.1 in
            off y.0 z.0 (omega arith) y.2 (omega arith) z.2 (z.3 ∙ sym y.3)

        left_after : 0 < get_or (choose t q).left qk.kind 0
        left_after =
            by_eq qk.kind q.kind
            (λ e. by_eq (copies (T₀.col (T₀.lo x))) 1
            (λ f.
            let g = start_last T₀ copies x f in
            let h = long in
            let i = node_k.upto in
            let j = node_k.behind in
            absurd (off (T₀.lo x) (T₀.lo k) (omega arith) (omega arith) (omega arith) (omega arith) (node_k.kind ∙ ap (λ (n : ℕ). s.size + n) e ∙ sym node_x.kind)))
            (λ f. subst (λ (n : ℕ). 0 < get_or (choose t q).left n 0) (sym e) (let g = left_same t q some_left in let h = held_x in let i = some_left in omega arith)))
            (λ d. let g = left_other t q qk.kind d in let h = can_left t qk (w.can k lk) in omega arith)

    can_before : T (possible (choose t q) qk) → T (possible t qk)
    can_before h = can-be t qk (let g = left_less t q some_left qk.kind in let i = can_left (choose t q) qk h in omega arith) (λ n i. (free_was t q (can_free (choose t q) qk h i)).0)

    can_off : T (possible (choose t q) qk) → Off
    can_off h y z i j k₁ l e =
        by_eq y (T₀.lo x)
        (λ f. by_eq z (T₀.lo k) (λ g. kinds f g) (λ g. let u = cell_small s law k a b z (omega arith) l in let v = col_y f in omega arith))
        (λ f.
        let n = a_first in
        by_eq z (T₀.lo k)
        (λ g. let u = cell_small s law x (w.node x lx).0 (w.node x lx).1 y (omega arith) j in let v = col_z g in omega arith)
        (λ g. (free_was t q (can_free (choose t q) qk h (cell_in s law k a b z (omega arith) l))).1
        (Memᴰ.cast e (cell_in s law x (w.node x lx).0 (w.node x lx).1 y (omega arith) j))))
      where
        col_y : y ≡ T₀.lo x → T₀.col y ≡ s.size + q.kind
        col_y f = ap T₀.col f ∙ node_x.kind

        col_z : z ≡ T₀.lo k → T₀.col z ≡ s.size + qk.kind
        col_z g = ap T₀.col g ∙ node_k.kind

        last_copy : y ≡ T₀.lo x → copies (T₀.col (T₀.lo x)) ≡ 1
        last_copy f = by_eq (copies (T₀.col (T₀.lo x))) 1 (λ g. g) (λ g. absurd (let u = start_more T₀ copies x g in omega arith))

        kinds : y ≡ T₀.lo x → z ≡ T₀.lo k → ⊥
        kinds f g =
            let u = col_y f in
            let v = col_z g in
            let n : qk.kind ≡ q.kind = omega arith in
            let p = can_left (choose t q) qk h in
            let r : get_or (choose t q).left qk.kind 0 ≡ get_or (choose t q).left q.kind 0 = ap (λ (i : ℕ). get_or (choose t q).left i 0) n in
            let c = left_same t q some_left in
            let d = last_copy f in
            let i = held_x in
            omega arith

  select_is : (k : ℕ) → select T₀ alive copies x k ≡ cond (alive k) (apart T₀ k (first_covered T₀ copies x) (T₀.hi x - first_covered T₀ copies x)) false
  unfolding select
  select_is k = refl

  spend_is : (j : ℕ) → spend T₀ copies x j ≡ cond (eqb j (T₀.col (T₀.lo x))) (copies j - 1) (copies j)
  unfolding spend
  spend_is j = refl

  was_live : (k : ℕ) → select T₀ alive copies x k ≡ true → alive k ≡ true
  was_live k h = both_left (alive k) (apart T₀ k (first_covered T₀ copies x) (T₀.hi x - first_covered T₀ copies x)) (sym (select_is k) ∙ h)

  select_can : (k : ℕ) → select T₀ alive copies x k ≡ true → T (possible (choose t q) (row_of s ((matrix_of s).row k)))
  select_can k h =
      let l = was_live k h in
      let f = a_first in
      let g = long in
      off_can k (w.node k l).0 (w.node k l).1 l
      (λ y z i j. apart_on T₀ k (first_covered T₀ copies x) (T₀.hi x - first_covered T₀ copies x)
      (both_right (alive k) (apart T₀ k (first_covered T₀ copies x) (T₀.hi x - first_covered T₀ copies x)) (sym (select_is k) ∙ h)) y z i (omega arith))

  can_select : (k : ℕ) → columns s ≤ k → k < T₀.nodes → T (possible (choose t q) (row_of s ((matrix_of s).row k))) → select T₀ alive copies x k ≡ true
  can_select k a b h =
      let f = a_first in
      let g = long in
      select_is k
      ∙ both (alive k) (apart T₀ k (first_covered T₀ copies x) (T₀.hi x - first_covered T₀ copies x)) (w.back k a b (can_before k a b h))
      (in_apart T₀ k (first_covered T₀ copies x) (T₀.hi x - first_covered T₀ copies x) (λ y z i j. can_off k a b h y z i (omega arith)))

  held_after : (k : ℕ) → k < length s.copies → spend T₀ copies x (s.size + k) ≡ get_or (choose t q).left k 0
  held_after k h =
      by_eq k q.kind
      (λ e.
      let f : s.size + k ≡ T₀.col (T₀.lo x) = ap (λ (n : ℕ). s.size + n) e ∙ sym node_x.kind in
      let g = w.held k h in
      spend_is (s.size + k) ∙ cond_same (s.size + k) (T₀.col (T₀.lo x)) (copies (s.size + k) - 1) (copies (s.size + k)) f
      ∙ ap (λ (n : ℕ). n - 1) (g ∙ ap (λ (n : ℕ). get_or t.left n 0) e) ∙ sym (left_same t q some_left) ∙ ap (λ (n : ℕ). get_or (choose t q).left n 0) (sym e))
      (λ d.
      let f : s.size + k ≡ T₀.col (T₀.lo x) → ⊥ = λ e. let g = node_x.kind in d (omega arith) in
      spend_is (s.size + k) ∙ cond_other (s.size + k) (T₀.col (T₀.lo x)) (copies (s.size + k) - 1) (copies (s.size + k)) f ∙ w.held k h ∙ sym (left_other t q k d))

  -- as many cells less as the row has
  pub cells_less : length (choose t q).free + length q.cells ≡ length t.free
  unfolding choose
  cells_less =
      let e : keep (λ n. member n q.cells) t.free ≡ q.cells = ascending_unique ltb ltb_trans ltb_irrefl (keep (λ n. member n q.cells) t.free) q.cells
      (keep_ascending ltb (λ n. member n q.cells) t.free w.up) is_row.ascend
      (λ n i. member_at n q.cells (keep_at (λ n. member n q.cells) t.free i).1)
      (λ n i. keep_of (λ n. member n q.cells) t.free (can_free t q (w.can x lx) i) (member_of q.cells i)) in
      let f = split_length (λ n. member n q.cells) t.free in
      let g : length (keep (λ n. member n q.cells) t.free) ≡ length q.cells = ap length e in
      omega arith

  pub chosen : Represents s (select T₀ alive copies x) (spend T₀ copies x) (m - (T₀.hi x - T₀.lo x - 1)) (choose t q)
  chosen =
      record {
        node = λ k h. w.node k (was_live k h);
        can = select_can;
        back = can_select;
        stock = λ k. let a = left_less t q some_left k in let b = w.stock k in omega arith;
        held = held_after;
        rest = (let a = cells_less in let b = w.rest in let c = node_x.size in omega arith);
        up = free_up;
        on = λ n i. w.on n (free_was t q i).0;
      }
    where
      free_up : T (ascending ltb (choose t q).free)
      free_up = choose_up t q w.up
