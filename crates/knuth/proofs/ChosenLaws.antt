-- A row that is chosen is none of those chosen before, takes a copy of its kind, and leaves no row possible that shares a cell with a chosen one. Assumes
-- nothing.
use Prim.Native.Nat.{ℕ, ◌+◌, ◌-◌, ◌≤◌, ◌<◌}
use mathlib.Core.Bool.{Bool, true, false, cond}
use mathlib.Core.List.Memᴰ
use mathlib.Core.List.{List, [], ◌∷◌, ◌++◌, Memᴰ}
use mathlib.Core.Path.{◌≡◌, refl, sym, ap, ◌∙◌, subst}
use mathlib.Core.Logic.{⊎_elim}
use native.Mathlib.Omega.{arith}
use lib.Dec.{eqb}
use lib.ListN.{length, get_or, length-append}
use borrow.Author.Tests.{eq-eqb, ne_eqb}
use Rattle.lists.specs.Lists.{cons_if, keep}
use Rattle.lists.proofs.TestLaws.{by_eq, both_left, both_right}
use Rattle.lists.proofs.ListLaws.{apart_end}
use Rattle.rows.specs.Systems.{System}
use Rattle.rows.specs.Lawful.{Lawful}
use Rattle.kept.specs.Normal.{row_of, of_kind}
use Rattle.links.specs.Links.{row_number, Matrix}
use Rattle.links.specs.Cover.{Reduced, reduced_to}
use Rattle.links.specs.Search.{Seek, apart, first_covered, select, spend}
use Rattle.links.proofs.Search.{apart_on, sel_alive}
use Rattle.knuth.specs.Matrix.{columns, matrix_of}
use Rattle.knuth.specs.Listing.{Chosen}
use Rattle.knuth.proofs.MatrixLaws.{RowNode, matrix_rows, cols_are, row_lawful, cell-of}

-- ---- lists
keep_end : (p : ℕ → Bool) (xs : List ℕ) (x : ℕ) (b : Bool) → p x ≡ b → length (keep p (xs ++ (x ∷ []))) ≡ length (keep p xs) + cond b 1 0
keep_end p [] x b e = go (p x) b e
  where
    go : (a b : Bool) → a ≡ b → length (cons_if a x []) ≡ 0 + cond b 1 0
    go a true e = rw e
    go a false e = rw e
keep_end p (y ∷ xs) x b e = go (p y) (keep_end p xs x b e)
  where
    go : (a : Bool) → length (keep p (xs ++ (x ∷ []))) ≡ length (keep p xs) + cond b 1 0
        → length (cons_if a y (keep p (xs ++ (x ∷ [])))) ≡ length (cons_if a y (keep p xs)) + cond b 1 0
    go true f = omega arith
    go false f = f

-- one more row of its kind
pub kind_more : (s : System) (j r : ℕ) (rs : List ℕ) → (row_of s r).kind ≡ j → length (of_kind s j (rs ++ (r ∷ []))) ≡ length (of_kind s j rs) + 1
unfolding of_kind
kind_more s j r rs e = keep_end (λ r. eqb (row_of s r).kind j) rs r true (eq-eqb (row_of s r).kind j e)

kind_same : (s : System) (j r : ℕ) (rs : List ℕ) → ((row_of s r).kind ≡ j → ⊥) → length (of_kind s j (rs ++ (r ∷ []))) ≡ length (of_kind s j rs)
unfolding of_kind
kind_same s j r rs d = let e = keep_end (λ r. eqb (row_of s r).kind j) rs r false (ne_eqb (row_of s r).kind j d) in omega arith

-- ---- copies
pub spend_kind : (t : Matrix) (copies : ℕ → ℕ) (k j : ℕ) → j ≡ t.col (t.lo k) → spend t copies k j ≡ copies j - 1
unfolding spend
spend_kind t copies k j e = rw (eq-eqb j (t.col (t.lo k)) e)

pub spend_other : (t : Matrix) (copies : ℕ → ℕ) (k j : ℕ) → (j ≡ t.col (t.lo k) → ⊥) → spend t copies k j ≡ copies j
unfolding spend
spend_other t copies k j d = rw (ne_eqb j (t.col (t.lo k)) d)

start-by : (t : Matrix) (copies : ℕ → ℕ) (k : ℕ) → first_covered t copies k ≤ t.lo k + 1
unfolding first_covered
start-by t copies k = go (eqb (copies (t.col (t.lo k))) 1)
  where
    go : (b : Bool) → cond b (t.lo k) (t.lo k + 1) ≤ t.lo k + 1
    go true = omega arith
    go false = omega arith

-- what is possible after a row is chosen was so before, and shares no column that the row uses up
pub was_live : (t : Matrix) (alive : ℕ → Bool) (copies : ℕ → ℕ) (k x : ℕ) → select t alive copies k x ≡ true → alive x ≡ true
unfolding select
was_live t alive copies k x h = both_left (alive x) (apart t x (first_covered t copies k) (t.hi k - first_covered t copies k)) h

is_apart : (t : Matrix) (alive : ℕ → Bool) (copies : ℕ → ℕ) (k x : ℕ) → select t alive copies k x ≡ true → apart t x (first_covered t copies k) (t.hi k - first_covered t copies k) ≡ true
unfolding select
is_apart t alive copies k x h = both_right (alive x) (apart t x (first_covered t copies k) (t.hi k - first_covered t copies k)) h

-- so it is of another row
pub other_row : (t : Matrix) (alive : ℕ → Bool) (copies : ℕ → ℕ) (k x : ℕ) → t.lo k + 2 ≤ t.hi k → t.lo x ≡ t.lo k → t.hi x ≡ t.hi k → select t alive copies k x ≡ true → ⊥
other_row t alive copies k x size e f h =
    let a = start-by t copies k in
    apart_on t x (first_covered t copies k) (t.hi k - first_covered t copies k) (is_apart t alive copies k x h) (t.lo k + 1) (t.lo k + 1) a (omega arith) (omega arith) (omega arith) refl

-- and it shares no cell with the row that is chosen
module _ (s : System) (law : Lawful s) (alive : ℕ → Bool) (copies : ℕ → ℕ) (k x : ℕ) (a : columns s ≤ k) (b : k < (matrix_of s).nodes) (c : columns s ≤ x) (d : x < (matrix_of s).nodes) where
  pub select_clear : select (matrix_of s) alive copies k x ≡ true → (n : ℕ) → Memᴰ n (row_of s ((matrix_of s).row k)).cells → Memᴰ n (row_of s ((matrix_of s).row x)).cells → ⊥
  select_clear h n i j =
      let y = cell-of s law k a b i in
      let z = cell-of s law x c d j in
      let first = start-by (matrix_of s) copies k in
      let u = y.1 in
      let v = y.2 in
      let o = z.1 in
      apart_on (matrix_of s) x (first_covered (matrix_of s) copies k) ((matrix_of s).hi k - first_covered (matrix_of s) copies k) (is_apart (matrix_of s) alive copies k x h) y.0 z.0
      (omega arith) (omega arith) (omega arith) z.2 (z.3 ∙ sym y.3)

-- the row's number in memory
pub row-number : (s : System) {w : Reduced} {uncovered : ℕ → Bool} {copies : ℕ → ℕ} {cells left : ℕ} {m : List ℕ} → Seek w uncovered copies cells left m
    → w.t ≡ matrix_of s → (k : ℕ) → w.alive k ≡ true → row_number m k ≡ (matrix_of s).row k
row-number s seek e k live = seek.holds.fields.row k (seek.holds.node k live).1 ∙ ap (λ (t : Matrix). t.row k) e

-- a node of a possible row
module _ (s : System) {w : Reduced} {uncovered : ℕ → Bool} {copies : ℕ → ℕ} {left : ℕ} {m : List ℕ} (seek : Seek w uncovered copies s.size left m)
    (is_matrix : w.t ≡ matrix_of s) (x : ℕ) (live : w.alive x ≡ true) where
  pub node_in : (columns s ≤ x) × (x < (matrix_of s).nodes)
  node_in =
      let n = seek.holds.node x live in
      let e : w.t.cols ≡ columns s = ap (λ (t : Matrix). t.cols) is_matrix ∙ cols_are s in
      let f : w.t.nodes ≡ (matrix_of s).nodes = ap (λ (t : Matrix). t.nodes) is_matrix in
      (omega arith, omega arith)

  pub row_node : RowNode s x
  row_node = let n = node_in in matrix_rows s x n.0 n.1

  pub kind_column : w.t.col (w.t.lo x) ≡ s.size + (row_of s ((matrix_of s).row x)).kind
  kind_column = ap (λ (t : Matrix). t.col (t.lo x)) is_matrix ∙ row_node.kind

module _ (s : System) {w : Reduced} {uncovered : ℕ → Bool} {copies : ℕ → ℕ} {left : ℕ} {m : List ℕ} (seek : Seek w uncovered copies s.size left m) {rs : List ℕ}
    (h : Chosen s w copies left rs) where
  module _ {k : ℕ} (live : w.alive k ≡ true) where
    abbrev r : ℕ
    r = (matrix_of s).row k

    pub row_small : r < length s.rows
    row_small = (row_node s seek h.is_matrix k live).is_row

    taken_next : (j : ℕ) → j < length s.copies → spend w.t copies k (s.size + j) + length (of_kind s j (rs ++ (r ∷ []))) ≡ get_or s.copies j 0
    taken_next j l =
        let old = h.taken j l in
        let c = kind_column s seek h.is_matrix k live in
        by_eq (row_of s r).kind j
        (λ e.
        let f : s.size + j ≡ w.t.col (w.t.lo k) = omega arith in
        let a = spend_kind w.t copies k (s.size + j) f in
        let b = kind_more s j r rs e in
        let some : 1 ≤ copies (s.size + j) = subst (λ (i : ℕ). 1 ≤ copies i) (sym f) (seek.stock k live) in
        omega arith)
        (λ d.
        let a = spend_other w.t copies k (s.size + j) (λ f. d (omega arith)) in
        let b = kind_same s j r rs d in
        omega arith)

    module _ (law : Lawful s) where
      clear_next : (x : ℕ) → select w.t w.alive copies k x ≡ true → (i : ℕ) → Memᴰ i (rs ++ (r ∷ [])) → (n : ℕ) → Memᴰ n (row_of s i).cells
          → Memᴰ n (row_of s ((matrix_of s).row x)).cells → ⊥
      clear_next x q i j n on on' =
          ⊎_elim (λ (o : Memᴰ i rs). h.clear x was i o n on on')
          (λ (o : Memᴰ i (r ∷ [])).
          let a = node_in s seek h.is_matrix k live in
          let b = node_in s seek h.is_matrix x was in
          select_clear s law w.alive copies k x a.0 a.1 b.0 b.1 (subst (λ (t : Matrix). select t w.alive copies k x ≡ true) h.is_matrix q) n
          (subst (λ (e : ℕ). Memᴰ n (row_of s e).cells) (Memᴰ.eq_of_singleton o) on) on')
          (Memᴰ.append_cases rs j)
        where
          was : w.alive x ≡ true
          was = was_live w.t w.alive copies k x q

      -- a row that is possible has a cell, so that it is none of the chosen ones
      fresh : Memᴰ r rs → ⊥
      fresh m = let n = node_in s seek h.is_matrix k live in let p = (row_lawful s law k n.0 n.1).covers_p in h.clear k live r m (row_of s r).p p p

      -- the rows chosen with the row of k, which covers n cells
      pub chosen_next : (n : ℕ) → (n ≤ left) × (left - n < left)
          → Chosen s (reduced_to w (first_covered w.t copies k) (w.t.hi k - first_covered w.t copies k)) (spend w.t copies k) (left - n) (rs ++ (r ∷ []))
      chosen_next n less =
          record {
            is_matrix = h.is_matrix;
            apart = apart_end rs r h.apart fresh;
            taken = taken_next;
            clear = λ x l. clear_next x (ap (λ (f : ℕ → Bool). f x) (sym (sel_alive seek k live)) ∙ l);
            room = (let a = h.room in let b = length-append rs (r ∷ []) in omega arith);
          }

    -- and there is a place in the path
    pub room_next : (n : ℕ) → (n ≤ left) × (left - n < left) → length rs + 1 ≤ s.size
    room_next n less = let a = h.room in omega arith
