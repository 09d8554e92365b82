-- The list that a search over a system's links walks is the list of document 01's Knuth: at each step the live rows are the possible ones, the column that is
-- tried is the cell that is taken, and its rows come in the same order. Assumes nothing.
use Prim.Native.Nat.{ℕ, zero, suc, ◌+◌, ◌-◌, ◌≤◌, ◌<◌}
use mathlib.Core.Bool.{Bool, true, false, cond, ◌&&◌}
use mathlib.Core.List.Memᴰ
use mathlib.Core.List.{List, [], ◌∷◌, ◌++◌, map, Memᴰ, map-append, map-map}
use mathlib.Core.Path.{◌≡◌, refl, sym, ap, ◌∙◌, subst}
use mathlib.Core.Logic.{◌⊎◌, inl, inr}
use native.Mathlib.Omega.{arith}
use lib.Dec.{T, ltb, eqb, ltb→lt, lt→ltb}
use lib.ListN.{length, get_or, length-map, take}
use borrow.Author.Tests.{eqb-true, eq-eqb, ne_eqb}
use Rattle.lists.specs.Lists.{cons_if, how_many, keep, each, from, below, member, is_empty, sort}
use Rattle.lists.proofs.TestLaws.{and_left, and_right, and_both, ltb_trans, ltb_irrefl, is_true, holds, by_eq, both, both_left, both_right}
use Rattle.lists.proofs.ListLaws.{any_at, keep_at, keep_of, keep_keep, keep_length, how_many_any, keep_map, each_map, each_same_in}
use Rattle.lists.proofs.SortLaws.{keep_ascending, ascending_unique, map_ascending}
use Rattle.lists.proofs.RangeLaws.{by_number, below_at, below_of, from_ascending, member_at, member_of}
use Rattle.lists.proofs.CountLaws.{how_many_length}
use Rattle.links.proofs.Pivot.{pivot_same}
use Rattle.definitions.specs.Placements.{Placement}
use Rattle.definitions.specs.Orders.{State, possible, choose, search, knuth_choices, tallies, tally_ahead}
use Rattle.rows.specs.Systems.{System}
use Rattle.rows.specs.Lawful.{Lawful}
use Rattle.kept.specs.Normal.{no_row, row_of}
use Rattle.kept.specs.Entries.{put_all, start_by}
use Rattle.links.specs.Links.{Matrix}
use Rattle.links.specs.Cover.{bit, tally, here}
use Rattle.links.specs.Search.{select, spend, pivot}
use Rattle.links.specs.Packings.{list_from, rows_from, exact_covers}
use Rattle.links.specs.Build.{every}
use Rattle.knuth.specs.Matrix.{columns, matrix_of}
use Rattle.knuth.proofs.MatrixLaws.{RowNode, matrix_rows, row_later, node_of, in_stock, cell_in, cell-of, row_some, column_once}
use Rattle.knuth.proofs.KnuthPivotLaws.{Least, fewest_is, knuth_none, knuth_some}
use Rattle.knuth.proofs.KnuthStateLaws.{Represents, starts, chosen, can_left, can_free}

-- ---- counting and listing from below
keep_last : (p : ℕ → Bool) (i n : ℕ) → length (keep p (from i (suc n))) ≡ bit (p (i + n)) + length (keep p (from i n))
keep_last p i zero = go (p i) ∙ ap (λ (k : ℕ). bit (p k) + 0) (let e : i ≡ i + 0 = omega arith in e)
  where
    go : (b : Bool) → length (cons_if b i []) ≡ bit b + 0
    go true = refl
    go false = refl
keep_last p i (suc n) = go (p i) (keep_last p (suc i) n)
  where
    same : bit (p (suc i + n)) ≡ bit (p (i + suc n))
    same = ap (λ (k : ℕ). bit (p k)) (let e : suc i + n ≡ i + suc n = omega arith in e)

    go : (b : Bool) → length (keep p (from (suc i) (suc n))) ≡ bit (p (suc i + n)) + length (keep p (from (suc i) n))
        → length (cons_if b i (keep p (from (suc i) (suc n)))) ≡ bit (p (i + suc n)) + length (cons_if b i (keep p (from (suc i) n)))
    go true e = let z = same in omega arith
    go false e = let z = same in omega arith

tally_length : (p : ℕ → Bool) (n : ℕ) → tally p n ≡ length (keep p (below n))
unfolding tally
tally_length p zero = refl
tally_length p (suc n) =
    let a = keep_last p 0 n in
    let b = tally_length p n in
    let e : bit (p (0 + n)) ≡ bit (p n) = ap (λ (k : ℕ). bit (p k)) (let z : 0 + n ≡ n = omega arith in z) in
    omega arith

list_each : {B : Type 0} (h : List ℕ → B) (f : ℕ → List (List ℕ)) (p : ℕ → Bool) (n i : ℕ) → map h (list_from f p n i) ≡ each (keep p (from i n)) (λ k. map h (f k))
unfolding list_from
list_each h f p zero i = refl
list_each {B} h f p (suc n) i = map-append h (cond (p i) (f i) []) (list_from f p n (suc i)) ∙ go (p i) (list_each h f p n (suc i))
  where
    go : (b : Bool) → map h (list_from f p n (suc i)) ≡ each (keep p (from (suc i) n)) (λ k. map h (f k))
        → map h (cond b (f i) []) ++ map h (list_from f p n (suc i)) ≡ each (cons_if b i (keep p (from (suc i) n))) (λ k. map h (f k))
    go true e = ap (λ (l : List B). map h (f i) ++ l) e
    go false e = e

-- ---- the live nodes of a cell's column, and the possible rows that cover the cell
module _ (s : System) (law : Lawful s) (alive : ℕ → Bool) (copies : ℕ → ℕ) (m : ℕ) (t : State) (w : Represents s alive copies m t) where
  abbrev T₀ : Matrix
  T₀ = matrix_of s

  abbrev can : ℕ → ℕ → Bool
  can c r = possible t (row_of s r) && member c (row_of s r).cells

  here_at : (c k : ℕ) → here T₀ alive c k ≡ true → (alive k ≡ true) × (T₀.col k ≡ c)
  unfolding here
  here_at c k h = (both_left (alive k) (eqb (T₀.col k) c) h, eqb-true (T₀.col k) c (both_right (alive k) (eqb (T₀.col k) c) h))

  here_of : (c k : ℕ) → alive k ≡ true → T₀.col k ≡ c → here T₀ alive c k ≡ true
  unfolding here
  here_of c k h e = both (alive k) (eqb (T₀.col k) c) h (eq-eqb (T₀.col k) c e)

  module _ (c : ℕ) (small : c < s.size) where
    nodes : List ℕ
    nodes = keep (here T₀ alive c) (below T₀.nodes)

    numbers : List ℕ
    numbers = keep (can c) (below (length s.rows))

    node_at : {k : ℕ} → Memᴰ k nodes → (alive k ≡ true) × (T₀.col k ≡ c)
    unfolding nodes
    node_at {k} i = here_at c k (is_true (here T₀ alive c k) (keep_at (here T₀ alive c) (below T₀.nodes) i).1)

    rise : (a b : ℕ) → Memᴰ a nodes → Memᴰ b nodes → a < b → T₀.row a < T₀.row b
    rise a b i j h = go (row_later s a b na.0 h nb.1)
      where
        x : (alive a ≡ true) × (T₀.col a ≡ c)
        x = node_at i

        y : (alive b ≡ true) × (T₀.col b ≡ c)
        y = node_at j

        na : (columns s ≤ a) × (a < T₀.nodes)
        na = w.node a x.0

        nb : (columns s ≤ b) × (b < T₀.nodes)
        nb = w.node b y.0

        ra : RowNode s a
        ra = matrix_rows s a na.0 na.1

        rb : RowNode s b
        rb = matrix_rows s b nb.0 nb.1

        go : (T₀.lo a ≡ T₀.lo b) ⊎ (T₀.row a < T₀.row b) → T₀.row a < T₀.row b
        go (inl e) =
            let u = ra.behind in
            let v = rb.behind in
            let z = rb.upto in
            let d = column_once s law b nb.0 nb.1 a b (omega arith) (omega arith) v z (x.1 ∙ sym y.1) in
            absurd (omega arith)
        go (inr l) = l

    to_number : (r : ℕ) → Memᴰ r (map T₀.row nodes) → Memᴰ r numbers
    unfolding numbers
    to_number r i = subst (λ (n : ℕ). Memᴰ n numbers) o.2 (of_node o.0 o.1)
      where
        o : (k : ℕ) × Memᴰ k nodes × (T₀.row k ≡ r)
        o = Memᴰ.of_map T₀.row nodes i

        of_node : (k : ℕ) → Memᴰ k nodes → Memᴰ (T₀.row k) numbers
        of_node k j =
            let h = node_at j in
            let n = w.node k h.0 in
            let p = matrix_rows s k n.0 n.1 in
            let l = p.behind in
            let e = h.1 in
            let cell = by_eq k (T₀.lo k)
            (λ g. absurd (let u : T₀.col k ≡ s.size + (row_of s (T₀.row k)).kind = ap T₀.col g ∙ p.kind in omega arith))
            (λ g. Memᴰ.cast (sym e) (cell_in s law k n.0 n.1 k (omega arith) p.upto)) in
            keep_of (can c) (below (length s.rows)) (below_of (length s.rows) p.is_row)
            (and_both (possible t (row_of s (T₀.row k))) (member c (row_of s (T₀.row k)).cells) (w.can k h.0) (member_of (row_of s (T₀.row k)).cells cell))

    to_node : (r : ℕ) → Memᴰ r numbers → Memᴰ r (map T₀.row nodes)
    unfolding nodes numbers
    to_node r i = of_row (node_of s r (in_stock s r (below_at (length s.rows) k.0) (let a = can_left t (row_of s r) possibly in let b = w.stock (row_of s r).kind in omega arith)))
      where
        k : Memᴰ r (below (length s.rows)) × T (can c r)
        k = keep_at (can c) (below (length s.rows)) i

        possibly : T (possible t (row_of s r))
        possibly = and_left (possible t (row_of s r)) (member c (row_of s r).cells) k.1

        covers : Memᴰ c (row_of s r).cells
        covers = member_at c (row_of s r).cells (and_right (possible t (row_of s r)) (member c (row_of s r).cells) k.1)

        at_row : (x : ℕ) → columns s ≤ x → x < T₀.nodes → T₀.row x ≡ r → (y : ℕ) × Memᴰ y nodes × (T₀.row y ≡ r)
        at_row x a b e =
            let p = matrix_rows s x a b in
            let f = cell-of s law x a b (subst (λ (n : ℕ). Memᴰ c (row_of s n).cells) (sym e) covers) in
            let g = p.same f.0 (let u = f.1 in omega arith) f.2 in
            let d = p.first in
            let l = p.last in
            let u = f.1 in
            let v = f.2 in
            let same-r : T₀.row f.0 ≡ r = g.2 ∙ e in
            let live = w.back f.0 (omega arith) (omega arith) (subst (λ (n : ℕ). T (possible t (row_of s n))) (sym same-r) possibly) in
            (f.0, keep_of (here T₀ alive c) (below T₀.nodes) (below_of T₀.nodes (omega arith)) (holds (here T₀ alive c f.0) (here_of c f.0 live f.3)), same-r)

        of_row : (x : ℕ) × (columns s ≤ x) × (x < T₀.nodes) × (T₀.lo x ≡ x) × (T₀.row x ≡ r) → Memᴰ r (map T₀.row nodes)
        of_row x = let y = at_row x.0 x.1 x.2 x.4 in Memᴰ.cast (sym y.2) (Memᴰ.map T₀.row y.1)

    rows_of : map T₀.row nodes ≡ numbers
    unfolding nodes numbers
    rows_of =
        ascending_unique ltb ltb_trans ltb_irrefl (map T₀.row nodes) numbers
        (map_ascending ltb ltb T₀.row nodes (keep_ascending ltb (here T₀ alive c) (below T₀.nodes) (from_ascending 0 T₀.nodes)) (λ a b m k u. lt→ltb (T₀.row a) (T₀.row b) (rise a b m k (ltb→lt a b u))))
        (keep_ascending ltb (can c) (below (length s.rows)) (from_ascending 0 (length s.rows))) to_number to_node

    -- the possible rows on a cell, by their numbers
    choices_are : keep (λ q. member c q.cells) (keep (possible t) s.rows) ≡ map (row_of s) numbers
    unfolding numbers row_of
    choices_are =
        keep_keep (possible t) (λ q. member c q.cells) s.rows
        ∙ ap (keep (λ q. possible t q && member c q.cells)) (sym (by_number no_row s.rows))
        ∙ keep_map (row_of s) (λ q. possible t q && member c q.cells) (below (length s.rows))

    -- as many nodes as rows
    tally_is : tally (here T₀ alive c) T₀.nodes ≡ how_many (λ q. member c q.cells) (keep (possible t) s.rows)
    unfolding nodes
    tally_is =
        tally_length (here T₀ alive c) T₀.nodes ∙ sym (length-map nodes T₀.row) ∙ ap length rows_of ∙ sym (length-map numbers (row_of s)) ∙ ap length (sym choices_are)
        ∙ sym (how_many_length (λ q. member c q.cells) (keep (possible t) s.rows))

    -- the rows of the column, tried one after the other
    tried : {B : Type 0} (h : List ℕ → B) (f : ℕ → List (List ℕ)) (g : Placement → List B) → ((k : ℕ) → alive k ≡ true → map h (f k) ≡ g (row_of s (T₀.row k)))
        → map h (list_from f (here T₀ alive c) T₀.nodes 0) ≡ each (keep (λ q. member c q.cells) (keep (possible t) s.rows)) g
    unfolding nodes
    tried {B} h f g same =
        list_each h f (here T₀ alive c) T₀.nodes 0
        ∙ each_same_in (λ k. map h (f k)) (λ k. g (row_of s (T₀.row k))) nodes (λ k i. same k (node_at i).0)
        ∙ sym (each_map T₀.row (λ r. g (row_of s r)) nodes)
        ∙ ap (λ (l : List ℕ). each l (λ r. g (row_of s r))) rows_of
        ∙ sym (each_map (row_of s) g numbers)
        ∙ ap (λ (l : List Placement). each l g) (sym choices_are)

  -- ---- the column that is tried
  abbrev ps : List Placement
  ps = keep (possible t) s.rows

  abbrev many : ℕ → ℕ
  many n = how_many (λ q. member n q.cells) ps

  abbrev column : ℕ
  column = pivot (λ j. tally (here T₀ alive j) T₀.nodes) s.size

  column_is : column ≡ pivot many s.size
  column_is = pivot_same (λ j. tally (here T₀ alive j) T₀.nodes) many s.size (λ c h. tally_is c h)

  reach : (n : ℕ) → n < s.size → 0 < many n → Memᴰ n t.free
  reach n l h =
      let r = any_at (λ (q : Placement). member n q.cells) ps (how_many_any (λ (q : Placement). member n q.cells) ps h) in
      can_free t r.0 (keep_at (possible t) s.rows r.1).1 (member_at n r.0.cells r.2)

  few : (n : ℕ) → many n < 65536
  few n =
      let a = how_many_length (λ (q : Placement). member n q.cells) ps in
      let b = keep_length (λ (q : Placement). member n q.cells) ps in
      let c = keep_length (possible t) s.rows in
      let d = law.few_rows in
      omega arith

  -- no choice, or the rows of the column
  decided : ((column ≡ 4096) × (knuth_choices s.rows t ≡ [])) ⊎ ((column < s.size) × (knuth_choices s.rows t ≡ keep (λ q. member column q.cells) ps))
  decided = go (fewest_is ps t.free s.size w.on reach few)
    where
      go : ((pivot many s.size ≡ 4096) × (tallies ps t.free ≡ []))
          ⊎ (Least many s.size (pivot many s.size) × (take 1 (sort tally_ahead (tallies ps t.free)) ≡ record { placements = many (pivot many s.size); cell = pivot many s.size } ∷ []))
          → ((column ≡ 4096) × (knuth_choices s.rows t ≡ [])) ⊎ ((column < s.size) × (knuth_choices s.rows t ≡ keep (λ q. member column q.cells) ps))
      go (inl h) = inl (column_is ∙ h.0, knuth_none s.rows t h.1)
      go (inr h) =
          let e = column_is in
          let l = h.0.small in
          inr (
            omega arith,
            knuth_some s.rows t (pivot many s.size) (many (pivot many s.size)) h.1 ∙ ap (λ (c : ℕ). keep (λ (q : Placement). member c q.cells) ps) (sym column_is),
          )

-- ---- both searches, unfolded once
is_none : {A : Type 0} (xs : List A) → length xs ≡ 0 → is_empty xs ≡ true
is_none [] e = refl
is_none (x ∷ xs) e = absurd (omega arith)

is_some : {A : Type 0} (xs : List A) → (length xs ≡ 0 → ⊥) → is_empty xs ≡ false
is_some [] d = absurd (d refl)
is_some (x ∷ xs) d = refl

module _ (choices : State → List Placement) (t : State) where
  search_done : (f : ℕ) → length t.free ≡ 0 → search choices f t ≡ t.chosen ∷ []
  unfolding search
  search_done zero e = ap (λ (b : Bool). cond b (t.chosen ∷ []) []) (is_none t.free e)
  search_done (suc f) e = ap (λ (b : Bool). cond b (t.chosen ∷ []) (each (choices t) (λ q. search choices f (choose t q)))) (is_none t.free e)

  search_on : (f : ℕ) → (length t.free ≡ 0 → ⊥) → search choices (suc f) t ≡ each (choices t) (λ q. search choices f (choose t q))
  unfolding search
  search_on f d = ap (λ (b : Bool). cond b (t.chosen ∷ []) (each (choices t) (λ q. search choices f (choose t q)))) (is_some t.free d)

module _ (t : Matrix) (cells g : ℕ) (alive : ℕ → Bool) (copies : ℕ → ℕ) (m : ℕ) where
  abbrev c₀ : ℕ
  c₀ = pivot (λ j. tally (here t alive j) t.nodes) cells

  abbrev below_row : ℕ → List (List ℕ)
  below_row k = map (λ ks. k ∷ ks) (exact_covers t cells g (select t alive copies k) (spend t copies k) (m - (t.hi k - t.lo k - 1)))

  packings_done : m ≡ 0 → exact_covers t cells (suc g) alive copies m ≡ [] ∷ []
  unfolding exact_covers
  packings_done e = ap (λ (b : Bool). cond b ([] ∷ []) (cond (eqb c₀ 4096) [] (rows_from t (exact_covers t cells g) alive copies m c₀ 0))) (eq-eqb m 0 e)

  packings_none : (m ≡ 0 → ⊥) → c₀ ≡ 4096 → exact_covers t cells (suc g) alive copies m ≡ []
  unfolding exact_covers
  packings_none d e =
      ap (λ (b : Bool). cond b ([] ∷ []) (cond (eqb c₀ 4096) [] (rows_from t (exact_covers t cells g) alive copies m c₀ 0))) (ne_eqb m 0 d)
      ∙ ap (λ (b : Bool). cond b [] (rows_from t (exact_covers t cells g) alive copies m c₀ 0)) (eq-eqb c₀ 4096 e)

  packings_rows : (m ≡ 0 → ⊥) → (c₀ ≡ 4096 → ⊥) → exact_covers t cells (suc g) alive copies m ≡ list_from below_row (here t alive c₀) t.nodes 0
  unfolding exact_covers rows_from
  packings_rows d e =
      ap (λ (b : Bool). cond b ([] ∷ []) (cond (eqb c₀ 4096) [] (rows_from t (exact_covers t cells g) alive copies m c₀ 0))) (ne_eqb m 0 d)
      ∙ ap (λ (b : Bool). cond b [] (rows_from t (exact_covers t cells g) alive copies m c₀ 0)) (ne_eqb c₀ 4096 e)
      ∙ ap (λ (n : ℕ). list_from below_row (here t alive c₀) n 0) (let z : t.nodes - 0 ≡ t.nodes = omega arith in z)

-- ---- the two lists
module _ (s : System) (law : Lawful s) where
  -- the rows of a list of nodes put to those chosen
  abbrev placed : List Placement → List ℕ → List Placement
  placed P ks = put_all P (map (row_of s) (map (matrix_of s).row ks))

  abbrev choices : State → List Placement
  choices = knuth_choices s.rows

  placed_first : (t : State) (k : ℕ) (L : List (List ℕ)) → map (placed t.chosen) (map (λ ks. k ∷ ks) L) ≡ map (placed (choose t (row_of s ((matrix_of s).row k))).chosen) L
  unfolding choose
  placed_first t k L = map-map (placed t.chosen) (λ ks. k ∷ ks) L

  pub same_list : (g f : ℕ) (alive : ℕ → Bool) (copies : ℕ → ℕ) (m : ℕ) (t : State) → Represents s alive copies m t → m < g → m ≤ f
      → map (placed t.chosen) (exact_covers (matrix_of s) s.size g alive copies m) ≡ search choices f t
  same_list zero f alive copies m t w h k = absurd (omega arith)
  same_list (suc g) zero alive copies m t w h k =
      let e : m ≡ 0 = omega arith in
      ap (map (placed t.chosen)) (packings_done (matrix_of s) s.size g alive copies m e) ∙ sym (search_done choices t 0 (sym w.rest ∙ e))
  same_list (suc g) (suc f) alive copies m t w h k =
      by_eq m 0
      (λ e. ap (map (placed t.chosen)) (packings_done (matrix_of s) s.size g alive copies m e) ∙ sym (search_done choices t (suc f) (sym w.rest ∙ e)))
      (λ d. go d (decided s law alive copies m t w) (λ alive copies m t w h k. same_list g f alive copies m t w h k))
    where
      go : (m ≡ 0 → ⊥)
          → ((column s law alive copies m t w ≡ 4096) × (choices t ≡ [])) ⊎
          ((column s law alive copies m t w < s.size) × (choices t ≡ keep (λ q. member (column s law alive copies m t w) q.cells) (keep (possible t) s.rows)))
          → ((alive : ℕ → Bool) (copies : ℕ → ℕ) (m : ℕ) (t : State) → Represents s alive copies m t → m < g → m ≤ f
          → map (placed t.chosen) (exact_covers (matrix_of s) s.size g alive copies m) ≡ search choices f t)
          → map (placed t.chosen) (exact_covers (matrix_of s) s.size (suc g) alive copies m) ≡ search choices (suc f) t
      go d (inl e) again =
          ap (map (placed t.chosen)) (packings_none (matrix_of s) s.size g alive copies m d e.0)
          ∙ sym (search_on choices t f (λ i. d (w.rest ∙ i)) ∙ ap (λ (l : List Placement). each l (λ q. search choices f (choose t q))) e.1)
      go d (inr e) again =
          let l = e.0 in
          let n = law.few_cells in
          let c = column s law alive copies m t w in
          ap (map (placed t.chosen)) (packings_rows (matrix_of s) s.size g alive copies m d (λ i. omega arith))
          ∙ tried s law alive copies m t w c l (placed t.chosen) (below_row (matrix_of s) s.size g alive copies m) (λ q. search choices f (choose t q)) row_same
          ∙ sym (search_on choices t f (λ i. d (w.rest ∙ i)) ∙ ap (λ (z : List Placement). each z (λ q. search choices f (choose t q))) e.1)
        where
          row_same : (x : ℕ) → alive x ≡ true → map (placed t.chosen) (below_row (matrix_of s) s.size g alive copies m x) ≡ search choices f (choose t (row_of s ((matrix_of s).row x)))
          row_same x lx =
              placed_first t x (exact_covers (matrix_of s) s.size g (select (matrix_of s) alive copies x) (spend (matrix_of s) copies x) (m - ((matrix_of s).hi x - (matrix_of s).lo x - 1)))
              ∙ again (select (matrix_of s) alive copies x) (spend (matrix_of s) copies x) (m - ((matrix_of s).hi x - (matrix_of s).lo x - 1))
              (choose t (row_of s ((matrix_of s).row x))) (chosen s law alive copies m t w x lx)
              smaller.0 smaller.1
            where
              smaller : (m - ((matrix_of s).hi x - (matrix_of s).lo x - 1) < g) × (m - ((matrix_of s).hi x - (matrix_of s).lo x - 1) ≤ f)
              smaller =
                  let n = w.node x lx in
                  let a = (matrix_rows s x n.0 n.1).size in
                  let b = row_some s law x n.0 n.1 in
                  (omega arith, omega arith)

  pub knuth-rows : (copies : ℕ → ℕ) → ((k : ℕ) → k < length s.copies → copies (s.size + k) ≡ get_or s.copies k 0) → (g : ℕ) → s.size < g
      → map (λ ks. put_all [] (map (row_of s) (map (matrix_of s).row ks))) (exact_covers (matrix_of s) s.size g (every (matrix_of s)) copies s.size) ≡ search (knuth_choices s.rows) s.size (start_by s)
  unfolding start_by
  knuth-rows copies held g h = same_list g s.size (every (matrix_of s)) copies s.size (start_by s) (starts s law copies held) h (omega arith)
