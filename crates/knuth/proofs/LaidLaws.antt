-- Nodes laid behind nodes are laid as one list: each keeps what lies elsewhere. Assumes nothing.
use Prim.Native.Nat.{ℕ, zero, suc, ◌+◌, ◌-◌, ◌≤◌, ◌<◌}
use mathlib.Core.Bool.{Bool, true, false, not}
use mathlib.Core.List.{List, [], ◌∷◌, ◌++◌, map, map-append}
use mathlib.Core.Logic.{◌⊎◌, inl, inr}
use mathlib.Core.Path.{◌≡◌, refl, sym, ap, ◌∙◌, subst}
use native.Mathlib.Numerals.{add-one}
use native.Mathlib.Omega.{arith}
use lib.Dec.{T, ltb, ltb→lt, nltb→le}
use lib.ListN.{length, get_or, set, length-append, length-map, length-set}
use lib.Seq.{get_or-set_same, get_or-set_other}
use Rattle.lists.specs.Lists.{keep, how_many, below, from}
use Rattle.std.specs.Prelude.{count_by}
use Rattle.std.specs.List.{range_with_len}
use Rattle.lists.proofs.TestLaws.{decide, by_bool}
use Rattle.lists.proofs.ListLaws.{keep_with, keep_without}
use Rattle.lists.proofs.RangeLaws.{below_next, length_below, from_append}
use Rattle.lists.proofs.CountLaws.{how_many_length}
use Rattle.masks.specs.Masks.{has}
use Rattle.masks.specs.declared.Mask.{Mask}
use Rattle.rows.specs.Charts.{kind_copies}
use Rattle.links.specs.Cover.{bit}
use Rattle.links.proofs.Tally.{counted_next}
use Rattle.links.specs.Links.{column_of, first_of, end_of, copies_of, row_number, at_column, at_first, at_end, at_copies, at_row}
use Rattle.knuth.specs.declared.node.Node.{Node}
use Rattle.knuth.specs.Matrix.{node_at, nodes_in, head_nodes, row_nodes, Beside, Laid, StockLaid}
use Rattle.rows.specs.declared.chart.Chart.{Chart}

-- ---- lists
-- the entries kept below n, and one more
module _ (p : ℕ → Bool) (n : ℕ) where
  pub keep_hit : p n ≡ true → keep p (below (n + 1)) ≡ keep p (below n) ++ (n ∷ [])
  keep_hit e = ap (keep p) (below_next n) ∙ keep_with p (below n) n e

  pub keep_miss : p n ≡ false → keep p (below (n + 1)) ≡ keep p (below n)
  keep_miss e = ap (keep p) (below_next n) ∙ keep_without p (below n) n e

  pub count_hit : p n ≡ true → how_many p (below (n + 1)) ≡ how_many p (below n) + 1
  count_hit e =
      let a = how_many_length p (below (n + 1)) in
      let b = how_many_length p (below n) in
      let c = ap length (keep_hit e) in
      let d = length-append (keep p (below n)) (n ∷ []) in
      omega arith

  pub count_miss : p n ≡ false → how_many p (below (n + 1)) ≡ how_many p (below n)
  count_miss e = how_many_length p (below (n + 1)) ∙ ap length (keep_miss e) ∙ sym (how_many_length p (below n))

-- a count over a range, as a chain of iterators counts
counted_step : (p : ℕ → Bool) (n : ℕ) → count_by p (range_with_len 0 n) ≡ how_many p (below n) → count_by p (range_with_len 0 (n + 1)) ≡ how_many p (below (n + 1))
counted_step p n h =
    counted_next p n
    ∙ by_bool (p n) (λ e. omega (arith, h, ap bit e, count_hit p n e)) (λ e. omega (arith, h, ap bit e, count_miss p n e))

pub counted : (p : ℕ → Bool) (n : ℕ) → count_by p (range_with_len 0 n) ≡ how_many p (below n)
counted p zero = refl
counted p (suc n) = rw (add-one n) at (counted_step p n (counted p n))

-- ---- one node
node_same : {a b c d e f g h : ℕ} → a ≡ e → b ≡ f → c ≡ g → d ≡ h → ◌≡◌ {A = Node} (record { column = a; first = b; end = c; row = d }) (record { column = e; first = f; end = g; row = h })
node_same p q r s = cc

-- a node is as it was where its four fields are
pub same_node : (m n : List ℕ) (y : ℕ) → column_of n y ≡ column_of m y → first_of n y ≡ first_of m y → end_of n y ≡ end_of m y
    → row_number n y ≡ row_number m y → node_at n y ≡ node_at m y
unfolding node_at
same_node m n y p q r s = node_same p q r s

module _ (m : List ℕ) (x col lo hi row : ℕ) where
  abbrev m1 : List ℕ
  m1 = set m (at_column x) col

  abbrev m2 : List ℕ
  m2 = set m1 (at_first x) lo

  abbrev m3 : List ℕ
  m3 = set m2 (at_end x) hi

  abbrev pub put_node : List ℕ
  put_node = set m3 (at_row x) row

  elsewhere : (i : ℕ) → (i ≡ at_column x → ⊥) → (i ≡ at_first x → ⊥) → (i ≡ at_end x → ⊥) → (i ≡ at_row x → ⊥) → get_or put_node i 0 ≡ get_or m i 0
  elsewhere i a b c d =
      get_or-set_other m3 (at_row x) i row 0 d ∙ get_or-set_other m2 (at_end x) i hi 0 c ∙ get_or-set_other m1 (at_first x) i lo 0 b ∙ get_or-set_other m (at_column x) i col 0 a

  module _ (long : 32768 ≤ length m) (small : x < 4096) where
    col_now : column_of put_node x ≡ col
    col_now =
        get_or-set_other m3 (at_row x) (at_column x) row 0 (λ e. omega arith) ∙ get_or-set_other m2 (at_end x) (at_column x) hi 0 (λ e. omega arith)
        ∙ get_or-set_other m1 (at_first x) (at_column x) lo 0 (λ e. omega arith) ∙ get_or-set_same m (at_column x) col 0 (omega arith)

    lo_now : first_of put_node x ≡ lo
    lo_now =
        get_or-set_other m3 (at_row x) (at_first x) row 0 (λ e. omega arith) ∙ get_or-set_other m2 (at_end x) (at_first x) hi 0 (λ e. omega arith)
        ∙ get_or-set_same m1 (at_first x) lo 0 (let a = length-set m (at_column x) col in omega arith)

    hi_now : end_of put_node x ≡ hi
    hi_now =
        get_or-set_other m3 (at_row x) (at_end x) row 0 (λ e. omega arith)
        ∙ get_or-set_same m2 (at_end x) hi 0 (let a = length-set m (at_column x) col in let b = length-set m1 (at_first x) lo in omega arith)

    row_now : row_number put_node x ≡ row
    row_now =
        get_or-set_same m3 (at_row x) row 0
        (let a = length-set m (at_column x) col in let b = length-set m1 (at_first x) lo in let c = length-set m2 (at_end x) hi in omega arith)

    pub laid_one : Laid m x put_node (record { column = col; first = lo; end = hi; row = row } ∷ [])
    unfolding nodes_in node_at
    laid_one =
        record {
          nodes = ap (λ (n : Node). n ∷ []) (node_same col_now lo_now hi_now row_now);
          others = λ i s.
              elsewhere i (s.column x (omega arith) (omega arith)) (s.first x (omega arith) (omega arith))
              (s.end x (omega arith) (omega arith)) (s.row x (omega arith) (omega arith));
        }

-- ---- nodes
pub same_nodes : (m n : List ℕ) (x k : ℕ) → ((y : ℕ) → x ≤ y → y < x + k → node_at n y ≡ node_at m y) → nodes_in n x k ≡ nodes_in m x k
unfolding nodes_in
same_nodes m n x zero f = refl
same_nodes m n x (suc k) f =
    ap (λ (a : Node). a ∷ map (node_at n) (from (suc x) k)) (f x (omega arith) (omega arith))
    ∙ ap (λ (l : List Node). node_at m x ∷ l) (same_nodes m n (suc x) k (λ y g h. f y (omega arith) (omega arith)))

pub nodes_append : (m : List ℕ) (x j k : ℕ) → nodes_in m x (j + k) ≡ nodes_in m x j ++ nodes_in m (x + j) k
unfolding nodes_in
nodes_append m x j k = ap (map (node_at m)) (sym (from_append x j k)) ∙ map-append (node_at m) (from x j) (from (x + j) k)

pub laid_none : (m : List ℕ) (x : ℕ) → Laid m x m []
unfolding nodes_in
laid_none m x = record { nodes = refl; others = λ i s. refl }

-- ---- what lies beside nodes
beside_part : (x n z k i : ℕ) → x ≤ z → z + k ≤ x + n → Beside x n i → Beside z k i
beside_part x n z k i g h s =
    record {
      column = λ y a b. s.column y (omega arith) (omega arith);
      first = λ y a b. s.first y (omega arith) (omega arith);
      end = λ y a b. s.end y (omega arith) (omega arith);
      row = λ y a b. s.row y (omega arith) (omega arith);
    }

pub beside_copies : (x n j : ℕ) → Beside x n (at_copies j)
beside_copies x n j = record { column = λ y a b e. omega arith; first = λ y a b e. omega arith; end = λ y a b e. omega arith; row = λ y a b e. omega arith }

-- a node before those that are laid stays
before_stays : (b c : List ℕ) (z : ℕ) (ms : List Node) → Laid b z c ms → (y : ℕ) → y < z → node_at c y ≡ node_at b y
before_stays b c z ms q y h =
    same_node b c y
    (q.others (at_column y) (record { column = λ k g l e. omega arith; first = λ k g l e. omega arith; end = λ k g l e. omega arith; row = λ k g l e. omega arith }))
    (q.others (at_first y) (record { column = λ k g l e. omega arith; first = λ k g l e. omega arith; end = λ k g l e. omega arith; row = λ k g l e. omega arith }))
    (q.others (at_end y) (record { column = λ k g l e. omega arith; first = λ k g l e. omega arith; end = λ k g l e. omega arith; row = λ k g l e. omega arith }))
    (q.others (at_row y) (record { column = λ k g l e. omega arith; first = λ k g l e. omega arith; end = λ k g l e. omega arith; row = λ k g l e. omega arith }))

module _ (a b c : List ℕ) (x z : ℕ) (ns ms : List Node) (at : z ≡ x + length ns) (p : Laid a x b ns) (q : Laid b z c ms) where
  first_stays : nodes_in c x (length ns) ≡ nodes_in b x (length ns)
  first_stays = same_nodes b c x (length ns) (λ y g h. before_stays b c z ms q y (omega arith))

  pub laid_more : Laid a x c (ns ++ ms)
  laid_more =
      record {
        nodes = ap (nodes_in c x) (length-append ns ms) ∙ nodes_append c x (length ns) (length ms)
            ∙ ap (λ (l : List Node). l ++ nodes_in c (x + length ns) (length ms)) (first_stays ∙ p.nodes)
            ∙ ap (λ (k : ℕ). ns ++ nodes_in c k (length ms)) (sym at)
            ∙ ap (λ (l : List Node). ns ++ l) q.nodes;
        others = λ i s.
            let e = length-append ns ms in
            q.others i (beside_part x (length (ns ++ ms)) z (length ms) i (omega arith) (omega arith) s)
            ∙ p.others i (beside_part x (length (ns ++ ms)) x (length ns) i (omega arith) (omega arith) s);
      }

-- ---- heads
abbrev head_node : ℕ → Node
head_node j = record { column = j; first = j; end = suc j; row = 0 }

pub heads_length : (n : ℕ) → length (head_nodes n) ≡ n
unfolding head_nodes
heads_length n = length-map (below n) head_node ∙ length_below n

heads_next : (n : ℕ) → head_nodes (n + 1) ≡ head_nodes n ++ (head_node n ∷ [])
unfolding head_nodes
heads_next n = ap (map head_node) (below_next n) ∙ map-append head_node (below n) (n ∷ [])

pub heads_none : (m : List ℕ) (j : ℕ) → j ≡ 0 → Laid m 0 m (head_nodes j)
unfolding head_nodes
heads_none m j e = subst (λ (k : ℕ). Laid m 0 m (map head_node (below k))) (sym e) (laid_none m 0)

pub heads_more : (a b c : List ℕ) (j : ℕ) → Laid a 0 b (head_nodes j) → Laid b j c (record { column = j; first = j; end = j + 1; row = 0 } ∷ []) → Laid a 0 c (head_nodes (j + 1))
heads_more a b c j p q =
    let l = heads_length j in
    let e : head_nodes j ++ (record { column = j; first = j; end = j + 1; row = 0 } ∷ []) ≡ head_nodes (j + 1) =
    ap (λ (k : ℕ). head_nodes j ++ (record { column = j; first = j; end = k; row = 0 } ∷ [])) (add-one j) ∙ sym (heads_next j) in
    subst (Laid a 0 c) e (laid_more a b c 0 j (head_nodes j) (record { column = j; first = j; end = j + 1; row = 0 } ∷ []) (omega arith) p q)

-- ---- cells
module _ (p : ℕ → Bool) (first end row : ℕ) where
  abbrev cell_node : ℕ → Node
  cell_node c = record { column = c; first = first; end = end; row = row }

  abbrev pub cell_nodes : ℕ → List Node
  cell_nodes n = map cell_node (keep p (below n))

  pub cells_length : (n : ℕ) → length (cell_nodes n) ≡ how_many p (below n)
  cells_length n = length-map (keep p (below n)) cell_node ∙ sym (how_many_length p (below n))

  module _ (a b c : List ℕ) (x at n : ℕ) (is : at ≡ x + how_many p (below n)) (laid : Laid a x b (cell_nodes n)) where
    pub cells_hit : p n ≡ true → Laid b at c (cell_node n ∷ []) → Laid a x c (cell_nodes (n + 1))
    cells_hit e q =
        let l = cells_length n in
        subst (Laid a x c) (sym (ap (map cell_node) (keep_hit p n e) ∙ map-append cell_node (keep p (below n)) (n ∷ [])))
        (laid_more a b c x at (cell_nodes n) (cell_node n ∷ []) (omega arith) laid q)

    pub cells_miss : p n ≡ false → c ≡ b → Laid a x c (cell_nodes (n + 1))
    cells_miss e s = subst (Laid a x c) (ap (map cell_node) (sym (keep_miss p n e))) (subst (λ (m : List ℕ). Laid a x m (cell_nodes n)) (sym s) laid)

-- ---- a row
module _ (n x r : ℕ) (mask here : Mask) (m-is : here ≡ mask) (kind k count end : ℕ) (k-is : k ≡ kind) (c_is : count ≡ how_many (has here) (below n)) (e_is : end ≡ x + 1 + count) where
  size_is : count ≡ how_many (has mask) (below n)
  size_is = c_is ∙ ap (λ (m : Mask). how_many (has m) (below n)) m-is

  pub row_size : end ≡ x + suc (how_many (has mask) (below n))
  row_size = let e = size_is in omega arith

  abbrev nodes_with : ℕ → Mask → ℕ → List Node
  nodes_with j m z = map (λ c. record { column = c; first = x; end = z; row = r }) ((n + j) ∷ keep (has m) (below n))

  pub row_laid : (a b c : List ℕ) → Laid a x b (record { column = n + k; first = x; end = end; row = r } ∷ []) → Laid b (x + 1) c (cell_nodes (has here) x end r n)
      → Laid a x c (row_nodes n x r kind (keep (has mask) (below n)))
  unfolding row_nodes
  row_laid a b c q s =
      let z : end ≡ x + suc (length (keep (has mask) (below n))) = let e = size_is in let l = how_many_length (has mask) (below n) in omega arith in
      subst (Laid a x c) (ap (λ (j : ℕ). nodes_with j here end) k-is ∙ ap (λ (m : Mask). nodes_with kind m end) m-is ∙ ap (nodes_with kind mask) z)
      (laid_more a b c x (x + 1) (record { column = n + k; first = x; end = end; row = r } ∷ []) (cell_nodes (has here) x end r n) refl q s)

-- ---- copies
-- those of the columns below j
pub record StockTo (old new : List ℕ) (size j : ℕ) (chart : Chart) : Type 0 where
  pub cells : (i : ℕ) → i < size → i < j → copies_of new i ≡ 0
  pub copies : (k : ℕ) → size + k < j → copies_of new (size + k) ≡ kind_copies chart.kinds k
  pub others : (i : ℕ) → ((k : ℕ) → k < j → i ≡ at_copies k → ⊥) → get_or new i 0 ≡ get_or old i 0

module _ (old m : List ℕ) (size j v : ℕ) (chart : Chart) (st : StockTo old m size j chart) (long : at_copies j < length m) where
  abbrev new : List ℕ
  new = set m (at_copies j) v

  there : (i : ℕ) → (i ≡ j → ⊥) → copies_of new i ≡ copies_of m i
  there i h = get_or-set_other m (at_copies j) (at_copies i) v 0 (λ e. h (omega arith))

  here : (i : ℕ) → i ≡ j → copies_of new i ≡ v
  here i e = ap (λ (k : ℕ). copies_of new k) e ∙ get_or-set_same m (at_copies j) v 0 long

  rest : (i : ℕ) → ((k : ℕ) → k < j + 1 → i ≡ at_copies k → ⊥) → get_or new i 0 ≡ get_or old i 0
  rest i h = get_or-set_other m (at_copies j) i v 0 (h j (omega arith)) ∙ st.others i (λ k l. h k (omega arith))

  module _ (is-cell : j < size → v ≡ 0) (is-kind : (k : ℕ) → size + k ≡ j → v ≡ kind_copies chart.kinds k) where
    cell_now : (i : ℕ) → i < size → i < j + 1 → copies_of new i ≡ 0
    cell_now i h k = go (decide (ltb i j))
      where
        go : T (ltb i j) ⊎ T (not (ltb i j)) → copies_of new i ≡ 0
        go (inl t) = let l = ltb→lt i j t in there i (λ e. omega arith) ∙ st.cells i h l
        go (inr t) = let l = nltb→le i j t in let e : i ≡ j = omega arith in here i e ∙ is-cell (omega arith)

    kind_now : (k : ℕ) → size + k < j + 1 → copies_of new (size + k) ≡ kind_copies chart.kinds k
    kind_now k h = go (decide (ltb (size + k) j))
      where
        go : T (ltb (size + k) j) ⊎ T (not (ltb (size + k) j)) → copies_of new (size + k) ≡ kind_copies chart.kinds k
        go (inl t) = let l = ltb→lt (size + k) j t in there (size + k) (λ e. omega arith) ∙ st.copies k l
        go (inr t) = let l = nltb→le (size + k) j t in let e : size + k ≡ j = omega arith in here (size + k) e ∙ is-kind k e

    pub stock_more : StockTo old new size (j + 1) chart
    stock_more = record { cells = cell_now; copies = kind_now; others = rest }

  pub stock_cell : j < size → v ≡ 0 → StockTo old new size (j + 1) chart
  stock_cell h e = stock_more (λ k. e) (λ k q. absurd (omega arith))

  pub stock_kind : size ≤ j → v ≡ kind_copies chart.kinds (j - size) → StockTo old new size (j + 1) chart
  stock_kind h e =
      stock_more (λ k. absurd (omega arith)) (λ k q. let z : j - size ≡ k = omega arith in e ∙ ap (λ (i : ℕ). kind_copies chart.kinds i) z)

pub stock_all : (old new : List ℕ) (size n j : ℕ) (chart : Chart) → j ≡ size + n → StockTo old new size j chart → StockLaid old new size n chart
stock_all old new size n j chart e st =
    record {
      cells = λ i h. st.cells i h (omega arith);
      copies = λ k h. st.copies k (omega arith);
      others = λ i h. st.others i (λ k l. h k (omega arith));
    }
