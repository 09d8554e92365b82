-- The nodes of a row system stand row by row, a row's kind first, then its cells ascending: so they are a lawful matrix, and row numbers rise with nodes.
-- Assumes nothing.
use Prim.Native.Nat.{ℕ, suc, ◌+◌, ◌-◌, ◌≤◌, ◌<◌}
use mathlib.Core.Bool.{not}
use mathlib.Core.List.Memᴰ
use mathlib.Core.List.{List, [], ◌∷◌, ◌++◌, Memᴰ}
use mathlib.Core.Path.{◌≡◌, refl, sym, ap, ◌∙◌, subst}
use mathlib.Core.Logic.{◌⊎◌, inl, inr}
use native.Mathlib.Omega.{arith}
use lib.Dec.{T, ltb, ltb→lt, lt→ltb, nltb→le}
use lib.ListN
use lib.ListN.{length, get_or, length-append, length-map, get_or-append}
use lib.Seq.{get_or-append-add}
use Rattle.lists.specs.Lists.{all, below, ascending}
use Rattle.lists.proofs.TestLaws.{and_left, and_right, decide}
use Rattle.lists.proofs.ListLaws.{all_at, keep_at, keep_of, get_or_mem, mem_get_or, get_or_map}
use Rattle.lists.proofs.SortLaws.{keep_ascending, get_or_ahead}
use Rattle.lists.proofs.RangeLaws.{get_or_number, below_at, below_of, from_ascending, length_below}
use Rattle.definitions.specs.Placements.{Placement}
use Rattle.rows.specs.Systems.{System}
use Rattle.rows.specs.Lawful.{Lawful, LawfulRow}
use Rattle.kept.specs.Normal.{row_of}
use Rattle.links.specs.Links.{LawfulMatrix}
use Rattle.links.specs.Search.{Shape}
use Rattle.knuth.specs.declared.node.Node.{Node}
use Rattle.knuth.specs.Matrix.{head_nodes, row_nodes, nodes_from, stocked_rows, columns, link_nodes, matrix_of}
use Rattle.kept.proofs.NormalRowLaws.{row_of_in}

-- ---- the nodes of rows, one row behind the other
abbrev pub no_node : Node
no_node = record { column = 0; first = 0; end = 0; row = 0 }

abbrev pub cells_at : System → ℕ → List ℕ
cells_at s r = (row_of s r).cells

-- node k of row r, whose first node is b
abbrev node_in : System → ℕ → ℕ → ℕ → Node
node_in s b r k = record { column = get_or ((s.size + (row_of s r).kind) ∷ cells_at s r) k 0; first = b; end = b + suc (length (cells_at s r)); row = r }

-- the row of node x, among rows that stand from `first` to `end`
record Block (s : System) (at : ℕ → Node) (rs : List ℕ) (first end x : ℕ) : Type 0 where
  r : ℕ
  is_row : Memᴰ r rs
  b : ℕ
  low : first ≤ b
  behind : b ≤ x
  upto : x < b + suc (length (cells_at s r))
  high : b + suc (length (cells_at s r)) ≤ end
  node : (k : ℕ) → k < suc (length (cells_at s r)) → at (b + k) ≡ node_in s b r k

module _ (s : System) (at : ℕ → Node) where
  -- the nodes from x on are these
  abbrev Holds : ℕ → List Node → Type 0
  Holds x l = (i : ℕ) → i < length l → at (x + i) ≡ get_or l i no_node

  abbrev first_row : ℕ → ℕ → List Node
  first_row x r = row_nodes s.size x r (row_of s r).kind (cells_at s r)

  first_row_length : (x r : ℕ) → length (first_row x r) ≡ suc (length (cells_at s r))
  unfolding row_nodes
  first_row_length x r = ap suc (length-map (cells_at s r) (λ c. record { column = c; first = x; end = x + suc (length (cells_at s r)); row = r }))

  first_row_at : (x r k : ℕ) → k < suc (length (cells_at s r)) → get_or (first_row x r) k no_node ≡ node_in s x r k
  unfolding row_nodes
  first_row_at x r k h =
      get_or_map 0 no_node (λ c. record { column = c; first = x; end = x + suc (length (cells_at s r)); row = r }) ((s.size + (row_of s r).kind) ∷ cells_at s r) k h

  abbrev after : ℕ → ℕ → ℕ
  after x r = x + suc (length (cells_at s r))

  -- of a row and the rows behind it
  module _ (x r : ℕ) (rs : List ℕ) (h : Holds x (first_row x r ++ nodes_from s (after x r) rs)) where
    all_length : length (first_row x r ++ nodes_from s (after x r) rs) ≡ suc (length (cells_at s r)) + length (nodes_from s (after x r) rs)
    all_length = let a = length-append (first_row x r) (nodes_from s (after x r) rs) in let b = first_row_length x r in omega arith

    first_node : (k : ℕ) → k < suc (length (cells_at s r)) → at (x + k) ≡ node_in s x r k
    first_node k l =
        let a = all_length in
        let b = first_row_length x r in
        h k (omega arith) ∙ get_or-append (first_row x r) (nodes_from s (after x r) rs) no_node k (omega arith) ∙ first_row_at x r k l

    rest_holds : Holds (after x r) (nodes_from s (after x r) rs)
    rest_holds i l =
        let a = all_length in
        let b = first_row_length x r in
        let e : after x r + i ≡ x + (suc (length (cells_at s r)) + i) = omega arith in
        ap at e ∙ h (suc (length (cells_at s r)) + i) (omega arith)
        ∙ ap (λ (n : ℕ). get_or (first_row x r ++ nodes_from s (after x r) rs) (n + i) no_node) (sym b)
        ∙ get_or-append-add (first_row x r) (nodes_from s (after x r) rs) i no_node

    first_block : (end y : ℕ) → x ≤ y → y < after x r → after x r ≤ end → Block s at (r ∷ rs) x end y
    first_block end y a b d = record { r = r; is_row = Memᴰ.head refl; b = x; low = omega arith; behind = a; upto = b; high = d; node = first_node }

  later_block : (x r : ℕ) (rs : List ℕ) (end y : ℕ) → Block s at rs (after x r) end y → Block s at (r ∷ rs) x end y
  later_block x r rs end y k =
      record { r = k.r; is_row = Memᴰ.tail k.is_row; b = k.b; low = (let l = k.low in omega arith); behind = k.behind; upto = k.upto; high = k.high; node = k.node }

  blocks : (x : ℕ) (rs : List ℕ) → Holds x (nodes_from s x rs) → (y : ℕ) → x ≤ y → y < x + length (nodes_from s x rs) → Block s at rs x (x + length (nodes_from s x rs)) y
  blocks x [] h y a b = absurd (omega arith)
  blocks x (r ∷ rs) h y a b = go (decide (ltb y (after x r))) (blocks (after x r) rs (rest_holds x r rs h) y)
    where
      end_is : after x r + length (nodes_from s (after x r) rs) ≡ x + length (first_row x r ++ nodes_from s (after x r) rs)
      end_is = let e = all_length x r rs h in omega arith

      go : T (ltb y (after x r)) ⊎ T (not (ltb y (after x r)))
          → (after x r ≤ y → y < after x r + length (nodes_from s (after x r) rs) → Block s at rs (after x r) (after x r + length (nodes_from s (after x r) rs)) y)
          → Block s at (r ∷ rs) x (x + length (first_row x r ++ nodes_from s (after x r) rs)) y
      go (inl t) f = let e = end_is in first_block x r rs h (x + length (first_row x r ++ nodes_from s (after x r) rs)) y a (ltb→lt y (after x r) t) (omega arith)
      go (inr t) f =
          let e = end_is in
          later_block x r rs (x + length (first_row x r ++ nodes_from s (after x r) rs)) y
          (subst (λ (n : ℕ). Block s at rs (after x r) n y) end_is (f (nltb→le y (after x r) t) (omega arith)))

  -- a node by its row
  block_node : {rs : List ℕ} {first end x : ℕ} (k : Block s at rs first end x) → at x ≡ node_in s k.b k.r (x - k.b)
  block_node {rs} {first} {end} {x} k =
      let a = k.behind in
      let u = k.upto in
      let e : x ≡ k.b + (x - k.b) = omega arith in
      ap at e ∙ k.node (x - k.b) (omega arith)

  -- a later node is of the same row or of a later one
  rises : (x : ℕ) (rs : List ℕ) → Holds x (nodes_from s x rs) → T (ascending ltb rs)
      → (y z : ℕ) → x ≤ y → y < z → z < x + length (nodes_from s x rs) → ((at y).first ≡ (at z).first) ⊎ ((at y).row < (at z).row)
  rises x [] h t y z a b d = absurd (omega arith)
  rises x (r ∷ rs) h t y z a b d =
      go (decide (ltb y (after x r))) (decide (ltb z (after x r))) (rises (after x r) rs (rest_holds x r rs h) (and_right (all (ltb r) rs) (ascending ltb rs) t) y z)
    where
      end_is : after x r + length (nodes_from s (after x r) rs) ≡ x + length (first_row x r ++ nodes_from s (after x r) rs)
      end_is = let e = all_length x r rs h in omega arith

      mine : (n : ℕ) → x ≤ n → T (ltb n (after x r)) → at n ≡ node_in s x r (n - x)
      mine n l u = let v = ltb→lt n (after x r) u in let e : n ≡ x + (n - x) = omega arith in ap at e ∙ first_node x r rs h (n - x) (omega arith)

      ahead : (y z : ℕ) {first end : ℕ} → (at y).row ≡ r → Block s at rs first end z → (at y).row < (at z).row
      ahead y z p k =
          let q : (at z).row ≡ k.r = ap (λ (n : Node). n.row) (block_node k) in
          let l = ltb→lt r k.r (all_at (ltb r) rs (and_left (all (ltb r) rs) (ascending ltb rs) t) k.is_row) in
          omega arith

      go : T (ltb y (after x r)) ⊎ T (not (ltb y (after x r))) → T (ltb z (after x r)) ⊎ T (not (ltb z (after x r)))
          → (after x r ≤ y → y < z → z < after x r + length (nodes_from s (after x r) rs) → ((at y).first ≡ (at z).first) ⊎ ((at y).row < (at z).row))
          → ((at y).first ≡ (at z).first) ⊎ ((at y).row < (at z).row)
      go (inl u) (inl v) f = inl (ap (λ (n : Node). n.first) (mine y a u) ∙ sym (ap (λ (n : Node). n.first) (mine z (omega arith) v)))
      go (inl u) (inr v) f =
          let e = end_is in
          inr (ahead y z (ap (λ (n : Node). n.row) (mine y a u)) (blocks (after x r) rs (rest_holds x r rs h) z (nltb→le z (after x r) v) (omega arith)))
      go (inr u) v f = let e = end_is in f (nltb→le y (after x r) u) b (omega arith)

  -- each row has a first node
  first_of : (x : ℕ) (rs : List ℕ) → Holds x (nodes_from s x rs) → {r : ℕ} → Memᴰ r rs
      → (y : ℕ) × (x ≤ y) × (y < x + length (nodes_from s x rs)) × ((at y).first ≡ y) × ((at y).row ≡ r)
  first_of x [] h m = absurd (Memᴰ.not-nil m)
  first_of x (q ∷ rs) h {r} m = go (Memᴰ.cases_cons m) (λ (k : Memᴰ r rs). first_of (after x q) rs (rest_holds x q rs h) k)
    where
      go : (r ≡ q) ⊎ Memᴰ r rs
          → (Memᴰ r rs → (y : ℕ) × (after x q ≤ y) × (y < after x q + length (nodes_from s (after x q) rs)) × ((at y).first ≡ y) × ((at y).row ≡ r))
          → (y : ℕ) × (x ≤ y) × (y < x + length (first_row x q ++ nodes_from s (after x q) rs)) × ((at y).first ≡ y) × ((at y).row ≡ r)
      go (inl e) f =
          let l = all_length x q rs h in
          let z : x ≡ x + 0 = omega arith in
          let n : at x ≡ node_in s x q 0 = ap at z ∙ first_node x q rs h 0 (omega arith) in
          (x, omega arith, omega arith, ap (λ (i : Node). i.first) n, ap (λ (i : Node). i.row) n ∙ sym e)
      go (inr k) f =
          let l = all_length x q rs h in
          let g = f k in
          let a = g.1 in
          let b = g.2 in
          (g.0, omega arith, omega arith, g.3, g.4)

-- ---- the matrix
pub record RowNode (s : System) (x : ℕ) : Type 0 where
  pub is_row : (matrix_of s).row x < length s.rows
  pub stocked : 0 < get_or s.copies (row_of s ((matrix_of s).row x)).kind 0
  pub first : columns s ≤ (matrix_of s).lo x
  pub behind : (matrix_of s).lo x ≤ x
  pub upto : x < (matrix_of s).hi x
  pub last : (matrix_of s).hi x ≤ (matrix_of s).nodes
  pub size : (matrix_of s).hi x ≡ (matrix_of s).lo x + suc (length (cells_at s ((matrix_of s).row x)))
  pub kind : (matrix_of s).col ((matrix_of s).lo x) ≡ s.size + (row_of s ((matrix_of s).row x)).kind
  pub cell : (i : ℕ) → i < length (cells_at s ((matrix_of s).row x)) → (matrix_of s).col ((matrix_of s).lo x + suc i) ≡ get_or (cells_at s ((matrix_of s).row x)) i 0
  pub same : (y : ℕ) → (matrix_of s).lo x ≤ y → y < (matrix_of s).hi x → ((matrix_of s).lo y ≡ (matrix_of s).lo x) × ((matrix_of s).hi y ≡ (matrix_of s).hi x) × ((matrix_of s).row y ≡ (matrix_of s).row x)

module _ (s : System) where
  abbrev node_at : ℕ → Node
  node_at x = get_or (link_nodes s) x no_node

  col_is : (x : ℕ) → (matrix_of s).col x ≡ (node_at x).column
  unfolding matrix_of
  col_is x = ListN.get_or-map (λ (n : Node). n.column) (link_nodes s) x no_node

  lo_is : (x : ℕ) → (matrix_of s).lo x ≡ (node_at x).first
  unfolding matrix_of
  lo_is x = ListN.get_or-map (λ (n : Node). n.first) (link_nodes s) x no_node

  hi_is : (x : ℕ) → (matrix_of s).hi x ≡ (node_at x).end
  unfolding matrix_of
  hi_is x = ListN.get_or-map (λ (n : Node). n.end) (link_nodes s) x no_node

  row_is : (x : ℕ) → (matrix_of s).row x ≡ (node_at x).row
  unfolding matrix_of
  row_is x = ListN.get_or-map (λ (n : Node). n.row) (link_nodes s) x no_node

  heads_length : length (head_nodes (columns s)) ≡ columns s
  unfolding head_nodes
  heads_length = length-map (below (columns s)) (λ j. record { column = j; first = j; end = suc j; row = 0 }) ∙ length_below (columns s)

  abbrev body : List Node
  body = nodes_from s (columns s) (stocked_rows s)

  pub nodes_are : (matrix_of s).nodes ≡ columns s + length body
  unfolding matrix_of link_nodes
  nodes_are = let a = length-append (head_nodes (columns s)) body in let b = heads_length in omega arith

  pub cols_are : (matrix_of s).cols ≡ columns s
  unfolding matrix_of
  cols_are = refl

  head_col : (x : ℕ) → x < columns s → (matrix_of s).col x ≡ x
  unfolding link_nodes head_nodes
  head_col x h =
      let l = heads_length in
      let b = length_below (columns s) in
      let e : get_or (below (columns s)) x 0 ≡ 0 + x = get_or_number 0 (columns s) x 0 h in
      col_is x ∙ ap (λ (n : Node). n.column) (get_or-append (head_nodes (columns s)) body no_node x (omega arith)
      ∙ get_or_map 0 no_node (λ j. record { column = j; first = j; end = suc j; row = 0 }) (below (columns s)) x (omega arith))
      ∙ (let z : get_or (below (columns s)) x 0 ≡ x = omega arith in z)

  body_holds : Holds s node_at (columns s) body
  unfolding link_nodes
  body_holds i h =
      ap (λ (n : ℕ). get_or (head_nodes (columns s) ++ body) (n + i) no_node) (sym heads_length) ∙ get_or-append-add (head_nodes (columns s)) body i no_node

  stocked_at : {r : ℕ} → Memᴰ r (stocked_rows s) → (r < length s.rows) × (0 < get_or s.copies (row_of s r).kind 0)
  unfolding stocked_rows
  stocked_at {r} m =
      let k = keep_at (λ z. ltb 0 (get_or s.copies (row_of s z).kind 0)) (below (length s.rows)) m in
      (below_at (length s.rows) k.0, ltb→lt 0 (get_or s.copies (row_of s r).kind 0) k.1)

  stocked_up : T (ascending ltb (stocked_rows s))
  unfolding stocked_rows
  stocked_up = keep_ascending ltb (λ z. ltb 0 (get_or s.copies (row_of s z).kind 0)) (below (length s.rows)) (from_ascending 0 (length s.rows))

  -- what a node says, by the block that it stands in
  module _ (x : ℕ) (r b : ℕ) (m : Memᴰ r (stocked_rows s)) (low : columns s ≤ b) (behind : b ≤ x) (upto : x < b + suc (length (cells_at s r)))
      (high : b + suc (length (cells_at s r)) ≤ columns s + length body) (node : (k : ℕ) → k < suc (length (cells_at s r)) → node_at (b + k) ≡ node_in s b r k) where
    in_block : (y : ℕ) → b ≤ y → y < b + suc (length (cells_at s r)) → node_at y ≡ node_in s b r (y - b)
    in_block y u v = let e : y ≡ b + (y - b) = omega arith in ap node_at e ∙ node (y - b) (omega arith)

    lo_y : (y : ℕ) → b ≤ y → y < b + suc (length (cells_at s r)) → (matrix_of s).lo y ≡ b
    lo_y y u v = lo_is y ∙ ap (λ (n : Node). n.first) (in_block y u v)

    hi_y : (y : ℕ) → b ≤ y → y < b + suc (length (cells_at s r)) → (matrix_of s).hi y ≡ b + suc (length (cells_at s r))
    hi_y y u v = hi_is y ∙ ap (λ (n : Node). n.end) (in_block y u v)

    row_y : (y : ℕ) → b ≤ y → y < b + suc (length (cells_at s r)) → (matrix_of s).row y ≡ r
    row_y y u v = row_is y ∙ ap (λ (n : Node). n.row) (in_block y u v)

    col_k : (k : ℕ) → k < suc (length (cells_at s r)) → (matrix_of s).col (b + k) ≡ get_or ((s.size + (row_of s r).kind) ∷ cells_at s r) k 0
    col_k k h = col_is (b + k) ∙ ap (λ (n : Node). n.column) (node k h)

    first_col : (matrix_of s).col b ≡ s.size + (row_of s r).kind
    first_col = let e : b ≡ b + 0 = omega arith in ap (matrix_of s).col e ∙ col_k 0 (omega arith)

    row_node : RowNode s x
    row_node =
        record {
          is_row = rw (row_y x behind upto) (stocked_at m).0;
          stocked = rw (row_y x behind upto) (stocked_at m).1;
          first = rw (lo_y x behind upto) low;
          behind = rw (lo_y x behind upto) behind;
          upto = rw (hi_y x behind upto) upto;
          last = rw (hi_y x behind upto, nodes_are) high;
          size = rw (hi_y x behind upto, lo_y x behind upto, row_y x behind upto);
          kind = rw (lo_y x behind upto, row_y x behind upto) first_col;
          cell = rw (lo_y x behind upto, row_y x behind upto) (λ i h. col_k (suc i) (omega arith));
          same = rw (lo_y x behind upto, hi_y x behind upto, row_y x behind upto) (λ y u v. (lo_y y u v, hi_y y u v, row_y y u v));
        }

  block_of : (x : ℕ) → columns s ≤ x → x < (matrix_of s).nodes → Block s node_at (stocked_rows s) (columns s) (columns s + length body) x
  block_of x a b = let e = nodes_are in blocks s node_at (columns s) (stocked_rows s) body_holds x a (omega arith)

  pub matrix_rows : (x : ℕ) → columns s ≤ x → x < (matrix_of s).nodes → RowNode s x
  matrix_rows x a b = let k = block_of x a b in row_node x k.r k.b k.is_row k.low k.behind k.upto k.high k.node

  -- a later node is of the same row or of a later one
  pub row_later : (x y : ℕ) → columns s ≤ x → x < y → y < (matrix_of s).nodes → ((matrix_of s).lo x ≡ (matrix_of s).lo y) ⊎ ((matrix_of s).row x < (matrix_of s).row y)
  row_later x y a h d = go (rises s node_at (columns s) (stocked_rows s) body_holds stocked_up x y a h (let e = nodes_are in omega arith))
    where
      go : ((node_at x).first ≡ (node_at y).first) ⊎ ((node_at x).row < (node_at y).row) → ((matrix_of s).lo x ≡ (matrix_of s).lo y) ⊎ ((matrix_of s).row x < (matrix_of s).row y)
      go (inl e) = inl (lo_is x ∙ e ∙ sym (lo_is y))
      go (inr l) = let f = row_is x in let g = row_is y in inr (omega arith)

  -- row numbers rise with nodes
  pub row_rises : (x y : ℕ) → columns s ≤ x → x < (matrix_of s).nodes → columns s ≤ y → y < (matrix_of s).nodes → (matrix_of s).lo x < (matrix_of s).lo y → (matrix_of s).row x < (matrix_of s).row y
  row_rises x y a b c d h = go (row_later x y a order d)
    where
      p : RowNode s x
      p = matrix_rows x a b

      q : RowNode s y
      q = matrix_rows y c d

      order : x < y
      order = go (decide (ltb x y))
        where
          go : T (ltb x y) ⊎ T (not (ltb x y)) → x < y
          go (inl t) = ltb→lt x y t
          go (inr t) =
              let l = nltb→le x y t in
              let u = q.behind in
              let v = p.upto in
              let w = p.behind in
              absurd (omega (arith, (p.same y (omega arith) (omega arith)).0))

      go : ((matrix_of s).lo x ≡ (matrix_of s).lo y) ⊎ ((matrix_of s).row x < (matrix_of s).row y) → (matrix_of s).row x < (matrix_of s).row y
      go (inl e) = absurd (omega arith)
      go (inr l) = l

  -- a row has one run of nodes
  pub same_row : (x y : ℕ) → columns s ≤ x → x < (matrix_of s).nodes → columns s ≤ y → y < (matrix_of s).nodes → (matrix_of s).row x ≡ (matrix_of s).row y → (matrix_of s).lo x ≡ (matrix_of s).lo y
  same_row x y a b c d e = go (decide (ltb ((matrix_of s).lo x) ((matrix_of s).lo y))) (decide (ltb ((matrix_of s).lo y) ((matrix_of s).lo x)))
    where
      go : T (ltb ((matrix_of s).lo x) ((matrix_of s).lo y)) ⊎ T (not (ltb ((matrix_of s).lo x) ((matrix_of s).lo y)))
          → T (ltb ((matrix_of s).lo y) ((matrix_of s).lo x)) ⊎ T (not (ltb ((matrix_of s).lo y) ((matrix_of s).lo x))) → (matrix_of s).lo x ≡ (matrix_of s).lo y
      go (inl t) u = absurd (let l = row_rises x y a b c d (ltb→lt ((matrix_of s).lo x) ((matrix_of s).lo y) t) in omega arith)
      go (inr t) (inl u) = absurd (let l = row_rises y x c d a b (ltb→lt ((matrix_of s).lo y) ((matrix_of s).lo x) u) in omega arith)
      go (inr t) (inr u) = let k = nltb→le ((matrix_of s).lo x) ((matrix_of s).lo y) t in let l = nltb→le ((matrix_of s).lo y) ((matrix_of s).lo x) u in omega arith

  -- a stocked row has its nodes
  pub node_of : (r : ℕ) → Memᴰ r (stocked_rows s) → (x : ℕ) × (columns s ≤ x) × (x < (matrix_of s).nodes) × ((matrix_of s).lo x ≡ x) × ((matrix_of s).row x ≡ r)
  node_of r m =
      let g = first_of s node_at (columns s) (stocked_rows s) body_holds m in
      let e = nodes_are in
      let b = g.2 in
      (g.0, g.1, omega arith, lo_is g.0 ∙ g.3, row_is g.0 ∙ g.4)

  pub in_stock : (r : ℕ) → r < length s.rows → 0 < get_or s.copies (row_of s r).kind 0 → Memᴰ r (stocked_rows s)
  unfolding stocked_rows
  in_stock r h k =
      keep_of (λ z. ltb 0 (get_or s.copies (row_of s z).kind 0)) (below (length s.rows)) (below_of (length s.rows) h) (lt→ltb 0 (get_or s.copies (row_of s r).kind 0) k)

module _ (s : System) (law : Lawful s) (x : ℕ) (a : columns s ≤ x) (b : x < (matrix_of s).nodes) where
  abbrev q : Placement
  q = row_of s ((matrix_of s).row x)

  node : RowNode s x
  node = matrix_rows s x a b

  pub row_lawful : LawfulRow s q
  row_lawful = law.row q (row_of_in s ((matrix_of s).row x) node.is_row)

  pub row_some : 0 < length q.cells
  row_some = some q.cells row_lawful.covers_p
    where
      some : (xs : List ℕ) {n : ℕ} → Memᴰ n xs → 0 < length xs
      some [] m = absurd (Memᴰ.not-nil m)
      some (y ∷ ys) m = omega arith

  node_cell : (y : ℕ) → (matrix_of s).lo x < y → y < (matrix_of s).hi x → (y - (matrix_of s).lo x - 1 < length q.cells) × ((matrix_of s).col y ≡ get_or q.cells (y - (matrix_of s).lo x - 1) 0)
  node_cell y g h =
      let z = node.size in
      let e : y ≡ (matrix_of s).lo x + suc (y - (matrix_of s).lo x - 1) = omega arith in
      let l : y - (matrix_of s).lo x - 1 < length q.cells = omega arith in
      (l, ap (matrix_of s).col e ∙ node.cell (y - (matrix_of s).lo x - 1) l)

  -- the nodes behind a row's first are its cells'
  pub cell_in : (y : ℕ) → (matrix_of s).lo x < y → y < (matrix_of s).hi x → Memᴰ ((matrix_of s).col y) q.cells
  cell_in y g h = let c = node_cell y g h in Memᴰ.cast c.1 (get_or_mem 0 q.cells (y - (matrix_of s).lo x - 1) c.0)

  pub cell-of : {n : ℕ} → Memᴰ n q.cells → (y : ℕ) × ((matrix_of s).lo x < y) × (y < (matrix_of s).hi x) × ((matrix_of s).col y ≡ n)
  cell-of m =
      let r = mem_get_or 0 q.cells m in
      let h = r.1 in
      let z = node.size in
      ((matrix_of s).lo x + suc r.0, omega arith, omega arith, node.cell r.0 h ∙ r.2)

  pub cell_small : (y : ℕ) → (matrix_of s).lo x < y → y < (matrix_of s).hi x → (matrix_of s).col y < s.size
  cell_small y g h = row_lawful.on_board ((matrix_of s).col y) (cell_in y g h)

  -- no column twice
  cells_differ : (y z : ℕ) → (matrix_of s).lo x < y → y < z → z < (matrix_of s).hi x → (matrix_of s).col y < (matrix_of s).col z
  cells_differ y z g h k =
      let c = node_cell y g (omega arith) in
      let d = node_cell z (omega arith) k in
      let l = d.0 in
      let e = c.1 in
      let f = d.1 in
      let i = get_or_ahead 0 ltb q.cells row_lawful.ascend (y - (matrix_of s).lo x - 1) (z - (matrix_of s).lo x - 1) (omega arith) l in
      let j = ltb→lt (get_or q.cells (y - (matrix_of s).lo x - 1) 0) (get_or q.cells (z - (matrix_of s).lo x - 1) 0) i in
      omega arith

  later_differ : (y z : ℕ) → (matrix_of s).lo x ≤ y → y < z → z < (matrix_of s).hi x → (matrix_of s).col y ≡ (matrix_of s).col z → ⊥
  later_differ y z g h k e = go (decide (ltb ((matrix_of s).lo x) y))
    where
      go : T (ltb ((matrix_of s).lo x) y) ⊎ T (not (ltb ((matrix_of s).lo x) y)) → ⊥
      go (inl t) = let l = cells_differ y z (ltb→lt ((matrix_of s).lo x) y t) h k in omega arith
      go (inr t) =
          let i = nltb→le ((matrix_of s).lo x) y t in
          let j : y ≡ (matrix_of s).lo x = omega arith in
          let u : (matrix_of s).col y ≡ s.size + q.kind = ap (matrix_of s).col j ∙ node.kind in
          let v = cell_small z (omega arith) k in
          omega arith

  pub column_once : (y z : ℕ) → (matrix_of s).lo x ≤ y → y < (matrix_of s).hi x → (matrix_of s).lo x ≤ z → z < (matrix_of s).hi x → (matrix_of s).col y ≡ (matrix_of s).col z → y ≡ z
  column_once y z g h k l e = go (decide (ltb y z)) (decide (ltb z y))
    where
      go : T (ltb y z) ⊎ T (not (ltb y z)) → T (ltb z y) ⊎ T (not (ltb z y)) → y ≡ z
      go (inl t) u = absurd (later_differ y z g (ltb→lt y z t) l e)
      go (inr t) (inl u) = absurd (later_differ z y k (ltb→lt z y u) h (sym e))
      go (inr t) (inr u) = let i = nltb→le y z t in let j = nltb→le z y u in omega arith

module _ (s : System) (law : Lawful s) where
  col_small : (x : ℕ) → columns s ≤ x → x < (matrix_of s).nodes → (matrix_of s).col x < columns s
  unfolding columns
  col_small x a b = go (decide (ltb ((matrix_of s).lo x) x))
    where
      p : RowNode s x
      p = matrix_rows s x a b

      go : T (ltb ((matrix_of s).lo x) x) ⊎ T (not (ltb ((matrix_of s).lo x) x)) → (matrix_of s).col x < s.size + length s.copies
      go (inl t) = let c = cell_small s law x a b x (ltb→lt ((matrix_of s).lo x) x t) p.upto in omega arith
      go (inr t) =
          let l = nltb→le ((matrix_of s).lo x) x t in
          let k = p.behind in
          let e : x ≡ (matrix_of s).lo x = omega arith in
          let u : (matrix_of s).col x ≡ s.size + (row_of s ((matrix_of s).row x)).kind = ap (matrix_of s).col e ∙ p.kind in
          let v = (row_lawful s law x a b).of_kind in
          omega arith

  pub matrix_lawful : length (link_nodes s) ≤ 4096 → LawfulMatrix (matrix_of s)
  unfolding matrix_of
  matrix_lawful fits =
      record {
        small = fits;
        some = let e = nodes_are s in omega arith;
        head = head_col s;
        inside = col_small;
        low = λ x a b. let p = matrix_rows s x a b in (p.first, p.behind);
        high = λ x a b. let p = matrix_rows s x a b in (p.upto, p.last);
        row = λ x y a b u v. let p = (matrix_rows s x a b).same y u v in (p.0, p.1);
        once = λ x y a b u v e. let p = matrix_rows s x a b in column_once s law x a b y x u v p.behind p.upto e;
      }

  pub matrix_shape : Shape (matrix_of s) s.size
  unfolding matrix_of columns
  matrix_shape =
      record {
        few = omega arith;
        kind = λ x a b. let p = (matrix_rows s x a b).kind in omega arith;
        cell = λ x y a b u v. cell_small s law x a b y u v;
        size = λ x a b. let p = (matrix_rows s x a b).size in let k = row_some s law x a b in omega arith;
      }
