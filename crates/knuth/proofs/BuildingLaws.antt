-- The links of a row system as they are built: the nodes of the rows one after the other, and what `link_all` asks of them. Assumes nothing.
use Prim.Native.Nat.{ℕ, suc, ◌+◌, ◌-◌, ◌≤◌, ◌<◌}
use mathlib.Core.Bool.{Bool, true, false, not}
use mathlib.Core.List.{List, [], ◌∷◌, ◌++◌, append-nil, append_assoc}
use mathlib.Core.Logic.{◌⊎◌, inl, inr}
use mathlib.Core.Path.{◌≡◌, refl, sym, ap, ◌∙◌, subst}
use native.Mathlib.Omega.{arith}
use borrow.Author.Tests.{lt-ltb, le-ltb}
use lib.Dec.{T, ltb, ltb→lt, nltb→le}
use lib.ListN
use lib.ListN.{length, get_or, length-append, length-map}
use Rattle.lists.specs.Lists.{keep, how_many, below, from}
use Rattle.lists.proofs.TestLaws.{decide}
use Rattle.lists.proofs.ListLaws.{keep_append, get_or_map}
use Rattle.lists.proofs.RangeLaws.{keep_below, length_from, below_split, get_or_number}
use Rattle.lists.proofs.CountLaws.{at_most_sum, how_many_length}
use Rattle.definitions.specs.Placements.{Placement}
use Rattle.masks.specs.Masks.{has}
use Rattle.rows.specs.Charts.{kind_copies}
use Rattle.rows.specs.declared.Dims.{Dims}
use Rattle.rows.specs.Rows.{cells_of, mask_at, row_at}
use Rattle.rows.specs.Systems.{System, system_in, system_over}
use Rattle.rows.specs.Lawful.{Lawful}
use Rattle.kept.specs.Normal.{row_of}
use Rattle.rows.specs.Ready.{Ready}
use Rattle.kept.proofs.NormalFormLaws.{copies_at}
use Rattle.links.specs.Links.{copies_of, at_column, at_first, at_end, at_copies, at_row, Matrix, LawfulMatrix}
use Rattle.links.specs.Search.{Shape, Seek}
use Rattle.links.specs.Build.{Posed, Stocked, Written, whole, every_column}
use Rattle.knuth.specs.declared.node.Node.{Node}
use Rattle.knuth.specs.Matrix.{node_at, nodes_in, head_nodes, row_nodes, nodes_from, stocked_rows, columns, link_nodes, matrix_of, Laid, StockLaid}
use Rattle.knuth.specs.Listing.{Begun}
use Rattle.knuth.proofs.LaidLaws.{keep_hit, keep_miss, heads_length, same_node, same_nodes, beside_copies, laid_more, laid_none}
use Rattle.knuth.proofs.MatrixLaws.{no_node, matrix_lawful, matrix_shape, matrix_rows, row_lawful}
use Rattle.rows.proofs.ReadyLaws.{few-cells, few-kinds, row_kind, kinds_many, rows_many, row_in}
use Rattle.kept.proofs.ReadyLaws.{row_is}
use Rattle.rows.specs.declared.chart.Chart.{Chart}

-- ---- the nodes of rows
pub row_length : (size x r kind : ℕ) (cells : List ℕ) → length (row_nodes size x r kind cells) ≡ suc (length cells)
unfolding row_nodes
row_length size x r kind cells = ap suc (length-map cells (λ c. record { column = c; first = x; end = x + suc (length cells); row = r }))

module _ (s : System) where
  abbrev row_at_node : ℕ → ℕ → List Node
  row_at_node x r = row_nodes s.size x r (row_of s r).kind (row_of s r).cells

  nodes_behind : (x : ℕ) (rs ts : List ℕ) → nodes_from s x (rs ++ ts) ≡ nodes_from s x rs ++ nodes_from s (x + length (nodes_from s x rs)) ts
  nodes_behind x [] ts = let e : x ≡ x + 0 = omega arith in ap (λ (z : ℕ). nodes_from s z ts) e
  nodes_behind x (r ∷ rs) ts = go (x + suc (length (row_of s r).cells)) refl (nodes_behind (x + suc (length (row_of s r).cells)) rs ts)
    where
      go : (y : ℕ) → x + suc (length (row_of s r).cells) ≡ y → nodes_from s y (rs ++ ts) ≡ nodes_from s y rs ++ nodes_from s (y + length (nodes_from s y rs)) ts
          → row_at_node x r ++ nodes_from s y (rs ++ ts) ≡ (row_at_node x r ++ nodes_from s y rs) ++ nodes_from s (x + length (row_at_node x r ++ nodes_from s y rs)) ts
      go y d e =
          let a = length-append (row_at_node x r) (nodes_from s y rs) in
          let b = row_length s.size x r (row_of s r).kind (row_of s r).cells in
          let z : y + length (nodes_from s y rs) ≡ x + length (row_at_node x r ++ nodes_from s y rs) = omega arith in
          ap (λ (l : List Node). row_at_node x r ++ l) (e ∙ ap (λ (k : ℕ). nodes_from s y rs ++ nodes_from s k ts) z)
          ∙ sym (append_assoc (row_at_node x r) (nodes_from s y rs) (nodes_from s (x + length (row_at_node x r ++ nodes_from s y rs)) ts))

  abbrev pub has_stock : ℕ → Bool
  has_stock r = ltb 0 (get_or s.copies (row_of s r).kind 0)

  -- the nodes of the rows below r
  abbrev pub nodes_to : ℕ → List Node
  nodes_to r = nodes_from s (columns s) (keep has_stock (below r))

  abbrev pub end_to : ℕ → ℕ
  end_to r = columns s + length (nodes_to r)

  pub to_hit : (r : ℕ) → has_stock r ≡ true → nodes_to (r + 1) ≡ nodes_to r ++ row_at_node (end_to r) r
  to_hit r e =
      ap (nodes_from s (columns s)) (keep_hit has_stock r e) ∙ nodes_behind (columns s) (keep has_stock (below r)) (r ∷ [])
      ∙ ap (λ (l : List Node). nodes_to r ++ l) (append-nil (row_at_node (end_to r) r))

  pub to_miss : (r : ℕ) → has_stock r ≡ false → nodes_to (r + 1) ≡ nodes_to r
  to_miss r e = ap (nodes_from s (columns s)) (keep_miss has_stock r e)

  pub to_all : (r : ℕ) → r ≡ length s.rows → nodes_to r ≡ nodes_from s (columns s) (stocked_rows s)
  unfolding stocked_rows
  to_all r e = ap nodes_to e

  to_more : (r n : ℕ) → r ≤ n → length (nodes_to r) ≤ length (nodes_to n)
  to_more r n h =
      let e = ap length (ap (nodes_from s (columns s)) (ap (keep has_stock) (below_split r n h) ∙ keep_append has_stock (below r) (from r (n - r)))
      ∙ nodes_behind (columns s) (keep has_stock (below r)) (keep has_stock (from r (n - r)))) in
      let l = length-append (nodes_to r) (nodes_from s (end_to r) (keep has_stock (from r (n - r)))) in
      omega arith

  pub links-length : length (link_nodes s) ≡ columns s + length (nodes_from s (columns s) (stocked_rows s))
  unfolding link_nodes
  links-length =
      let a = length-append (head_nodes (columns s)) (nodes_from s (columns s) (stocked_rows s)) in
      let b = heads_length (columns s) in
      omega arith

  pub to_room : (r : ℕ) → r ≤ length s.rows → end_to r ≤ length (link_nodes s)
  to_room r h =
      let a = links-length in
      let b = to_more r (length s.rows) h in
      let c = ap length (to_all (length s.rows) refl) in
      omega arith

-- ---- the rows as they stand in slices
module _ (d : Dims) (work : List ℕ) (chart : Chart) where
  abbrev S : System
  S = system_in d work chart

  pub columns_are : columns S ≡ d.size + d.kinds
  unfolding columns system_in system_over
  columns_are = let e = kinds_many d work chart in omega arith

  module _ (ready : Ready d work chart) (r : ℕ) (h : r < d.rows) where
    abbrev in_mask : ℕ → Bool
    in_mask = has (mask_at work r)

    kind_is : (row_of S r).kind ≡ (row_at work r).kind
    kind_is = ap (λ (q : Placement). q.kind) (row_is d work chart r h)

    cells_are : (row_of S r).cells ≡ keep in_mask (below d.size)
    unfolding system_in system_over row_at cells_of
    cells_are =
        ap (λ (q : Placement). q.cells) (row_is d work chart r h)
        ∙ keep_below in_mask d.size 128 (few-cells d work chart ready.lawful)
        (λ c m. (ready.lawful.row (row_at work r) (row_in d work chart r h)).on_board c m)

    stock_is : kind_copies chart.kinds (row_at work r).kind ≡ get_or S.copies (row_of S r).kind 0
    stock_is =
        copies_at d work chart (row_at work r).kind (row_kind d work chart ready.lawful r h)
        ∙ ap (λ (k : ℕ). get_or S.copies k 0) (sym kind_is)

    module _ (kind : ℕ) (k-is : kind ≡ (row_at work r).kind) where
      stock_at : kind_copies chart.kinds kind ≡ get_or S.copies (row_of S r).kind 0
      stock_at = ap (λ (k : ℕ). kind_copies chart.kinds k) k-is ∙ stock_is

      pub stocked_yes : 0 < kind_copies chart.kinds kind → has_stock S r ≡ true
      stocked_yes l = let e = stock_at in lt-ltb 0 (get_or S.copies (row_of S r).kind 0) (omega arith)

      pub stocked_no : kind_copies chart.kinds kind ≤ 0 → has_stock S r ≡ false
      stocked_no l = let e = stock_at in le-ltb 0 (get_or S.copies (row_of S r).kind 0) (omega arith)

    node_list : (x : ℕ) → row_at_node S x r ≡ row_nodes d.size x r (row_at work r).kind (keep in_mask (below d.size))
    unfolding system_in system_over
    node_list x = ap (λ (k : ℕ). row_nodes d.size x r k (row_of S r).cells) kind_is ∙ ap (row_nodes d.size x r (row_at work r).kind) cells_are

    module _ (yes : has_stock S r ≡ true) where
      end_next : end_to S (r + 1) ≡ end_to S r + suc (how_many in_mask (below d.size))
      end_next =
          let a = ap length (to_hit S r yes) in
          let b = length-append (nodes_to S r) (row_at_node S (end_to S r) r) in
          let c = row_length S.size (end_to S r) r (row_of S r).kind (row_of S r).cells in
          let e = ap length cells_are in
          let f = how_many_length in_mask (below d.size) in
          omega arith

      module _ (x : ℕ) (is : x ≡ end_to S r) (fits : length (link_nodes S) ≤ 4096) where
        pub row_room : x + suc (how_many in_mask (below d.size)) ≤ 4096
        row_room =
            let a = end_next in
            let b = to_room S (r + 1) (let e = rows_many d work chart in omega arith) in
            omega arith

        pub row_end : (y : ℕ) → y ≡ x + suc (how_many in_mask (below d.size)) → y ≡ end_to S (r + 1)
        row_end y e = let a = end_next in omega arith

        pub row_more : (a b c : List ℕ) → Laid a (columns S) b (nodes_to S r) → Laid b x c (row_nodes d.size x r (row_at work r).kind (keep in_mask (below d.size)))
            → Laid a (columns S) c (nodes_to S (r + 1))
        row_more a b c p q =
            subst (Laid a (columns S) c) (sym (to_hit S r yes))
            (laid_more a b c (columns S) x (nodes_to S r) (row_at_node S (end_to S r) r) is p
            (subst (Laid b x c) (sym (node_list x) ∙ ap (λ (z : ℕ). row_at_node S z r) is) q))

    module _ (none : has_stock S r ≡ false) where
      pub skip_end : (x : ℕ) → x ≡ end_to S r → x ≡ end_to S (r + 1)
      skip_end x e = e ∙ ap (λ (l : List Node). columns S + length l) (sym (to_miss S r none))

      pub skip_more : (a b : List ℕ) → Laid a (columns S) b (nodes_to S r) → Laid a (columns S) b (nodes_to S (r + 1))
      skip_more a b p = subst (Laid a (columns S) b) (sym (to_miss S r none)) p

  -- all rows
  pub rows_end : (r x : ℕ) → r ≡ d.rows → x ≡ end_to S r → x ≡ length (link_nodes S)
  rows_end r x e f =
      let a = links-length S in
      let b = ap length (to_all S r (let g = rows_many d work chart in omega arith)) in
      omega arith

  pub rows_laid : (r : ℕ) (a b : List ℕ) → r ≡ d.rows → Laid a (columns S) b (nodes_to S r) → Laid a (columns S) b (nodes_from S (columns S) (stocked_rows S))
  rows_laid r a b e p = subst (Laid a (columns S) b) (to_all S r (let g = rows_many d work chart in omega arith)) p

  pub rows_none : (m : List ℕ) (x : ℕ) → x ≡ d.size + d.kinds → (x ≡ end_to S 0) × Laid m (columns S) m (nodes_to S 0)
  rows_none m x e = (let c = columns_are in omega arith, laid_none m (columns S))

  -- ---- what `link_all` asks, and what it makes
  module _ (ready : Ready d work chart) (fits : length (link_nodes S) ≤ 4096) (m0 m1 m2 m3 : List ℕ)
      (one : Laid m0 0 m1 (head_nodes (d.size + d.kinds))) (two : StockLaid m1 m2 d.size d.kinds chart)
      (three : Laid m2 (columns S) m3 (nodes_from S (columns S) (stocked_rows S))) where
    law : Lawful S
    law = ready.lawful

    few : d.size + d.kinds ≤ 144
    few = let a = few-cells d work chart ready.lawful in let b = few-kinds d work chart ready.lawful in omega arith

    heads_stay : nodes_in m2 0 (columns S) ≡ head_nodes (columns S)
    heads_stay =
        let l = few in
        same_nodes m1 m2 0 (columns S)
        (λ y g h.
        let e = columns_are in
        same_node m1 m2 y (two.others (at_column y) (λ j k e. omega arith)) (two.others (at_first y) (λ j k e. omega arith)) (two.others (at_end y) (λ j k e. omega arith))
        (two.others (at_row y) (λ j k e. omega arith)))
        ∙ subst (λ (n : ℕ). nodes_in m1 0 n ≡ head_nodes n) (sym columns_are)
        (ap (nodes_in m1 0) (sym (heads_length (d.size + d.kinds))) ∙ one.nodes)

    heads_laid : Laid m2 0 m2 (head_nodes (columns S))
    heads_laid =
        record {
          nodes = ap (nodes_in m2 0) (heads_length (columns S)) ∙ heads_stay;
          others = λ i s. refl;
        }

    all_laid : Laid m2 0 m3 (link_nodes S)
    unfolding link_nodes
    all_laid =
        let a = heads_length (columns S) in
        let b = few in
        let c = columns_are in
        laid_more m2 m2 m3 0 (columns S) (head_nodes (columns S)) (nodes_from S (columns S) (stocked_rows S)) (omega arith) heads_laid three

    node_is : (x : ℕ) → x < length (link_nodes S) → node_at m3 x ≡ get_or (link_nodes S) x no_node
    unfolding nodes_in
    node_is x h =
        let a = length_from 0 (length (link_nodes S)) in
        let e : x ≡ get_or (from 0 (length (link_nodes S))) x 0 = let b = get_or_number 0 (length (link_nodes S)) x 0 h in omega arith in
        ap (node_at m3) e ∙ sym (get_or_map 0 no_node (node_at m3) (from 0 (length (link_nodes S))) x (omega arith))
        ∙ ap (λ (l : List Node). get_or l x no_node) all_laid.nodes

    written : Written (matrix_of S) m3
    unfolding matrix_of node_at
    written =
        record {
          col = λ x h. ap (λ (n : Node). n.column) (node_is x h) ∙ sym (ListN.get_or-map (λ (n : Node). n.column) (link_nodes S) x no_node);
          lo = λ x h. ap (λ (n : Node). n.first) (node_is x h) ∙ sym (ListN.get_or-map (λ (n : Node). n.first) (link_nodes S) x no_node);
          hi = λ x h. ap (λ (n : Node). n.end) (node_is x h) ∙ sym (ListN.get_or-map (λ (n : Node). n.end) (link_nodes S) x no_node);
          row = λ x h. ap (λ (n : Node). n.row) (node_is x h) ∙ sym (ListN.get_or-map (λ (n : Node). n.row) (link_nodes S) x no_node);
        }

    copy_cell : (j : ℕ) → j < d.size → copies_of m3 j ≡ 0
    copy_cell j h = three.others (at_copies j) (beside_copies _ _ j) ∙ two.cells j h

    copy_kind : (k : ℕ) → k < d.kinds → copies_of m3 (d.size + k) ≡ get_or S.copies k 0
    copy_kind k h =
        three.others (at_copies (d.size + k)) (beside_copies _ _ (d.size + k)) ∙ two.copies k h ∙ copies_at d work chart k h

    few-copies : (j : ℕ) → j < columns S → copies_of m3 j < 4096
    few-copies j h = go (decide (ltb j d.size))
      where
        go : T (ltb j d.size) ⊎ T (not (ltb j d.size)) → copies_of m3 j < 4096
        go (inl t) = let e = copy_cell j (ltb→lt j d.size t) in omega arith
        go (inr t) =
            let l = nltb→le j d.size t in
            let c = columns_are in
            let e : d.size + (j - d.size) ≡ j = omega arith in
            let a = at_most_sum S.copies (j - d.size) in
            let b = law.few_copies in
            let f = ap (copies_of m3) e in
            omega (arith, copy_kind (j - d.size) (omega arith))

    some_copies : (x : ℕ) → columns S ≤ x → x < (matrix_of S).nodes → 1 ≤ copies_of m3 ((matrix_of S).col ((matrix_of S).lo x))
    unfolding system_in system_over
    some_copies x g h =
        let n = matrix_rows S x g h in
        let a = n.stocked in
        let b = (row_lawful S law x g h).of_kind in
        let e = kinds_many d work chart in
        let f = ap (copies_of m3) n.kind in
        omega (arith, copy_kind (row_of S ((matrix_of S).row x)).kind (omega arith))

    stocked : Stocked (matrix_of S) m3
    unfolding matrix_of
    stocked = record { few = few-copies; some = some_copies }

    shape : Shape (matrix_of S) d.size
    unfolding system_in system_over
    shape = matrix_shape S law

    module _ (nodes : ℕ) (n_is : nodes ≡ length (link_nodes S)) where
      pub posed : Posed m3 d.size (d.size + d.kinds) nodes
      unfolding matrix_of
      posed =
          record {
            stored = record { t = matrix_of S; law = matrix_lawful S law fits; written = written; c_is = sym columns_are; n_is = n_is };
            shape = shape;
            stocked = stocked;
          }

      pub begun : (m4 : List ℕ)
          → ((t : Matrix) (l : LawfulMatrix t) → Written t m3 → Shape t d.size → Stocked t m3 → d.size + d.kinds ≡ t.cols → nodes ≡ t.nodes
          → Seek (whole t l) every_column (copies_of m3) d.size d.size m4)
          → Begun S m4
      unfolding matrix_of system_in system_over
      begun m4 f =
          record {
            law = matrix_lawful S law fits;
            copies = copies_of m3;
            seek = f (matrix_of S) (matrix_lawful S law fits) written shape stocked (sym columns_are) n_is;
            stock = λ k h. copy_kind k (let e = kinds_many d work chart in omega arith);
          }
