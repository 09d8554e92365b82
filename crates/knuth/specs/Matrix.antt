-- The links of a row system as a matrix of nodes.
use Rattle.std.specs.Prelude.{ℕ, suc, ◌+◌, ◌≤◌, ◌<◌, List, [], ◌∷◌, ◌++◌, map, ◌≡◌, ltb, length, get_or}
use Rattle.lists.specs.Lists.{keep, below, from}
use Rattle.rows.specs.Charts.{kind_copies}
use Rattle.rows.specs.Systems.{System}
use Rattle.kept.specs.Normal.{row_of}
use Rattle.knuth.specs.declared.node.Node.{Node}
use Rattle.links.specs.Links.{column_of, first_of, end_of, copies_of, row_number, at_column, at_first, at_end, at_copies, at_row, Matrix}
use Rattle.rows.specs.declared.chart.Chart.{Chart}

-- the heads of columns: cells, then kinds
unfoldable pub head_nodes : ℕ → List Node
head_nodes n = map (λ j. record { column = j; first = j; end = suc j; row = 0 }) (below n)

-- the nodes of row r from node x on: one for its kind, one for each cell
unfoldable pub row_nodes : ℕ → ℕ → ℕ → ℕ → List ℕ → List Node
row_nodes size x r kind cells = map (λ c. record { column = c; first = x; end = x + suc (length cells); row = r }) ((size + kind) ∷ cells)

abbrev pub nodes_from : System → ℕ → List ℕ → List Node
nodes_from s x [] = []
nodes_from s x (r ∷ rs) = row_nodes s.size x r (row_of s r).kind (row_of s r).cells ++ nodes_from s (x + suc (length (row_of s r).cells)) rs

-- the rows of kinds that have copies; the columns; all nodes
unfoldable pub stocked_rows : System → List ℕ
stocked_rows s = keep (λ r. ltb 0 (get_or s.copies (row_of s r).kind 0)) (below (length s.rows))

unfoldable pub columns : System → ℕ
columns s = s.size + length s.copies

unfoldable pub link_nodes : System → List Node
link_nodes s = head_nodes (columns s) ++ nodes_from s (columns s) (stocked_rows s)

unfoldable pub matrix_of : System → Matrix
matrix_of s =
    let ns = link_nodes s in
    record {
      nodes = length ns;
      cols = columns s;
      col = λ x. get_or (map (λ n. n.column) ns) x 0;
      lo = λ x. get_or (map (λ n. n.first) ns) x 0;
      hi = λ x. get_or (map (λ n. n.end) ns) x 0;
      row = λ x. get_or (map (λ n. n.row) ns) x 0;
    }

-- ---- nodes in links
unfoldable pub node_at : List ℕ → ℕ → Node
node_at links x = record { column = column_of links x; first = first_of links x; end = end_of links x; row = row_number links x }

unfoldable pub nodes_in : List ℕ → ℕ → ℕ → List Node
nodes_in links x n = map (node_at links) (from x n)

-- none of these fields of the n nodes from x on stands at i
pub record Beside (x n i : ℕ) : Type 0 where
  pub column : (y : ℕ) → x ≤ y → y < x + n → i ≡ at_column y → ⊥
  pub first : (y : ℕ) → x ≤ y → y < x + n → i ≡ at_first y → ⊥
  pub end : (y : ℕ) → x ≤ y → y < x + n → i ≡ at_end y → ⊥
  pub row : (y : ℕ) → x ≤ y → y < x + n → i ≡ at_row y → ⊥

-- nodes laid from node x on; every number that is no field of theirs is as it was
pub record Laid (old : List ℕ) (x : ℕ) (new : List ℕ) (ns : List Node) : Type 0 where
  pub nodes : nodes_in new x (length ns) ≡ ns
  pub others : (i : ℕ) → Beside x (length ns) i → get_or new i 0 ≡ get_or old i 0

-- the copies of kinds, by their columns; none for the columns of cells; every other number is as it was
pub record StockLaid (old new : List ℕ) (size n : ℕ) (chart : Chart) : Type 0 where
  pub cells : (j : ℕ) → j < size → copies_of new j ≡ 0
  pub copies : (k : ℕ) → k < n → copies_of new (size + k) ≡ kind_copies chart.kinds k
  pub others : (i : ℕ) → ((j : ℕ) → j < size + n → i ≡ at_copies j → ⊥) → get_or new i 0 ≡ get_or old i 0
