-- Linking a matrix's nodes: the heads, each alone in its ring, then each node of a row as the last of its column.
use Rattle.std.specs.Prelude.{ℕ, ◌≤◌, ◌<◌, ◌≡◌, List, Bool, true, false, cond, set, ltb, leb}
use Rattle.links.specs.Links.{up, down, column_of, first_of, end_of, row_number, size_of, copies_of, at_up, at_down, at_size}
use Rattle.links.specs.Links.{Matrix, LawfulMatrix, Fields, Rings}
use Rattle.links.specs.Cover.{tally, inc, here, Reduced}
use Rattle.links.specs.Search.{Shape}

abbrev pub is_below : ℕ → ℕ → Bool
is_below n k = ltb k n

-- every node of every row
unfoldable pub every : Matrix → ℕ → Bool
every t k = cond (leb t.cols k) (ltb k t.nodes) false

-- every row possible
abbrev pub whole : (t : Matrix) → LawfulMatrix t → Reduced
whole t law = record { t = t; law = law; alive = every t; active = is_below t.nodes }

-- every column uncovered
unfoldable pub every_column : ℕ → Bool
every_column _ = true

unfoldable pub headed : List ℕ → ℕ → List ℕ
headed m i = set (set (set m (at_up i) i) (at_down i) i) (at_size i) 0

-- x put behind u, the last node of the ring of c
unfoldable pub inserted : List ℕ → ℕ → ℕ → ℕ → List ℕ
inserted m x c u = set (set (set (set m (at_up x) u) (at_down x) c) (at_down u) x) (at_up c) x

unfoldable pub link_last : List ℕ → ℕ → List ℕ
link_last m x = inc (inserted m x (column_of m x) (up m (column_of m x))) (column_of m x)

pub record Joinable (m : List ℕ) (x : ℕ) : Type 0 where
  pub small : x < 4096
  pub column : column_of m x < 4096
  pub last : up m (column_of m x) < 4096
  pub apart : column_of m x ≡ x → ⊥
  pub few : size_of m (column_of m x) < 4096

-- what of a matrix's nodes never changes stands in the memory
pub record Written (t : Matrix) (m : List ℕ) : Type 0 where
  pub col : (x : ℕ) → x < t.nodes → column_of m x ≡ t.col x
  pub lo : (x : ℕ) → x < t.nodes → first_of m x ≡ t.lo x
  pub hi : (x : ℕ) → x < t.nodes → end_of m x ≡ t.hi x
  pub row : (x : ℕ) → x < t.nodes → row_number m x ≡ t.row x

-- these nodes are those of some matrix
pub record Stored (m : List ℕ) (cols nodes : ℕ) : Type 0 where
  pub t : Matrix
  pub law : LawfulMatrix t
  pub written : Written t m
  pub c_is : cols ≡ t.cols
  pub n_is : nodes ≡ t.nodes

-- each kind has few copies, and one at the least if it has a row
pub record Stocked (t : Matrix) (m : List ℕ) : Type 0 where
  pub few : (j : ℕ) → j < t.cols → copies_of m j < 4096
  pub some : (x : ℕ) → t.cols ≤ x → x < t.nodes → 1 ≤ copies_of m (t.col (t.lo x))

pub record Posed (m : List ℕ) (primary cols nodes : ℕ) : Type 0 where
  pub stored : Stored m cols nodes
  pub shape : Shape stored.t primary
  pub stocked : Stocked stored.t m

-- the nodes below n are linked
pub record Partial (t : Matrix) (n : ℕ) (m : List ℕ) : Type 0 where
  pub fields : Fields t m
  pub rings : Rings t (is_below n) m
  pub count : (j : ℕ) → j < t.cols → size_of m j ≡ tally (here t (every t) j) n

-- the heads below n are linked, each alone
pub record Headed (t : Matrix) (n : ℕ) (m : List ℕ) : Type 0 where
  pub fields : Fields t m
  pub ups : (j : ℕ) → j < n → up m j ≡ j
  pub downs : (j : ℕ) → j < n → down m j ≡ j
  pub none : (j : ℕ) → j < n → size_of m j ≡ 0

pub record Linkable (m : List ℕ) (cols nodes : ℕ) : Type 0 where
  pub t : Matrix
  pub law : LawfulMatrix t
  pub part : Partial t cols m
  pub c_is : cols ≡ t.cols
  pub n_is : nodes ≡ t.nodes
