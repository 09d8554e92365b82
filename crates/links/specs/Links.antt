-- The memory of the links: a list of numbers, eight to a node. Where each stands is said here alone.
use Rattle.std.specs.Prelude.{ℕ, ◌+◌, ◌*◌, ◌≤◌, ◌<◌, ◌≡◌, List, Bool, true, false, cond, length, get_or, set, eqb}
use Rattle.links.specs.declared.nodes.Field.{Field}
use Rattle.links.specs.declared.nodes.Field.TheVariants.{Up, Down, Column, First, End, Size, Copies, Row}

-- ---- places: which of a node's eight numbers a field is, and where field f of node x stands
abbrev pub place : Field → ℕ
place Up = 0
place Down = 1
place Column = 2
place First = 3
place End = 4
place Size = 5
place Copies = 6
place Row = 7

abbrev pub at : Field → ℕ → ℕ
at f x = 8 * x + place f

-- the same field by field: node x's upper and lower neighbour in its column's ring, its column, the first node of its row, the one behind the row's last;
-- how many rows column x has left, how many copies its kind has left; and the number of node x's row
abbrev pub at_up : ℕ → ℕ
at_up x = at Up x

abbrev pub at_down : ℕ → ℕ
at_down x = at Down x

abbrev pub at_column : ℕ → ℕ
at_column x = at Column x

abbrev pub at_first : ℕ → ℕ
at_first x = at First x

abbrev pub at_end : ℕ → ℕ
at_end x = at End x

abbrev pub at_size : ℕ → ℕ
at_size x = at Size x

abbrev pub at_copies : ℕ → ℕ
at_copies x = at Copies x

abbrev pub at_row : ℕ → ℕ
at_row x = at Row x

-- ---- what stands there
abbrev pub up : List ℕ → ℕ → ℕ
up m x = get_or m (at_up x) 0

abbrev pub down : List ℕ → ℕ → ℕ
down m x = get_or m (at_down x) 0

abbrev pub column_of : List ℕ → ℕ → ℕ
column_of m x = get_or m (at_column x) 0

abbrev pub first_of : List ℕ → ℕ → ℕ
first_of m x = get_or m (at_first x) 0

abbrev pub end_of : List ℕ → ℕ → ℕ
end_of m x = get_or m (at_end x) 0

abbrev pub size_of : List ℕ → ℕ → ℕ
size_of m x = get_or m (at_size x) 0

abbrev pub copies_of : List ℕ → ℕ → ℕ
copies_of m x = get_or m (at_copies x) 0

abbrev pub row_number : List ℕ → ℕ → ℕ
row_number m x = get_or m (at_row x) 0

-- no neighbour and no count stands at i, so that linking, hiding and covering leave it as it is: it is another field of a node, or
-- the list of 4,096 nodes ends before it
pub record Still (i : ℕ) : Type 0 where
  pub up : (x : ℕ) → x < 4096 → i ≡ at_up x → ⊥
  pub down : (x : ℕ) → x < 4096 → i ≡ at_down x → ⊥
  pub size : (x : ℕ) → x < 4096 → i ≡ at_size x → ⊥

-- x taken out of its ring; its own two fields keep its old neighbours
unfoldable pub unlink : List ℕ → ℕ → List ℕ
unlink m x = set (set m (at_down (up m x)) (down m x)) (at_up (down m x)) (up m x)

-- x put back between the neighbours that its fields name
unfoldable pub relink : List ℕ → ℕ → List ℕ
relink m x = set (set m (at_down (up m x)) x) (at_up (down m x)) x

-- The matrix: `cols` column heads, which are nodes 0 to cols - 1, then the rows' nodes, each row's in a run.
pub record Matrix : Type 0 where
  pub nodes : ℕ
  pub cols : ℕ
  pub col : ℕ → ℕ
  pub lo : ℕ → ℕ
  pub hi : ℕ → ℕ
  pub row : ℕ → ℕ

pub record LawfulMatrix (t : Matrix) : Type 0 where
  pub small : t.nodes ≤ 4096
  pub some : t.cols ≤ t.nodes
  pub head : (c : ℕ) → c < t.cols → t.col c ≡ c
  pub inside : (x : ℕ) → t.cols ≤ x → x < t.nodes → t.col x < t.cols
  pub low : (x : ℕ) → t.cols ≤ x → x < t.nodes → (t.cols ≤ t.lo x) × (t.lo x ≤ x)
  pub high : (x : ℕ) → t.cols ≤ x → x < t.nodes → (x < t.hi x) × (t.hi x ≤ t.nodes)
  pub row : (x y : ℕ) → t.cols ≤ x → x < t.nodes → t.lo x ≤ y → y < t.hi x → (t.lo y ≡ t.lo x) × (t.hi y ≡ t.hi x)
  pub once : (x y : ℕ) → t.cols ≤ x → x < t.nodes → t.lo x ≤ y → y < t.hi x → t.col y ≡ t.col x → y ≡ x

-- What of the memory never changes.
pub record Fields (t : Matrix) (m : List ℕ) : Type 0 where
  pub long : 32768 ≤ length m
  pub col : (x : ℕ) → x < t.nodes → column_of m x ≡ t.col x
  pub lo : (x : ℕ) → x < t.nodes → first_of m x ≡ t.lo x
  pub hi : (x : ℕ) → x < t.nodes → end_of m x ≡ t.hi x
  pub row : (x : ℕ) → x < t.nodes → row_number m x ≡ t.row x

-- The column's ring through the active nodes, in ascending order, from the head and back to it.
pub record Rings (t : Matrix) (active : ℕ → Bool) (m : List ℕ) : Type 0 where
  pub bound : (x : ℕ) → active x ≡ true → x < t.nodes
  pub heads : (c : ℕ) → c < t.cols → active c ≡ true
  pub down_active : (x : ℕ) → active x ≡ true → active (down m x) ≡ true
  pub up_active : (x : ℕ) → active x ≡ true → active (up m x) ≡ true
  pub down_column : (x : ℕ) → active x ≡ true → t.col (down m x) ≡ t.col x
  pub up_column : (x : ℕ) → active x ≡ true → t.col (up m x) ≡ t.col x
  pub up_down : (x : ℕ) → active x ≡ true → up m (down m x) ≡ x
  pub down_up : (x : ℕ) → active x ≡ true → down m (up m x) ≡ x
  pub wrap : (x : ℕ) → active x ≡ true → down m x ≤ x → down m x ≡ t.col x
  pub next : (x k : ℕ) → active x ≡ true → active k ≡ true → t.col k ≡ t.col x → x < k → (x < down m x) × (down m x ≤ k)

-- the nodes without x
unfoldable pub without : (ℕ → Bool) → ℕ → ℕ → Bool
without active x y = cond (eqb y x) false (active y)
