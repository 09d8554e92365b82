-- Hiding a row, covering a column, and what is still possible.
use Rattle.std.specs.Prelude.{ℕ, zero, suc, ◌+◌, ◌-◌, ◌≤◌, ◌<◌, ◌≡◌, List, Bool, true, false, cond, set, eqb}
use Rattle.links.specs.Links.{up, down, column_of, size_of, at_size, unlink, relink, Matrix, LawfulMatrix, Fields, Rings, without}

abbrev pub bit : Bool → ℕ
bit true = 1
bit false = 0

-- how many numbers below n pass
unfoldable pub tally : (ℕ → Bool) → ℕ → ℕ
tally p zero = 0
tally p (suc n) = bit (p n) + tally p n

-- one possible row less in column j, and one more
unfoldable pub dec : List ℕ → ℕ → List ℕ
dec m j = set m (at_size j) (size_of m j - 1)

unfoldable pub inc : List ℕ → ℕ → List ℕ
inc m j = set m (at_size j) (size_of m j + 1)

-- one node of the row of x: its column counts one row less, and it leaves its ring unless it is x itself
unfoldable pub hide1 : Matrix → ℕ → List ℕ → ℕ → List ℕ
hide1 t x m y = dec (cond (eqb y x) m (unlink m y)) (t.col y)

unfoldable pub show1 : Matrix → ℕ → List ℕ → ℕ → List ℕ
show1 t x m y = cond (eqb y x) (inc m (t.col y)) (relink (inc m (t.col y)) y)

-- the first n nodes of the row of x
unfoldable pub hide_to : Matrix → ℕ → List ℕ → ℕ → List ℕ
hide_to t x m zero = m
hide_to t x m (suc n) = hide1 t x (hide_to t x m n) (t.lo x + n)

-- the whole row of x hidden from every column but x's own
unfoldable pub hide : Matrix → ℕ → List ℕ → List ℕ
hide t x m = hide_to t x m (t.hi x - t.lo x)

-- what is active after `hide_to`
unfoldable pub active1 : ℕ → (ℕ → Bool) → ℕ → ℕ → Bool
active1 x active y k = cond (eqb y x) (active k) (without active y k)

unfoldable pub active_to : Matrix → ℕ → (ℕ → Bool) → ℕ → ℕ → Bool
active_to t x active zero k = active k
active_to t x active (suc n) k = active1 x (active_to t x active n) (t.lo x + n) k

-- a node of a live row in column j
unfoldable pub here : Matrix → (ℕ → Bool) → ℕ → ℕ → Bool
here t alive j k = cond (alive k) (eqb (t.col k) j) false

-- the live nodes without those of the row of x
unfoldable pub less_row : Matrix → (ℕ → Bool) → ℕ → ℕ → Bool
less_row t alive x k = cond (eqb (t.lo k) (t.lo x)) false (alive k)

-- The memory m holds the rings of the active nodes; the nodes of live rows are active; each column counts its live rows.
pub record Consistent (t : Matrix) (alive active : ℕ → Bool) (m : List ℕ) : Type 0 where
  pub fields : Fields t m
  pub rings : Rings t active m
  pub node : (x : ℕ) → alive x ≡ true → (t.cols ≤ x) × (x < t.nodes)
  pub whole : (x y : ℕ) → alive x ≡ true → t.lo x ≤ y → y < t.hi x → alive y ≡ true
  pub there : (x : ℕ) → alive x ≡ true → active x ≡ true
  pub count : (j : ℕ) → j < t.cols → size_of m j ≡ tally (here t alive j) t.nodes

-- What a function that changes the links of node x asks: neighbours that are nodes.
pub record Linked (m : List ℕ) (x : ℕ) : Type 0 where
  pub small : x < 4096
  pub above : up m x < 4096
  pub below : down m x < 4096

-- A matrix reduced to the rows that are still possible: whose nodes are alive, and which nodes stand in rings, the active ones.
pub record Reduced : Type 0 where
  pub t : Matrix
  pub law : LawfulMatrix t
  pub alive : ℕ → Bool
  pub active : ℕ → Bool

abbrev pub Holds : Reduced → List ℕ → Type 0
Holds w m = Consistent w.t w.alive w.active m

-- what `hide_row` asks, and what `show_row` asks: some reduced matrix that is so
pub record Hidable (m : List ℕ) (x : ℕ) : Type 0 where
  pub w : Reduced
  pub holds : Holds w m
  pub live : w.alive x ≡ true

pub record Hidden (m : List ℕ) (x : ℕ) : Type 0 where
  pub w : Reduced
  pub old : List ℕ
  pub holds : Holds w old
  pub live : w.alive x ≡ true
  pub so : m ≡ hide w.t x old

-- `hide1` and `show1` with the column as the memory has it
unfoldable pub hide_one : List ℕ → ℕ → ℕ → List ℕ
hide_one m x y = dec (cond (eqb y x) m (unlink m y)) (column_of m y)

unfoldable pub show_one : List ℕ → ℕ → ℕ → List ℕ
show_one m x y = cond (eqb y x) (inc m (column_of m y)) (relink (inc m (column_of m y)) y)

pub record One (m : List ℕ) (y : ℕ) : Type 0 where
  pub linked : Linked m y
  pub column : column_of m y < 4096
  pub some : 1 ≤ size_of m (column_of m y)

pub record Back (m : List ℕ) (y : ℕ) : Type 0 where
  pub linked : Linked m y
  pub column : column_of m y < 4096
  pub few : size_of m (column_of m y) < 4096

-- ---- covering column c: each live row that meets it is hidden, in ascending order. Below n:
unfoldable pub cover_to : Matrix → (ℕ → Bool) → ℕ → List ℕ → ℕ → List ℕ
cover_to t alive c m zero = m
cover_to t alive c m (suc n) = cond (here t alive c n) (hide t n (cover_to t alive c m n)) (cover_to t alive c m n)

-- the live nodes and the active ones after that
unfoldable pub alive_to : Matrix → (ℕ → Bool) → ℕ → ℕ → ℕ → Bool
alive_to t alive c zero = alive
alive_to t alive c (suc n) = cond (here t alive c n) (less_row t (alive_to t alive c n) n) (alive_to t alive c n)

unfoldable pub actives_to : Matrix → (ℕ → Bool) → ℕ → (ℕ → Bool) → ℕ → ℕ → Bool
actives_to t alive c active zero = active
actives_to t alive c active (suc n) = cond (here t alive c n) (active_to t n (actives_to t alive c active n) (t.hi n - t.lo n)) (actives_to t alive c active n)

abbrev pub cover : Reduced → ℕ → List ℕ → List ℕ
cover w c m = cover_to w.t w.alive c m w.t.nodes

-- column c's ring holds live nodes alone
abbrev pub Open : Reduced → ℕ → Type 0
Open w c = (k : ℕ) → w.active k ≡ true → w.t.col k ≡ c → w.t.cols ≤ k → w.alive k ≡ true

pub record Coverable (m : List ℕ) (c : ℕ) : Type 0 where
  pub w : Reduced
  pub holds : Holds w m
  pub column : c < w.t.cols
  pub is_open : Open w c

pub record Covered (m : List ℕ) (c : ℕ) : Type 0 where
  pub w : Reduced
  pub old : List ℕ
  pub holds : Holds w old
  pub column : c < w.t.cols
  pub is_open : Open w c
  pub so : m ≡ cover w c old

-- the matrix after column c is covered
abbrev pub after_cover : Reduced → ℕ → Reduced
after_cover w c =
    record { t = w.t; law = w.law; alive = alive_to w.t w.alive c w.t.nodes; active = actives_to w.t w.alive c w.active w.t.nodes }

-- ---- covering the columns of the n nodes from a on: the matrix after it, and the memory
unfoldable pub alive_run : Matrix → (ℕ → Bool) → ℕ → ℕ → ℕ → Bool
alive_run t alive a zero = alive
alive_run t alive a (suc n) = alive_to t (alive_run t alive a n) (t.col (a + n)) t.nodes

unfoldable pub active_run : Matrix → (ℕ → Bool) → (ℕ → Bool) → ℕ → ℕ → ℕ → Bool
active_run t alive active a zero = active
active_run t alive active a (suc n) = actives_to t (alive_run t alive a n) (t.col (a + n)) (active_run t alive active a n) t.nodes

abbrev pub reduced_to : Reduced → ℕ → ℕ → Reduced
reduced_to w a n = record { t = w.t; law = w.law; alive = alive_run w.t w.alive a n; active = active_run w.t w.alive w.active a n }

unfoldable pub run_to : Reduced → ℕ → List ℕ → ℕ → List ℕ
run_to w a m zero = m
run_to w a m (suc n) = cover (reduced_to w a n) (w.t.col (a + n)) (run_to w a m n)

-- nodes a to b - 1: their columns are open, and no two of them are one
pub record Run (w : Reduced) (a b : ℕ) : Type 0 where
  pub order : a ≤ b
  pub low : w.t.cols ≤ a
  pub high : b ≤ w.t.nodes
  pub opens : (y : ℕ) → a ≤ y → y < b → Open w (w.t.col y)
  pub once : (y z : ℕ) → a ≤ y → y < b → a ≤ z → z < b → w.t.col y ≡ w.t.col z → y ≡ z

pub record Runnable (m : List ℕ) (a b : ℕ) : Type 0 where
  pub w : Reduced
  pub holds : Holds w m
  pub run : Run w a b

pub record Ran (m : List ℕ) (a b : ℕ) : Type 0 where
  pub w : Reduced
  pub old : List ℕ
  pub holds : Holds w old
  pub run : Run w a b
  pub so : m ≡ run_to w a old (b - a)
