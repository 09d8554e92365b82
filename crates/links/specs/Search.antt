-- Choosing rows: the columns below `primary` are cells, to be covered once each; the others are kinds, of which some copies are left.
-- The cell to try next is the first of those with the fewest rows still possible, but at least one.
use Rattle.std.specs.Prelude.{ℕ, zero, suc, ◌+◌, ◌-◌, ◌≤◌, ◌<◌, ◌≡◌, List, Bool, true, false, cond, set, eqb, ltb}
use Rattle.links.specs.Links.{column_of, first_of, end_of, size_of, copies_of, at_copies, Matrix}
use Rattle.links.specs.Cover.{tally, here, Reduced, Holds, Open, run_to}

-- none of the n nodes from a on is in column j
unfoldable pub free : Matrix → ℕ → ℕ → ℕ → Bool
free t j a zero = true
free t j a (suc n) = cond (eqb (t.col (a + n)) j) false (free t j a n)

-- none of the n nodes from a on is in a column of the row of k
unfoldable pub apart : Matrix → ℕ → ℕ → ℕ → Bool
apart t k a zero = true
apart t k a (suc n) = cond (free t (t.col (a + n)) (t.lo k) (t.hi k - t.lo k)) (apart t k a n) false

-- the first node of the row of x whose column the row uses up: that of its kind, if it takes the last copy, or of its first cell
unfoldable pub first_covered : Matrix → (ℕ → ℕ) → ℕ → ℕ
first_covered t copies x = cond (eqb (copies (t.col (t.lo x))) 1) (t.lo x) (t.lo x + 1)

-- the rows still possible once the row of x is chosen: those possible before that share no cell with it, nor a kind without copies
unfoldable pub select : Matrix → (ℕ → Bool) → (ℕ → ℕ) → ℕ → ℕ → Bool
select t alive copies x k = cond (alive k) (apart t k (first_covered t copies x) (t.hi x - first_covered t copies x)) false

-- the copies left then
unfoldable pub spend : Matrix → (ℕ → ℕ) → ℕ → ℕ → ℕ
spend t copies x j = cond (eqb j (t.col (t.lo x))) (copies j - 1) (copies j)

-- a column with n rows is tried before one with `least`
abbrev pub better : ℕ → ℕ → Bool
better n least = cond (ltb 0 n) (ltb n least) false

-- the least count of at least one among the first n columns, and the first column that has it; 65536 and 4096 where none has one
unfoldable pub least : (ℕ → ℕ) → ℕ → ℕ
least f zero = 65536
least f (suc n) = cond (better (f n) (least f n)) (f n) (least f n)

unfoldable pub pivot : (ℕ → ℕ) → ℕ → ℕ
pivot f zero = 4096
pivot f (suc n) = cond (better (f n) (least f n)) n (pivot f n)

-- column j has a row that is still possible
abbrev pub has_row : List ℕ → ℕ → Bool
has_row m j = ltb 0 (size_of m j)

-- a row's first node is its kind's, the others are its cells'
pub record Shape (t : Matrix) (primary : ℕ) : Type 0 where
  pub few : primary ≤ t.cols
  pub kind : (x : ℕ) → t.cols ≤ x → x < t.nodes → primary ≤ t.col (t.lo x)
  pub cell : (x y : ℕ) → t.cols ≤ x → x < t.nodes → t.lo x < y → y < t.hi x → t.col y < primary
  pub size : (x : ℕ) → t.cols ≤ x → x < t.nodes → t.lo x + 2 ≤ t.hi x

-- the memory m holds the reduced matrix w, in which `left` cells are uncovered
pub record Seek (w : Reduced) (uncovered : ℕ → Bool) (copies : ℕ → ℕ) (primary left : ℕ) (m : List ℕ) : Type 0 where
  pub holds : Holds w m
  pub shape : Shape w.t primary
  pub clean : (x : ℕ) → w.alive x ≡ true → Open w (w.t.col x)
  pub meets : (x : ℕ) → w.alive x ≡ true → uncovered (w.t.col x) ≡ true
  pub rest : left ≡ tally uncovered primary
  pub held : (j : ℕ) → j < w.t.cols → copies_of m j ≡ copies j
  pub few : (j : ℕ) → j < w.t.cols → copies j < 4096
  pub stock : (x : ℕ) → w.alive x ≡ true → 1 ≤ copies (w.t.col (w.t.lo x))

-- node k of the ring of column c, or its head
pub record At (w : Reduced) (primary c k : ℕ) : Type 0 where
  pub column : c < primary
  pub is_open : Open w c
  pub at : (k ≡ c → ⊥) → here w.t w.alive c k ≡ true

-- one copy less, and one more
unfoldable pub spent : List ℕ → ℕ → List ℕ
spent m j = set m (at_copies j) (copies_of m j - 1)

unfoldable pub regained : List ℕ → ℕ → List ℕ
regained m j = set m (at_copies j) (copies_of m j + 1)

pub record Takes (m : List ℕ) (x : ℕ) : Type 0 where
  pub small : x < 4096
  pub column : column_of m x < 4096
  pub some : 1 ≤ copies_of m (column_of m x)

pub record Gives (m : List ℕ) (x : ℕ) : Type 0 where
  pub small : x < 4096
  pub column : column_of m x < 4096
  pub few : copies_of m (column_of m x) < 4096

-- the memory once the row of k is chosen
unfoldable pub selected : Reduced → (ℕ → ℕ) → ℕ → List ℕ → List ℕ
selected w copies k m = run_to w (first_covered w.t copies k) (spent m (w.t.col (w.t.lo k))) (w.t.hi k - first_covered w.t copies k)

pub record Sized (m : List ℕ) (k : ℕ) : Type 0 where
  pub small : k < 4096
  pub some : first_of m k + 1 ≤ end_of m k

pub record Selectable (m : List ℕ) (k : ℕ) : Type 0 where
  pub w : Reduced
  pub uncovered : ℕ → Bool
  pub copies : ℕ → ℕ
  pub primary : ℕ
  pub left : ℕ
  pub seek : Seek w uncovered copies primary left m
  pub live : w.alive k ≡ true

pub record Selected (m : List ℕ) (k a : ℕ) : Type 0 where
  pub w : Reduced
  pub uncovered : ℕ → Bool
  pub copies : ℕ → ℕ
  pub primary : ℕ
  pub left : ℕ
  pub old : List ℕ
  pub seek : Seek w uncovered copies primary left old
  pub live : w.alive k ≡ true
  pub first : a ≡ first_covered w.t copies k
  pub so : m ≡ selected w copies k old
