-- The search over links: what it keeps true, and what it lists.
use Rattle.std.specs.Prelude.{ℕ, ◌+◌, ◌≤◌, ◌<◌, Bool, true, cond, ◌≡◌, length, get_or, eqb}
use mathlib.Core.List.{List, [], ◌∷◌, ◌++◌, map, Memᴰ}
use Rattle.lists.specs.Lists.{Apart}
use Rattle.definitions.specs.Kept.{Identify}
use Rattle.definitions.specs.Emission.{Emitted, Listed}
use Rattle.definitions.specs.Orders.{search, knuth_choices}
use Rattle.rows.specs.Systems.{System}
use Rattle.kept.specs.Normal.{of_kind, row_of}
use Rattle.kept.specs.Emission.{emit_kept}
use Rattle.kept.specs.Entries.{entries, start_by}
use Rattle.links.specs.Links.{LawfulMatrix}
use Rattle.links.specs.Cover.{Reduced}
use Rattle.links.specs.Search.{Seek, At}
use Rattle.links.specs.Packings.{exact_covers, rows_from}
use Rattle.links.specs.Build.{whole, every_column}
use Rattle.knuth.specs.Matrix.{matrix_of}

-- packings, each by its rows' numbers, one after the other on the page
unfoldable pub emit_all : System → Identify → ℕ → List (List ℕ) → Emitted → Emitted
emit_all s i capacity [] e = e
emit_all s i capacity (rs ∷ rss) e = emit_all s i capacity rss (emit_kept s i capacity rs e)

-- the rows chosen, then those of nodes that a search found
unfoldable pub found_rows : System → List ℕ → List (List ℕ) → List (List ℕ)
found_rows s rs kss = map (λ ks. rs ++ map (matrix_of s).row ks) kss

-- what is found below a reduced matrix in which `left` cells are uncovered; and by the rows of column c from node k of its ring on
unfoldable pub knuth_below : System → List ℕ → ℕ → Reduced → (ℕ → ℕ) → ℕ → List (List ℕ)
knuth_below s rs g w copies left = found_rows s rs (exact_covers w.t s.size g w.alive copies left)

unfoldable pub knuth_rows : System → List ℕ → ℕ → Reduced → (ℕ → ℕ) → ℕ → ℕ → ℕ → List (List ℕ)
knuth_rows s rs g w copies left c k = found_rows s rs (cond (eqb k c) [] (rows_from w.t (exact_covers w.t s.size g) w.alive copies left c k))

-- the rows chosen differ, their copies are taken, no row still possible shares a cell with one of them, and there is a place in the path for each uncovered
-- cell
pub record Chosen (s : System) (w : Reduced) (copies : ℕ → ℕ) (left : ℕ) (rs : List ℕ) : Type 0 where
  pub is_matrix : w.t ≡ matrix_of s
  pub apart : Apart rs
  pub taken : (k : ℕ) → k < length s.copies → copies (s.size + k) + length (of_kind s k rs) ≡ get_or s.copies k 0
  pub clear : (x : ℕ) → w.alive x ≡ true → (r : ℕ) → Memᴰ r rs → (n : ℕ) → Memᴰ n (row_of s r).cells → Memᴰ n (row_of s ((matrix_of s).row x)).cells → ⊥
  pub room : length rs + left ≤ s.size

-- links in which some reduced matrix stands: what `choose` asks, and `try_rows` at node k of column c
pub record Choosable (s : System) (links : List ℕ) (left : ℕ) (rs : List ℕ) : Type 0 where
  pub w : Reduced
  pub uncovered : ℕ → Bool
  pub copies : ℕ → ℕ
  pub seek : Seek w uncovered copies s.size left links
  pub chosen : Chosen s w copies left rs

pub record Tryable (s : System) (links : List ℕ) (left c k : ℕ) (rs : List ℕ) : Type 0 where
  pub w : Reduced
  pub uncovered : ℕ → Bool
  pub copies : ℕ → ℕ
  pub seek : Seek w uncovered copies s.size left links
  pub stand : At w s.size c k
  pub chosen : Chosen s w copies left rs

-- the links of a system, every row possible
pub record Begun (s : System) (links : List ℕ) : Type 0 where
  pub law : LawfulMatrix (matrix_of s)
  pub copies : ℕ → ℕ
  pub seek : Seek (whole (matrix_of s) law) every_column copies s.size s.size links
  pub stock : (k : ℕ) → k < length s.copies → copies (s.size + k) ≡ get_or s.copies k 0

-- what Knuth's algorithm lists over a row system. proofs/KnuthPageLaws: over the system of an accepted tray its answers are document 01's list.
unfoldable pub knuth_answers : System → Identify → List Listed
knuth_answers s i = entries s i (search (knuth_choices s.rows) s.size (start_by s))
