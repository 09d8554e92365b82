-- The laws that cross the wall: all that the engines assume of a row system. Proved of every accepted tray's system in proofs/SystemLaws.
use Rattle.std.specs.Prelude.{ℕ, ◌≤◌, ◌<◌, Bool, true, false, ◌≡◌, T, ltb, length, get_or, take}
use mathlib.Core.List.{List, [], ◌∷◌, map, Memᴰ}
use Rattle.lists.specs.Lists.{ascending, below, sum}
use Rattle.definitions.specs.Placements.{Placement}
use Rattle.definitions.specs.Packing.{ahead}
use Rattle.rows.specs.Systems.{System, kind_by, cells_by}
use Rattle.rows.specs.Answering.{copies_by}

-- a row's cells ascend, are on the board, and the first of them is p
pub record LawfulRow (s : System) (q : Placement) : Type 0 where
  pub of_kind : q.kind < length s.copies
  pub ascend : T (ascending ltb q.cells)
  pub on_board : (n : ℕ) → Memᴰ n q.cells → n < s.size
  pub covers_p : Memᴰ q.p q.cells
  pub from_p : (n : ℕ) → Memᴰ n q.cells → q.p ≤ n

-- a map takes cells to cells, no two to one
pub record Permutes (size : ℕ) (to : List ℕ) : Type 0 where
  pub each : length to ≡ size
  pub onto : (n : ℕ) → n < size → get_or to n 0 < size
  pub apart : (m n : ℕ) → m < size → n < size → get_or to m 0 ≡ get_or to n 0 → m ≡ n

-- r is the image of q
pub record ImageOf (s : System) (odd : Bool) (to : List ℕ) (q r : Placement) : Type 0 where
  pub is_row : Memᴰ r s.rows
  pub kind : r.kind ≡ kind_by s.partners odd q.kind
  pub cells : r.cells ≡ cells_by to q.cells

-- the maps of one system that are turns, or that are mirrorings
abbrev pub allowed : System → Bool → List (List ℕ)
allowed s false = s.turned
allowed s true = s.mirrored

-- first f, then g
abbrev pub after_by : ℕ → List ℕ → List ℕ → List ℕ
after_by size g f = map (λ n. get_or g (get_or f n 0) 0) (below size)

abbrev pub differ : Bool → Bool → Bool
differ false b = b
differ true false = true
differ true true = false

pub record Lawful (s : System) : Type 0 where
  pub few_cells : s.size ≤ 128
  pub few_rows : length s.rows ≤ 1024
  pub few_kinds : length s.copies ≤ 16
  pub a_partner_each : length s.partners ≡ length s.copies
  pub few_copies : sum s.copies ≤ 128
  -- each cell has a place in the box in which answers are written
  pub scanned : (c : ℕ) → c < s.size → Memᴰ c s.scans
  -- rows
  pub in_order : T (ascending ahead s.rows)
  pub row : (q : Placement) → Memᴰ q s.rows → LawfulRow s q
  pub by_cells : (q r : Placement) → Memᴰ q s.rows → Memᴰ r s.rows → q.kind ≡ r.kind → q.cells ≡ r.cells → q ≡ r
  -- maps
  pub permutes : (odd : Bool) (f : List ℕ) → Memᴰ f (allowed s odd) → Permutes s.size f
  -- the first turn moves nothing
  pub identity : take 1 s.turned ≡ below s.size ∷ []
  pub inverse : (odd : Bool) (f : List ℕ) → Memᴰ f (allowed s odd) → (g : List ℕ) × Memᴰ g (allowed s odd) × (after_by s.size g f ≡ below s.size)
  pub product : (odd even : Bool) (f g : List ℕ) → Memᴰ f (allowed s odd) → Memᴰ g (allowed s even) → Memᴰ (after_by s.size g f) (allowed s (differ odd even))
  -- partners, both ways
  pub partner_back : (k : ℕ) → kind_by s.partners true k < length s.copies → kind_by s.partners true (kind_by s.partners true k) ≡ k
  -- images: of each row under each turn, and under each mirroring where the box holds a kind for it
  pub image : (odd : Bool) (f : List ℕ) → Memᴰ f (allowed s odd) → (q : Placement) → Memᴰ q s.rows → kind_by s.partners odd q.kind < length s.copies
      → (r : Placement) × ImageOf s odd f q r
  -- pieces: those of a kind have its copies
  pub copies_each : (k : ℕ) → k < length s.copies → length (copies_by s.pieces k) ≡ get_or s.copies k 0
