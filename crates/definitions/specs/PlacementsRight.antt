-- That the definitions of kinds and placements forget nothing and invent nothing, said by moves, cells and woods alone: a kind's placements are exactly its
-- pieces' grids after sequences of quarter turns, set down on filled board cells, each once; its copies are exactly those lent. (A definition that forgot
-- placements would satisfy the demands, since packings, covers and images all speak of the placements that there are.) Proved in PlacementLaws (theorems).
use Rattle.std.specs.Prelude.{ℕ, ◌<◌, Bool, ◌&&◌, ◌||◌, ◌≡◌, ◌↔◌, T, ltb, length, get_or}
use mathlib.Core.List.{List, [], ◌∷◌, map, Memᴰ}
use Rattle.lists.specs.Lists.{all, any, ascending, less, sort}
use Rattle.definitions.specs.Grid.{Cell, Grid, set_down, filled_cells, same_cell, same_grid, grid_ahead}
use Rattle.definitions.specs.Scan.{axes, cell_ahead, scan_number}
use Rattle.definitions.specs.Kinds.{Piece, Tray, Kind, Copy}
use Rattle.definitions.specs.Placements.{Placement, Compiled, compile}
use Rattle.definitions.specs.Packing.{ahead}
use Rattle.definitions.specs.Moves.{Move, are_turns, is_odd, grid_after}
use Rattle.definitions.specs.Refusals.{Call, tray_of, refusal}

-- a sequence of quarter turns makes g equal to h; a sequence with an odd number of mirrorings does
pub record TurnsOnto (g h : Grid) : Type 0 where
  pub moves : List Move
  pub by_turns : T (are_turns moves)
  pub equal : grid_after moves g ≡ h

pub record MirrorsOnto (g h : Grid) : Type 0 where
  pub moves : List Move
  pub by_mirroring : T (is_odd moves)
  pub equal : grid_after moves g ≡ h

-- the grid g after some quarter turns, set down somewhere on filled board cells; cells are their scan numbers, ascending
pub record SetDown (c : Compiled) (g : Grid) (cells : List ℕ) : Type 0 where
  pub moves : List Move
  pub by_turns : T (are_turns moves)
  pub corner : Cell
  pub on_board : T (all (λ u. any (same_cell (set_down corner u)) c.cells) (filled_cells (grid_after moves g)))
  pub cells_are : cells ≡ sort ltb (map (λ u. scan_number c.cells (set_down corner u)) (filled_cells (grid_after moves g)))

-- piece n as lent; kind k
unfoldable pub no_grid : Grid
no_grid = record { sides = record { a = 0; b = 0; c = 0 }; cells = [] }

unfoldable pub piece_at : Tray → ℕ → Piece
piece_at t n = get_or t.pieces n (record { grid = no_grid; count = 0; wood = 0 })

abbrev pub no_kind : Kind
no_kind = record { shape = no_grid; wood = 0; partner = 0; copies = [] }

unfoldable pub kind_at : Compiled → ℕ → Kind
kind_at c k = get_or c.kinds k no_kind

-- of two kinds the one with the smaller grid comes first, and of two with one grid the one with the smaller wood
unfoldable pub kind_ahead : Kind → Kind → Bool
kind_ahead d e = grid_ahead d.shape e.shape || (same_grid d.shape e.shape && ltb d.wood e.wood)

unfoldable pub copy_ahead : Copy → Copy → Bool
copy_ahead x y = less (x.piece ∷ x.copy ∷ []) (y.piece ∷ y.copy ∷ [])

pub record Right (t : Tray) (c : Compiled) : Type 0 where
  -- the filled board cells are numbered in scan order, each once
  pub cells_filled : (u : Cell) → Memᴰ u c.cells ↔ Memᴰ u (filled_cells t.board)
  pub cells_in_order : T (ascending (cell_ahead (axes t.board.sides)) c.cells)
  -- each piece has a kind, and each kind a piece; "Two pieces are one kind if a turn makes their grids equal", and "only if the wood agrees too"
  pub kind_of : ℕ → ℕ
  pub is_kind : (n : ℕ) → n < length t.pieces → kind_of n < length c.kinds
  pub some_lent : (k : ℕ) → k < length c.kinds → (n : ℕ) × (n < length t.pieces) × (kind_of n ≡ k)
  pub one_kind : (n m : ℕ) → n < length t.pieces → m < length t.pieces
      → (kind_of n ≡ kind_of m) ↔ (TurnsOnto (piece_at t n).grid (piece_at t m).grid × ((piece_at t n).wood ≡ (piece_at t m).wood))
  pub wood_lent : (n : ℕ) → n < length t.pieces → (kind_at c (kind_of n)).wood ≡ (piece_at t n).wood
  -- "Kinds are ordered by their smallest turned grid"; "kinds with equal smallest grids go by wood"
  pub shape_turned : (n : ℕ) → n < length t.pieces → TurnsOnto (piece_at t n).grid (kind_at c (kind_of n)).shape
  pub shape_smallest : (n : ℕ) → n < length t.pieces → (g : Grid) → TurnsOnto (piece_at t n).grid g → T (grid_ahead g (kind_at c (kind_of n)).shape) → ⊥
  pub kinds_in_order : T (ascending kind_ahead c.kinds)
  -- "A kind's mirror partner is the kind of its mirrored grids, itself or another", and "must have the same wood"
  pub partner : (n m : ℕ) → n < length t.pieces → m < length t.pieces
      → ((kind_at c (kind_of n)).partner ≡ kind_of m) ↔ (MirrorsOnto (piece_at t n).grid (piece_at t m).grid × ((piece_at t n).wood ≡ (piece_at t m).wood))
  -- "A kind's copies are numbered through its pieces in lent order, each piece's copies from 0"
  pub copies_lent : (k : ℕ) (x : Copy) → k < length c.kinds
      → Memᴰ x (kind_at c k).copies ↔ ((x.piece < length t.pieces) × (kind_of x.piece ≡ k) × (x.copy < (piece_at t x.piece).count))
  pub copies_in_order : (k : ℕ) → k < length c.kinds → T (ascending copy_ahead (kind_at c k).copies)
  -- the placements: sound, complete, each once, in order
  pub of_kind : (r : Placement) → Memᴰ r c.placements → r.kind < length c.kinds
  pub sound : (r : Placement) → Memᴰ r c.placements → (n : ℕ) → n < length t.pieces → kind_of n ≡ r.kind → SetDown c (piece_at t n).grid r.cells
  pub complete : (n : ℕ) → n < length t.pieces → (cells : List ℕ) → SetDown c (piece_at t n).grid cells
      → (r : Placement) × Memᴰ r c.placements × (r.kind ≡ kind_of n) × (r.cells ≡ cells)
  pub once : (r s : Placement) → Memᴰ r c.placements → Memᴰ s c.placements → r.kind ≡ s.kind → r.cells ≡ s.cells → r ≡ s
  pub in_order : T (ascending ahead c.placements)
  -- "p is the scan number among filled board cells that the origin lies on", and "the origin is the first filled cell in scan order"
  pub origin_first : (r : Placement) → Memᴰ r c.placements → Memᴰ r.p r.cells × ((n : ℕ) → Memᴰ n r.cells → n < r.p → ⊥)
  -- "j the variant's number among those that fit there", variants ascending: of two placements of a kind at one cell the one with the smaller turned grid has
  -- the smaller j, and each number below a placement's j is another's
  pub j_in_order : (r s : Placement) → Memᴰ r c.placements → Memᴰ s c.placements → r.kind ≡ s.kind → r.p ≡ s.p
      → (n : ℕ) → n < length t.pieces → kind_of n ≡ r.kind → (R : SetDown c (piece_at t n).grid r.cells) (S : SetDown c (piece_at t n).grid s.cells)
      → (r.j < s.j) ↔ T (grid_ahead (grid_after R.moves (piece_at t n).grid) (grid_after S.moves (piece_at t n).grid))
  pub j_from_zero : (r : Placement) → Memᴰ r c.placements → (i : ℕ) → i < r.j
      → (s : Placement) × Memᴰ s c.placements × (s.kind ≡ r.kind) × (s.p ≡ r.p) × (s.j ≡ i)

unfoldable pub PlacementsRight : Type 0
PlacementsRight = (l : Call) → refusal l ≡ 0 → Right (tray_of l) (compile (tray_of l))
