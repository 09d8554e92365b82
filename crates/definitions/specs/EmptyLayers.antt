-- Document 02, A4, empty outer layers carry no meaning: what a stripped grid is, said by its filled cells; that the tray which is listed is the lent one,
-- stripped, with its board where it lay; that answers are those of the stripped tray, put back into the lent box; and that 7 is gone. (The demands speak of
-- the tray that is listed: they would hold with another shape for a piece, or with the board put back in a wrong corner.) Statements only; proved in
-- StrippedLaws and TrayLaws (theorems).
use Rattle.std.specs.Prelude.{ℕ, ◌<◌, not, [], map, ◌⊎◌, ◌≢◌, ◌≡◌, T, length}
use Rattle.lists.specs.Lists.{all, is_empty}
use Rattle.definitions.specs.Grid.{Cell, Grid, set_down, volume, filled_cells}
use Rattle.definitions.specs.Stripping.{corner, own_frame, strip}
use Rattle.definitions.specs.Kinds.{Tray}
use Rattle.definitions.specs.Kept.{Identify}
use Rattle.definitions.specs.Framing.{unframed, in_frame}
use Rattle.definitions.specs.Refusals.{Call, lent_of, tray_of, are_bits, is_tight, refusal}
use Rattle.definitions.specs.Outcomes.{Outcome, answers_of}
use Rattle.definitions.specs.PlacementsRight.{piece_at}
use Rattle.definitions.specs.declared.SolverKind.{SolverKind}

-- h is g without its empty outer layers, the corner of its box on a cell of g's: the same filled cells in the same order, and a filled cell in each of the
-- six outer layers. The fields leave no choice of h or of the cell (`strip_only`).
pub record Stripped (g h : Grid) (at : Cell) : Type 0 where
  pub cells : filled_cells g ≡ map (set_down at) (filled_cells h)
  pub tight : T (is_tight h)
  pub bits : T (are_bits h)
  pub whole : length h.cells ≡ volume h.sides

-- the tray t is the lent tray s, stripped: its board, lying where it lay in the box that was lent, or as lent where no cell is filled; and its pieces, each in
-- its place with its count and its wood
pub record StrippedTray (s t : Tray) : Type 0 where
  pub board : Stripped s.board t.board t.frame.at ⊎ ((filled_cells s.board ≡ []) × (t.board ≡ s.board) × (t.frame ≡ own_frame s.board))
  pub lent : t.frame.lent ≡ s.board.sides
  pub as_many : length t.pieces ≡ length s.pieces
  pub each : (n : ℕ) → n < length t.pieces → (at : Cell) × Stripped (piece_at s n).grid (piece_at t n).grid at
  pub counts : (n : ℕ) → n < length t.pieces → (piece_at t n).count ≡ (piece_at s n).count
  pub woods : (n : ℕ) → n < length t.pieces → (piece_at t n).wood ≡ (piece_at s n).wood

unfoldable pub StrippedTrays : Type 0
StrippedTrays = (l : Call) → refusal l ≡ 0 → StrippedTray (lent_of l) (tray_of l)

-- "to us the shape is what is filled": grids with the same filled cells, one moved as a whole, have one stripped form, which lies where it lay
unfoldable pub OneForm : Type 0
OneForm =
    (g h : Grid) (by : Cell) → T (are_bits g) → T (are_bits h) → T (not (is_empty (filled_cells g))) → filled_cells g ≡ map (set_down by) (filled_cells h)
    → (strip g ≡ strip h) × (corner g ≡ set_down by (corner h))

-- "The Rust is run on the stripped grids from here on and its answers are put back into the box."
unfoldable pub PutBack : Type 0
PutBack =
    (l : Call) → refusal l ≡ 0 → (i : Identify) (e : SolverKind)
    → answers_of (tray_of l) i e ≡ map (in_frame (tray_of l).frame (tray_of l).board.sides) (answers_of (unframed (tray_of l)) i e)

-- a tray that has no empty outer layers to strip is listed as it is lent
unfoldable pub AsLent : Type 0
AsLent =
    (l : Call) → refusal l ≡ 0 → T (is_tight (lent_of l).board) ⊎ (filled_cells (lent_of l).board ≡ []) → T (all (λ q. is_tight q.grid) (lent_of l).pieces)
    → tray_of l ≡ lent_of l

-- "7 can no longer be met"
unfoldable pub Never7 : (Call → Outcome) → Type 0
Never7 run = (l : Call) → (run l).number ≢ 7
