-- The steps from a tray to its list, as small tables that antt computes (proofs/StepLaws): grids stripped, kinds, placements, and where moves take a cell.
use Rattle.std.specs.Prelude.{ℕ, Bool, ◌&&◌, false, List, [], ◌∷◌, map, length}
use Rattle.lists.specs.Lists.{same, joined}
use Rattle.definitions.specs.Grid.{Sides, Cell, Grid, same_cell, sides_then_cells}
use Rattle.definitions.specs.Stripping.{strip}
use Rattle.definitions.specs.Kinds.{Kind, kinds_of}
use Rattle.definitions.specs.Placements.{Placement, compile}
use Rattle.definitions.specs.Moves.{Move, move_sides, move_cell}
use Rattle.definitions.specs.Moves.Quarter.{about_x, about_y, about_z}
use Rattle.definitions.specs.Moves.Move.{turn, mirroring}
use Rattle.definitions.specs.Refusals.{tray_of}
use Rattle.definitions.specs.Files.{Written, call_on}
use Rattle.definitions.specs.Fillings.{piece, in_wood, board, M, D}
use Rattle.definitions.specs.Boundaries.{cells}
use Rattle.definitions.specs.declared.SolverKind.TheVariants.{Fast}

-- ---- stripping
-- a grid, and what is left of it: sides, then cells
pub record StripCase : Type 0 where
  pub grid : Grid
  pub left : List ℕ

abbrev pub grid : ℕ → ℕ → ℕ → List ℕ → Grid
grid i j k cs = record { sides = record { a = i; b = j; c = k }; cells = cs }

abbrev pub strips : Grid → List ℕ → StripCase
strips g left = record { grid = g; left = left }

unfoldable pub strip_cases : List StripCase
strip_cases =
    -- layers on both ends of an axis; on three axes; an empty layer between filled ones stays; nothing filled: the box stays
    strips (grid 1 1 4 (cells 4 0110)) (1 ∷ 1 ∷ 2 ∷ 1 ∷ 1 ∷ []) ∷
    strips (grid 2 2 2 (cells 8 00000010)) (1 ∷ 1 ∷ 1 ∷ 1 ∷ []) ∷
    strips (grid 1 1 5 (cells 5 01010)) (1 ∷ 1 ∷ 3 ∷ 1 ∷ 0 ∷ 1 ∷ []) ∷
    strips (grid 1 2 2 (cells 4 0000)) (1 ∷ 2 ∷ 2 ∷ 0 ∷ 0 ∷ 0 ∷ 0 ∷ []) ∷
    []

unfoldable pub strips_so : StripCase → Bool
strips_so x = same (sides_then_cells (strip x.grid)) x.left

-- ---- kinds and placements
-- a tray, and of each kind its wood, its mirror partner, how many copies it has, its smallest turned grid; of each placement its kind, p, j and cells
pub record TrayCase : Type 0 where
  pub board : Written
  pub pieces : List Written
  pub kinds : List (List ℕ)
  pub placements : List (List ℕ)

abbrev pub works : Written → List Written → List (List ℕ) → List (List ℕ) → TrayCase
works b ps ks qs = record { board = b; pieces = ps; kinds = ks; placements = qs }

unfoldable pub tray_cases : List TrayCase
tray_cases =
    -- two variants that fit with their origin on cell 0; a smaller grid comes before a smaller wood
    works (board 1 2 2 (cells 4 1111)) (D 2 ∷ in_wood 9 (M 1) ∷ [])
    ((9 ∷ 0 ∷ 1 ∷ 1 ∷ 1 ∷ 1 ∷ 1 ∷ []) ∷ (0 ∷ 1 ∷ 2 ∷ 1 ∷ 1 ∷ 2 ∷ 1 ∷ 1 ∷ []) ∷ [])
    ((0 ∷ 0 ∷ 0 ∷ 0 ∷ []) ∷ (0 ∷ 1 ∷ 0 ∷ 1 ∷ []) ∷ (0 ∷ 2 ∷ 0 ∷ 2 ∷ []) ∷ (0 ∷ 3 ∷ 0 ∷ 3 ∷ [])
    ∷ (1 ∷ 0 ∷ 0 ∷ 0 ∷ 2 ∷ []) ∷ (1 ∷ 0 ∷ 1 ∷ 0 ∷ 1 ∷ []) ∷ (1 ∷ 1 ∷ 0 ∷ 1 ∷ 3 ∷ []) ∷ (1 ∷ 2 ∷ 0 ∷ 2 ∷ 3 ∷ []) ∷ []) ∷
    -- a handed piece in two woods, and its mirrored grid in one of them: the first kind has no partner
    works (board 1 1 1 (cells 1 1))
    (piece 1 2 2 2 (cells 8 11100100) ∷ in_wood 1 (piece 1 2 2 2 (cells 8 11100010)) ∷ in_wood 1 (piece 2 2 2 2 (cells 8 11100100)) ∷ [])
    ((0 ∷ 3 ∷ 1 ∷ 2 ∷ 2 ∷ 2 ∷ 0 ∷ 0 ∷ 0 ∷ 1 ∷ 1 ∷ 0 ∷ 1 ∷ 1 ∷ [])
    ∷ (1 ∷ 2 ∷ 2 ∷ 2 ∷ 2 ∷ 2 ∷ 0 ∷ 0 ∷ 0 ∷ 1 ∷ 1 ∷ 0 ∷ 1 ∷ 1 ∷ [])
    ∷ (1 ∷ 1 ∷ 1 ∷ 2 ∷ 2 ∷ 2 ∷ 0 ∷ 0 ∷ 0 ∷ 1 ∷ 1 ∷ 1 ∷ 0 ∷ 1 ∷ []) ∷ [])
    [] ∷
    []

abbrev pub kind_shown : Kind → List ℕ
kind_shown k = k.wood ∷ k.partner ∷ length k.copies ∷ sides_then_cells k.shape

abbrev pub placement_shown : Placement → List ℕ
placement_shown q = q.kind ∷ q.p ∷ q.j ∷ q.cells

unfoldable pub comes_to : TrayCase → Bool
comes_to x =
    let t = tray_of (call_on x.board x.pieces false false Fast 0 0) in
    same (joined (map kind_shown (kinds_of t))) (joined x.kinds)
    && same (joined (map placement_shown (compile t).placements)) (joined x.placements)

-- ---- moves
-- where a move takes a cell of a box of sides 2, 3, 4, and the sides afterwards
pub record MoveCase : Type 0 where
  pub move : Move
  pub from : Cell
  pub to : Cell
  pub sides : List ℕ

abbrev pub cell : ℕ → ℕ → ℕ → Cell
cell i j k = record { x = i; y = j; z = k }

abbrev pub takes : Move → Cell → Cell → List ℕ → MoveCase
takes m u v s = record { move = m; from = u; to = v; sides = s }

unfoldable pub move_cases : List MoveCase
move_cases =
    takes (turn about_x) (cell 1 2 3) (cell 1 0 2) (2 ∷ 4 ∷ 3 ∷ []) ∷
    takes (turn about_x) (cell 0 1 2) (cell 0 1 1) (2 ∷ 4 ∷ 3 ∷ []) ∷
    takes (turn about_y) (cell 1 2 3) (cell 3 2 0) (4 ∷ 3 ∷ 2 ∷ []) ∷
    takes (turn about_y) (cell 0 1 2) (cell 2 1 1) (4 ∷ 3 ∷ 2 ∷ []) ∷
    takes (turn about_z) (cell 1 2 3) (cell 0 1 3) (3 ∷ 2 ∷ 4 ∷ []) ∷
    takes (turn about_z) (cell 0 1 2) (cell 1 0 2) (3 ∷ 2 ∷ 4 ∷ []) ∷
    takes (mirroring []) (cell 1 2 3) (cell 0 2 3) (2 ∷ 3 ∷ 4 ∷ []) ∷
    takes (mirroring (about_x ∷ about_z ∷ [])) (cell 0 0 0) (cell 0 1 0) (4 ∷ 2 ∷ 3 ∷ []) ∷
    []

unfoldable pub moves_so : MoveCase → Bool
moves_so x =
    let s : Sides = record { a = 2; b = 3; c = 4 } in
    let r = move_sides x.move s in
    same_cell (move_cell x.move s x.from) x.to && same (r.a ∷ r.b ∷ r.c ∷ []) x.sides
