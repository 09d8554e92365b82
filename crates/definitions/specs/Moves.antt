-- Document 01, "Moves".
use Rattle.std.specs.Prelude.{◌-◌, Bool, true, false, cond, not, ◌≡◌, T, ltb}
use mathlib.Core.List.{List, [], ◌∷◌, map, Memᴰ}
use Rattle.lists.specs.Lists.{any, is_empty, sort}
use Rattle.definitions.specs.Grid.{Grid, Sides, Cell, filled_cells, grid_with, same_grid, same_cell}
use Rattle.definitions.specs.Placements.{Placement, Compiled}
use Rattle.definitions.specs.Packing.{Packing}
use Rattle.definitions.specs.Kept.{kind_after, cell_after, Identify}
use Rattle.definitions.specs.Kept.Identify.{None, Turned, Mirrored}

-- "A quarter turn about x takes sides a, b, c to a, c, b and cell (x, y, z) to (x, c-1-z, y); about y, to c, b, a and (z, y, a-1-x); about z, to b, a, c
-- and (b-1-y, x, z)."
pub data Quarter : Type 0 where
  about_x about_y about_z : Quarter

unfoldable pub quarter_sides : Quarter → Sides → Sides
quarter_sides about_x s = record { a = s.a; b = s.c; c = s.b }
quarter_sides about_y s = record { a = s.c; b = s.b; c = s.a }
quarter_sides about_z s = record { a = s.b; b = s.a; c = s.c }

unfoldable pub quarter_cell : Quarter → Sides → Cell → Cell
quarter_cell about_x s u = record { x = u.x; y = s.c - 1 - u.z; z = u.y }
quarter_cell about_y s u = record { x = u.z; y = u.y; z = s.a - 1 - u.x }
quarter_cell about_z s u = record { x = s.b - 1 - u.y; y = u.x; z = u.z }

abbrev pub quarters_sides : List Quarter → Sides → Sides
quarters_sides [] s = s
quarters_sides (q ∷ qs) s = quarters_sides qs (quarter_sides q s)

abbrev pub quarters_cell : List Quarter → Sides → Cell → Cell
quarters_cell [] s u = u
quarters_cell (q ∷ qs) s u = quarters_cell qs (quarter_sides q s) (quarter_cell q s u)

-- "A mirroring is any of the 24, each of them the step that keeps the sides and takes cell (x, y, z) to (a-1-x, y, z), followed by quarter turns or none."
pub data Move : Type 0 where
  turn : Quarter → Move
  mirroring : List Quarter → Move

unfoldable pub step_cell : Sides → Cell → Cell
step_cell s u = record { x = s.a - 1 - u.x; y = u.y; z = u.z }

unfoldable pub move_sides : Move → Sides → Sides
move_sides (turn q) s = quarter_sides q s
move_sides (mirroring qs) s = quarters_sides qs s

unfoldable pub move_cell : Move → Sides → Cell → Cell
move_cell (turn q) s u = quarter_cell q s u
move_cell (mirroring qs) s u = quarters_cell qs s (step_cell s u)

-- a grid moved: a cell is filled where the move takes a filled cell there
unfoldable pub move_grid : Move → Grid → Grid
move_grid m g = grid_with (move_sides m g.sides) (λ v. cond (any (λ u. same_cell (move_cell m g.sides u) v) (filled_cells g)) 1 0)

-- "A sequence of moves, empty or however long, starts from the board's grid and the cells of a packing's placements, and each move gets what the last one
-- left."
abbrev pub grid_after : List Move → Grid → Grid
grid_after [] g = g
grid_after (m ∷ ms) g = grid_after ms (move_grid m g)

abbrev pub sides_after_all : List Move → Sides → Sides
sides_after_all [] s = s
sides_after_all (m ∷ ms) s = sides_after_all ms (move_sides m s)

abbrev pub cell_after_all : List Move → Sides → Cell → Cell
cell_after_all [] s u = u
cell_after_all (m ∷ ms) s u = cell_after_all ms (move_sides m s) (move_cell m s u)

-- an odd number of mirrorings; quarter turns alone
abbrev pub is_odd : List Move → Bool
is_odd [] = false
is_odd (turn q ∷ ms) = is_odd ms
is_odd (mirroring qs ∷ ms) = not (is_odd ms)

abbrev pub are_turns : List Move → Bool
are_turns [] = true
are_turns (turn q ∷ ms) = are_turns ms
are_turns (mirroring qs ∷ ms) = false

-- "It brings the board back if the grid at its end has the board's sides and cells."
unfoldable pub brings_back : Compiled → List Move → Bool
brings_back c ms = same_grid (grid_after ms c.board) c.board

-- "It then carries the packing onto the packing whose placements have the moved cells, with the same kinds after an even number of mirrorings and their
-- mirror partners after an odd one; where no such packing exists, onto none." A placement r is carried onto q if q has r's moved cells and that kind.
pub record CarriedOnto (c : Compiled) (odd : Bool) (f : Cell → Cell) (r q : Placement) : Type 0 where
  pub kinds : q.kind ≡ kind_after c odd r.kind
  pub cells : q.cells ≡ sort ltb (map (cell_after c f) r.cells)

pub record Carries (c : Compiled) (ms : List Move) (P Q : List Placement) : Type 0 where
  pub back : T (brings_back c ms)
  pub packing : Packing c Q
  pub each_onto : (r : Placement) → Memᴰ r P → (q : Placement) × Memᴰ q Q × CarriedOnto c (is_odd ms) (cell_after_all ms c.board.sides) r q
  pub each_from : (q : Placement) → Memᴰ q Q → (r : Placement) × Memᴰ r P × CarriedOnto c (is_odd ms) (cell_after_all ms c.board.sides) r q

-- the sequences that an identification speaks of
unfoldable pub in_reach : Identify → List Move → Bool
in_reach None ms = is_empty ms
in_reach Turned ms = are_turns ms
in_reach Mirrored ms = true
