-- Sequences of moves and the 48 maps: every sequence acts as one of the 48, and each of the 48 is the action of some sequence. Statements only; proved in
-- MapNumberLaws (theorems).
use Rattle.std.specs.Prelude.{ℕ, ◌<◌, List, ◌≡◌, T, length}
use Rattle.definitions.specs.Grid.{Sides, Cell, Grid, InBox, volume}
use Rattle.definitions.specs.Maps.{map_of, map_sides, map_cell, map_grid, is_mirroring}
use Rattle.definitions.specs.Moves.{Move, sides_after_all, cell_after_all, grid_after, is_odd, are_turns}
use Rattle.definitions.specs.Refusals.{are_bits}

-- a sequence does to sides, to the cells in them and to grids what the map with a number does
pub record ActsAs (ms : List Move) (n : ℕ) : Type 0 where
  pub sides : (s : Sides) → sides_after_all ms s ≡ map_sides (map_of n) s
  pub cells : (s : Sides) (u : Cell) → InBox s u → cell_after_all ms s u ≡ map_cell (map_of n) s u
  pub grids : (g : Grid) → T (are_bits g) → length g.cells ≡ volume g.sides → grid_after ms g ≡ map_grid (map_of n) g

-- "a turn after an even number of mirrorings", a mirroring after an odd one; and for the turns quarter turns alone are enough
pub record MovesAreMaps : Type 0 where
  pub acts_as_one : (ms : List Move) → (n : ℕ) × (n < 48) × (is_mirroring n ≡ is_odd ms) × ActsAs ms n
  pub turn_is_done : (n : ℕ) → n < 24 → (ms : List Move) × T (are_turns ms) × ActsAs ms n
  pub mirroring_is_done : (n : ℕ) → n < 48 → T (is_mirroring n) → (ms : List Move) × T (is_odd ms) × ActsAs ms n
