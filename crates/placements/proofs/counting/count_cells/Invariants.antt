use Prim.Native.Nat.{ℕ, ◌+◌, ◌*◌, ◌≤◌}
use mathlib.Core.List.{List}
use mathlib.Core.Path.{◌≡◌}
use lib.ListN.{length}
use Rattle.lists.specs.Lists.{how_many}
use Rattle.definitions.specs.Grid.{Cell, Grid}
use Rattle.definitions.specs.Scan.{axes, scan}
use Rattle.definitions.specs.Placements.{fits}
use Rattle.shape.specs.Places.{cell_at}
use Rattle.shape.specs.CubicGrids.{grid_of}
use Rattle.placements.specs.Poses.{variants_in}
use Rattle.placements.proofs.CountingLaws.{sum_from}
use Rattle.placements.proofs.counting.count_cells.Given as goal

-- how many variants fit at a place of a board
abbrev pub fitting : List ℕ → Grid → List (List Cell) → ℕ → ℕ
fitting order g vs i = how_many (fits (scan order g) (cell_at g.sides i)) vs

-- what is counted and what fits at the places left make all
abbrev pub invariant-loop-place : goal.invariant-loop-place
invariant-loop-place l =
    let g = grid_of l.board.grid in
    let o = axes g.sides in
    let f = fitting o g (variants_in o l.poses) in
    let places = l.board.places.now in
    (l.count ≤ length l.turnings * l.place-index)
    × (l.count + sum_from f places (length places) l.place-index ≡ sum_from f places (length places) 0)
