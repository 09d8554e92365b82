-- Document 01, "Which is kept".
use Rattle.std.specs.Prelude.{ℕ, Bool, true, false, cond, not, ◌&&◌, List, [], ◌∷◌, ◌++◌, map, ltb, eqb, length, get_or}
use Rattle.lists.specs.Lists.{all, any, keep, each, below, same, less, sort}
use Rattle.definitions.specs.Grid.{Grid, Cell, same_grid}
use Rattle.definitions.specs.Maps.{Map, turns, mirrorings, map_grid, map_cell}
use Rattle.definitions.specs.Scan.{scan_number}
use Rattle.definitions.specs.Placements.{Placement, Compiled}
use Rattle.definitions.specs.Packing.{is_packing}

-- "Two packings are compared kind by kind: fewer used copies is smaller, then the ascending list of (p, j)."
unfoldable pub compared : Compiled → List Placement → List ℕ
compared c P = each (below (length c.kinds)) (λ k.
    let qs = keep (λ q. eqb q.kind k) P in
    length qs ∷ each qs (λ q. q.p ∷ q.j ∷ []))

unfoldable pub smaller : Compiled → List Placement → List Placement → Bool
smaller c P Q = less (compared c P) (compared c Q)

-- What f, which takes board cells to board cells, carries a packing onto: the placements that have the moved cells, "with the same kinds", or with
-- "their mirror partners" where f is odd. Where a placement has no such image, what is left does not cover the board, and is no packing.
unfoldable pub kind_after : Compiled → Bool → ℕ → ℕ
kind_after c odd k = cond odd (get_or (map (λ d. d.partner) c.kinds) k (length c.kinds)) k

unfoldable pub cell_after : Compiled → (Cell → Cell) → ℕ → ℕ
cell_after c f n = scan_number c.cells (f (get_or c.cells n (record { x = 0; y = 0; z = 0 })))

unfoldable pub moved : Compiled → Bool → (Cell → Cell) → Placement → List ℕ
moved c odd f q = kind_after c odd q.kind ∷ sort ltb (map (cell_after c f) q.cells)

unfoldable pub image : Compiled → Bool → (Cell → Cell) → List Placement → List Placement
image c odd f P = let ms = map (moved c odd f) P in keep (λ q. any (same (q.kind ∷ q.cells)) ms) c.placements

-- what is identified: nothing, turned packings, or mirrored packings too
pub data Identify : Type 0 where
  None Turned Mirrored : Identify

-- "Allowed maps bring the board's grid onto itself: turns, and mirrorings where these are identified."
unfoldable pub symmetries : Grid → List Map → List Map
symmetries g ms = keep (λ m. same_grid (map_grid m g) g) ms

unfoldable pub turned_images : Compiled → List Placement → List (List Placement)
turned_images c P = map (λ m. image c false (map_cell m c.board.sides) P) (symmetries c.board turns)

unfoldable pub mirrored_images : Compiled → List Placement → List (List Placement)
mirrored_images c P = map (λ m. image c true (map_cell m c.board.sides) P) (symmetries c.board mirrorings)

unfoldable pub images : Compiled → Identify → List Placement → List (List Placement)
images c None P = []
images c Turned P = turned_images c P
images c Mirrored P = turned_images c P ++ mirrored_images c P

-- "With identification a packing is listed exactly if no image of it under an allowed map is a smaller packing; without, every packing is."
unfoldable pub kept : Compiled → Identify → List Placement → Bool
kept c i P = all (λ Q. not (is_packing c Q && smaller c Q P)) (images c i P)
