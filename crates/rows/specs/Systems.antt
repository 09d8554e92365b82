-- The wall between geometry and search: a row system is all that the engines see of a tray. Nothing of grids, sides or coordinates is in it.
use Rattle.std.specs.Prelude.{ℕ, ◌*◌, Bool, cond, List, ◌∷◌, map, ◌≡◌, ltb, length, get_or, take, drop}
use Rattle.lists.specs.Lists.{below, from, before, sort, same}
use Rattle.definitions.specs.Grid.{box}
use Rattle.definitions.specs.Maps.{Map, map_cell, turns, mirrorings}
use Rattle.definitions.specs.Scan.{scan_number}
use Rattle.definitions.specs.Answers.{lent_cells}
use Rattle.definitions.specs.Kinds.{Tray, piece_form, same_form, sorted, forms}
use Rattle.definitions.specs.Placements.{Placement, Compiled, compile}
use Rattle.definitions.specs.Packing.{limits}
use Rattle.definitions.specs.Kept.{cell_after, symmetries}
use Rattle.definitions.specs.Orders.{sizes}
use Rattle.rows.specs.Rows.{rows_in}
use Rattle.rows.specs.Charts.{kind_copies, kind_partner, kind_size, nothing_owned}
use Rattle.rows.specs.declared.Dims.{Dims}
use Rattle.rows.specs.declared.chart.Chart.{Chart}
use Rattle.rows.specs.declared.chart.Kind.{Kind}
use Rattle.rows.specs.declared.chart.Owned.{Owned}

pub record System : Type 0 where
  -- how many filled board cells there are, and the placements
  pub size : ℕ
  pub rows : List Placement
  -- for each kind how many copies it has, and its mirror partner (the number of kinds where it has none)
  pub copies : List ℕ
  pub partners : List ℕ
  -- and of how many cells it is
  pub sizes : List ℕ
  -- for each allowed turn, and each allowed mirroring, where it takes each cell, by scan numbers
  pub turned : List (List ℕ)
  pub mirrored : List (List ℕ)
  -- the scan number of each cell of the box that was lent, in which answers are written (the number of filled cells where it is unfilled)
  pub scans : List ℕ
  pub pieces : List Owned

-- where a map takes each filled board cell
unfoldable pub cell_images : Compiled → Map → List ℕ
cell_images c m = map (cell_after c (map_cell m c.board.sides)) (below (length c.cells))

-- the system of a tray
unfoldable pub owned : Tray → List Owned
owned t = map (λ q. record { kind = before (same_form (piece_form q)) (forms (sorted t)); count = q.count }) t.pieces

unfoldable pub system_of : Tray → System
system_of t =
    let c = compile t in
    record {
      size = length c.cells;
      rows = c.placements;
      copies = limits c;
      partners = map (λ d. d.partner) c.kinds;
      sizes = sizes c;
      turned = map (cell_images c) (symmetries c.board turns);
      mirrored = map (cell_images c) (symmetries c.board mirrorings);
      scans = map (scan_number (lent_cells c)) (box c.frame.lent);
      pieces = owned t;
    }

-- The system that stands in slices. A map takes 128 numbers of its slice.
unfoldable pub images_in : List ℕ → ℕ → ℕ → ℕ → List (List ℕ)
images_in images size i n = map (λ m. take size (drop (128 * m) images)) (from i n)

unfoldable pub owned_in : List Owned → ℕ → List Owned
owned_in pieces n = map (λ i. get_or pieces i nothing_owned) (below n)

-- the copies and the partners of a tray's kinds stand in a slice
pub record KindsIn (kinds : List Kind) (n : ℕ) (c : Compiled) : Type 0 where
  pub count : n ≡ length c.kinds
  pub copies : map (kind_copies kinds) (below n) ≡ limits c
  pub partners : map (kind_partner kinds) (below n) ≡ map (λ d. d.partner) c.kinds
  pub sizes_are : map (kind_size kinds) (below n) ≡ sizes c

unfoldable pub system_over : Dims → List ℕ → List ℕ → List ℕ → List Kind → List Owned → System
system_over d work images scans kinds pieces =
    record {
      size = d.size;
      rows = rows_in work d.rows;
      copies = map (kind_copies kinds) (below d.kinds);
      partners = map (kind_partner kinds) (below d.kinds);
      sizes = map (kind_size kinds) (below d.kinds);
      turned = images_in images d.size 0 d.turns;
      mirrored = images_in images d.size d.turns d.mirrorings;
      scans = take d.places scans;
      pieces = owned_in pieces d.pieces;
    }

-- the system whose rows stand in the work slice, and all else in a chart
unfoldable pub system_in : Dims → List ℕ → Chart → System
system_in d work chart = system_over d work chart.images chart.scans chart.kinds chart.pieces

-- ---- what a map makes of a row
-- the kind after a map, by the partners; the cells of a placement after a map, by where it takes each cell; both, as the image has them
unfoldable pub kind_by : List ℕ → Bool → ℕ → ℕ
kind_by partners odd k = cond odd (get_or partners k (length partners)) k

unfoldable pub cells_by : List ℕ → List ℕ → List ℕ
cells_by to cells = sort ltb (map (λ n. get_or to n 0) cells)

unfoldable pub moved_by : List ℕ → Bool → List ℕ → Placement → List ℕ
moved_by partners odd to q = kind_by partners odd q.kind ∷ cells_by to q.cells

-- the number of the row with given kind and cells; the number of rows where there is none
unfoldable pub row_with : List Placement → List ℕ → ℕ
row_with rows kind_and_cells = before (λ q. same (q.kind ∷ q.cells) kind_and_cells) rows
