-- The scan numbers of a board's box.
use Rattle.std.specs.Prelude.{ℕ, ◌+◌, ◌*◌, ◌≤◌, Bool, ◌&&◌, List, ◌++◌, map, ◌≡◌, T, ltb, length, get_or, take, drop}
use Rattle.lists.specs.Lists.{all, below}
use Rattle.definitions.specs.Maps.{Map, map_cell}
use Rattle.shape.specs.Coords.{ShortSides}
use Rattle.shape.specs.Places.{image_place}
use Rattle.rows.specs.Systems.{images_in}
use Rattle.definitions.specs.Grid.{Grid, Sides, Cell, box, volume, place_of}
use Rattle.definitions.specs.Scan.{axes, scan, scan_number}
use Rattle.definitions.specs.Placements.{lies}

-- the scan number of each cell of the board's box, and how many filled cells there are where it is unfilled
pub record Numbered (order : List ℕ) (g : Grid) (scans : List ℕ) : Type 0 where
  pub is_order : axes g.sides ≡ order
  pub few : length (scan order g) ≤ 128
  pub each : take (volume g.sides) scans ≡ map (scan_number (scan order g)) (box g.sides)

-- the cell u of a grid with its cell o at v lies in a box, on a cell with a scan number below 128
unfoldable pub lands : Sides → List ℕ → Cell → Cell → Cell → Bool
lands s scans v o u =
    let w = lies v o u in
    ltb w.x s.a && (ltb w.y s.b && (ltb w.z s.c && ltb (get_or scans (place_of s w) 0) 128))

-- where a map takes each filled cell, by scan numbers
unfoldable pub board_images : List ℕ → Grid → Map → List ℕ
board_images order g m =
    let cs = scan order g in
    map (λ i. scan_number cs (map_cell m g.sides (get_or cs i (record { x = 0; y = 0; z = 0 })))) (below (length cs))

-- the same by places: the numbers at the places onto which a map takes the first n places
unfoldable pub place_images : Sides → Map → List ℕ → List ℕ → ℕ → List ℕ
place_images s m places scans n = map (λ i. get_or scans (image_place m s i) 0) (take n places)

-- places of a box, and a number for each of its places
pub record CanMove (s : Sides) (places scans : List ℕ) (n : ℕ) : Type 0 where
  pub short : ShortSides s
  pub within : n ≤ length places
  pub in_box : T (all (λ i. ltb i (volume s)) (take n places))
  pub enough : volume s ≤ length scans

-- where the images of n maps stood there are now those of m: the same, and behind them those of a list; what lies behind these is as it was
pub record Pictured (old : List ℕ) (n : ℕ) (new : List ℕ) (m size : ℕ) (fs : List (List ℕ)) : Type 0 where
  pub count : m ≡ n + length fs
  pub images : images_in new size 0 m ≡ images_in old size 0 n ++ fs
  pub behind : drop (128 * m) new ≡ drop (128 * m) old
