-- Document 01, "Placements".
use Rattle.std.specs.Prelude.{ℕ, ◌+◌, ◌-◌, Bool, ◌&&◌, List, map, leb}
use Rattle.lists.specs.Lists.{keep, all, any, head_or, numbered, joined}
use Rattle.definitions.specs.Grid.{Grid, Cell, same_cell}
use Rattle.definitions.specs.Stripping.{Frame}
use Rattle.definitions.specs.Scan.{axes, scan, scan_number}
use Rattle.definitions.specs.Kinds.{Tray, Kind, kinds_of, variants}

-- "The origin is the first filled cell in scan order." A variant is given by its filled cells in scan order.
unfoldable pub origin : List Cell → Cell
origin us = head_or (record { x = 0; y = 0; z = 0 }) us

-- where the cell u of a variant lies when the variant's origin o lies on the board cell v; this needs that o reaches no further than v
unfoldable pub lies : Cell → Cell → Cell → Cell
lies v o u = record { x = v.x - o.x + u.x; y = v.y - o.y + u.y; z = v.z - o.z + u.z }

unfoldable pub reaches : Cell → Cell → Bool
reaches v o = leb o.x v.x && leb o.y v.y && leb o.z v.z

-- a variant fits with its origin on v if each of its cells lies on a filled board cell
unfoldable pub fits : List Cell → Cell → List Cell → Bool
fits board v us = reaches v (origin us) && all (λ u. any (same_cell (lies v (origin us) u)) board) us

-- "A placement is (p, j): p is the scan number among filled board cells that the origin lies on, j the variant's number among those that fit there."
-- With it go its kind's number and the scan numbers of its cells, ascending.
pub record Placement : Type 0 where
  pub kind : ℕ
  pub p : ℕ
  pub j : ℕ
  pub cells : List ℕ

unfoldable pub placements_at : List Cell → ℕ → List (List Cell) → ℕ → Cell → List Placement
placements_at board k vs n v =
    numbered (keep (fits board v) vs) (λ i us. record { kind = k; p = n; j = i; cells = map (λ u. scan_number board (lies v (origin us) u)) us })

unfoldable pub placements_of : List ℕ → List Cell → ℕ → Kind → List Placement
placements_of order board k d =
    let vs = map (scan order) (variants d.shape) in
    joined (numbered board (placements_at board k vs))

-- What a tray comes to (`CompiledProblem` of fast.rs): the filled board cells in scan order, the kinds, and all placements by kind, then (p, j).
pub record Compiled : Type 0 where
  pub board : Grid
  pub frame : Frame
  pub cells : List Cell
  pub kinds : List Kind
  pub placements : List Placement

unfoldable pub compile : Tray → Compiled
compile t =
    let order = axes t.board.sides in
    let cs = scan order t.board in
    let ks = kinds_of t in
    record { board = t.board; frame = t.frame; cells = cs; kinds = ks; placements = joined (numbered ks (placements_of order cs)) }
