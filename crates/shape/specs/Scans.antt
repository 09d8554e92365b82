-- Scan order, cell by cell.
use Rattle.std.specs.Prelude.{ℕ, ◌*◌, ◌/◌, ◌%◌, ◌≤◌, Bool, cond, ◌&&◌, ◌||◌, List, map, ◌≡◌, ltb, eqb, length, take, drop, get_or}
use Rattle.lists.specs.Lists.{same}
use Rattle.definitions.specs.Grid.{Sides, Cell, Grid}
use Rattle.definitions.specs.Maps.{side, coordinate}
use Rattle.definitions.specs.Scan.{cell_ahead, scan}
pub use Rattle.shape.specs.Orders.{EachOnce, IsOrder, axis_list}
use Rattle.shape.specs.Places.{cell_at}
use Rattle.shape.specs.Grids.{order_by}
use Rattle.std.specs.declared.cmp.Ordering.{Ordering}
use Rattle.shape.specs.declared.orders.AxisOrder.{AxisOrder}

abbrev pub as_order : AxisOrder → List ℕ
as_order o = axis_list o.first o.second o.third

-- a cell's coordinates along the axes of an order
abbrev pub cell_along : List ℕ → Cell → Cell
cell_along order u = record { x = coordinate u (get_or order 0 0); y = coordinate u (get_or order 1 0); z = coordinate u (get_or order 2 0) }

-- how two cells compare in an order of the axes
unfoldable pub cell_order : List ℕ → Cell → Cell → Ordering
cell_order order u v = order_by (cell_ahead order u v) (same (map (coordinate u) order) (map (coordinate v) order))

-- axis i, whose side is m, is compared before axis j, whose side is n
unfoldable pub axis_before : ℕ → ℕ → ℕ → ℕ → Bool
axis_before m i n j = ltb n m || (eqb m n && ltb j i)

-- the coordinate along an axis of a cell whose coordinates along the axes of an order are i, j, k
unfoldable pub placed_along : List ℕ → ℕ → ℕ → ℕ → ℕ → ℕ
placed_along order axis i j k = cond (eqb (get_or order 0 0) axis) i (cond (eqb (get_or order 1 0) axis) j k)

-- cell n of a box in an order of its axes: the last axis fastest
unfoldable pub nth_cell : List ℕ → Sides → ℕ → Cell
nth_cell order s n =
    let q = side s (get_or order 1 0) in
    let r = side s (get_or order 2 0) in
    let i = n / (q * r) in
    let j = n / r % q in
    let k = n % r in
    record { x = placed_along order 0 i j k; y = placed_along order 1 i j k; z = placed_along order 2 i j k }

-- the first n places are those of a grid's filled cells in scan order; what lies behind them is as it was
pub record Scanned (order : List ℕ) (g : Grid) (before after : List ℕ) (n : ℕ) : Type 0 where
  pub within : n ≤ length before
  pub cells : map (cell_at g.sides) (take n after) ≡ scan order g
  pub kept : drop n after ≡ drop n before
