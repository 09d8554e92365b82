-- How many placements a grid has on a board.
use Rattle.std.specs.Prelude.{ℕ, ◌≤◌, ◌<◌, List, [], map, ◌≡◌, T, ltb, length, take, get_or}
use Rattle.lists.specs.Lists.{all, how_many, sum}
use Rattle.definitions.specs.Grid.{Grid, volume}
use Rattle.definitions.specs.Scan.{axes, scan}
use Rattle.definitions.specs.Kinds.{variants}
use Rattle.definitions.specs.Placements.{Compiled, compile, fits}
use Rattle.definitions.specs.Refusals.{grid_of, sides_of, placement_count, link_count, first_that_applies}
use Rattle.definitions.specs.declared.Record.{Record}
use Rattle.shape.specs.Places.{cell_at}
use Rattle.shape.specs.Variants.{Numbers}
use Rattle.placements.specs.declared.Pieces.{Pieces}
use Rattle.placements.specs.declared.counted.Turnings.{Turnings}
use Rattle.placements.specs.declared.counting.Counts.{Counts}
use Rattle.placements.specs.Pieces.{records_of, lent_in}
use Rattle.placements.specs.Merging.{grid_at, AreKinds}
use Rattle.placements.specs.Stages.{lent_rows}

-- the first n places are those of a board's filled cells in scan order, and there are at most 128
pub record OnBoard (order : List ℕ) (g : Grid) (places : List ℕ) (n : ℕ) : Type 0 where
  pub is_order : axes g.sides ≡ order
  pub within : n ≤ length places
  pub few : n ≤ 128
  pub in_box : T (all (λ i. ltb i (volume g.sides)) (take n places))
  pub cells : map (cell_at g.sides) (take n places) ≡ scan order g

-- how often grids fit on a board, each with its origin on each filled cell; and how many placements a grid has
unfoldable pub fits_in : List ℕ → Grid → List Grid → ℕ
fits_in order board grids = let cs = scan order board in let vs = map (scan order) grids in sum (map (λ v. how_many (fits cs v) vs) cs)

unfoldable pub placements_in : List ℕ → Grid → Grid → ℕ
placements_in order board g = fits_in order board (variants g)

-- placements and links, as 14 and 15 count them
pub record CountsOf (c : Compiled) (r : Counts) : Type 0 where
  pub placements : r.placements ≡ placement_count c
  pub links : r.links ≡ link_count c

-- what stands for variants past a list's end; the map numbers of variants; and that these are a grid's variants
abbrev pub no_turnings : Turnings
no_turnings = record { count = 0; numbers = [] }

abbrev pub numbers_of : Turnings → List ℕ
numbers_of v = take v.count v.numbers

abbrev pub AreVariants : Grid → Turnings → Type 0
AreVariants g v = Numbers g (variants g) v.numbers v.count

-- what counting leaves of a tray: the places of the board's filled cells, a piece of each kind, each kind's variants, and the counts
pub record Counted (t : Pieces) (board : Record) (bytes places first : List ℕ) (turnings : List Turnings) (r : Counts) : Type 0 where
  pub on_board : OnBoard (axes (sides_of board)) (grid_of bytes board) places r.size
  pub are_kinds : AreKinds t bytes first r.kinds
  pub each_kind : (k : ℕ) → k < r.kinds → AreVariants (grid_at t bytes (get_or first k 0)) (get_or turnings k no_turnings)
  pub counts : CountsOf (compile (lent_in (records_of t) board bytes)) r

-- rows 2 to 9 let a tray pass
abbrev pub Accepted9 : Pieces → Record → List ℕ → Type 0
Accepted9 t board bytes = first_that_applies (lent_rows (records_of t) board bytes) ≡ 0
