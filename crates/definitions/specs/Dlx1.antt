-- Document 02, A2, "Hand the tray to Knuth's own programs": the text that Knuth's DLX1 reads. What DLX1 finds in it is specs/Dlx1Covers.
use Rattle.std.specs.Prelude.{ℕ, List, [], ◌∷◌, ◌++◌, map, ltb, length, get_or}
use Rattle.lists.specs.Lists.{keep, below, member, joined}
use Rattle.definitions.specs.Grid.{filled_cells}
use Rattle.definitions.specs.Scan.{scan_number}
use Rattle.definitions.specs.Placements.{Placement, Compiled}
use Rattle.definitions.specs.Packing.{limits}
use Rattle.definitions.specs.Refusals.{rows_of}
use Rattle.definitions.specs.Files.{decimal}

-- the items: "the filled cells b0, b1 and so on by scan number"; "p and the kind's number", which is document 01's, with gaps where kinds have no copies
unfoldable pub cell_item : ℕ → List ℕ
cell_item n = 98 ∷ decimal n

unfoldable pub kind_item : ℕ → List ℕ
kind_item k = 112 ∷ decimal k

-- "Items and the bar are parted by one space, lines end in a line feed." (`parted`: words behind another, each with the space before it)
abbrev pub parted : List (List ℕ) → List ℕ
parted ws = joined (map (λ v. 32 ∷ v) ws)

abbrev pub spaced : List (List ℕ) → List ℕ
spaced [] = []
spaced (w ∷ ws) = w ++ parted ws

unfoldable pub line : List (List ℕ) → List ℕ
line words = spaced words ++ 10 ∷ []

-- "the kinds that have copies", where the copies of each kind are given
unfoldable pub stocked : List ℕ → List ℕ
stocked copies = keep (λ k. ltb 0 (get_or copies k 0)) (below (length copies))

-- "then a bar and the kinds"; "where no kind has copies the bar is left out"
abbrev pub barred : List (List ℕ) → List (List ℕ)
barred [] = []
barred (w ∷ ws) = (124 ∷ []) ∷ w ∷ ws

-- "The first line names the filled cells .., then a bar and the kinds that have copies": of so many cells, and the copies of each kind
unfoldable pub item_line : ℕ → List ℕ → List ℕ
item_line size copies = line (map cell_item (below size) ++ barred (map kind_item (stocked copies)))

-- "the cells in each [line] come in the order in which `solve_knuth` builds rows": that of the cells of the turned grid, x slowest, z fastest. Set down on the
-- board they stand in the order of the board's box (BuiltOrder of specs/Dlx1Covers), so a row's cells are those of the board, in that order, that it has.
-- (Scan order compares the axes in another order, and the first cell need not be p.)
unfoldable pub boxed : Compiled → List ℕ
boxed c = map (scan_number c.cells) (filled_cells c.board)

unfoldable pub built_cells : List ℕ → Placement → List ℕ
built_cells boxed q = keep (λ n. member n q.cells) boxed

-- "Each following line is one placement of a kind that has copies: its kind, then its cells"
unfoldable pub option_line : List ℕ → Placement → List ℕ
option_line boxed q = line (kind_item q.kind ∷ map cell_item (built_cells boxed q))

unfoldable pub dlx1_text : Compiled → List ℕ
dlx1_text c = item_line (length c.cells) (limits c) ++ joined (map (option_line (boxed c)) (rows_of c))
