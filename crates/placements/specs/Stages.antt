-- The table of refusals in the stages in which the code tests it.
use Rattle.std.specs.Prelude.{ℕ, not, ◌&&◌, List, [], ◌∷◌, ltb, length, Result, Ok, Err}
use Rattle.lists.specs.Lists.{all}
use Rattle.definitions.specs.Placements.{Compiled}
use Rattle.definitions.specs.Refusals.{Row, row, sides_fit, cells_lie, are_bits, some_filled, copy_count, board_cell_count, is_ported, is_knuth, placement_count, link_count}
use Rattle.definitions.specs.Outcomes.{number_of}
use Rattle.definitions.specs.declared.Record.{Record}
use Rattle.definitions.specs.declared.Config.{Config}
use Rattle.definitions.specs.declared.Refusal.{Refusal}
use Rattle.placements.specs.Pieces.{lent_in}

-- the number of a refusal, 0 where a call is accepted
abbrev pub verdict_number : Result (Unit {0}) Refusal → ℕ
verdict_number (Ok accepted) = 0
verdict_number (Err why) = number_of why

-- rows 5 to 9, 2 to 9, 10 and 11, 12 and 13, 14 and 15
unfoldable pub grid_rows : List Record → Record → List ℕ → List Row
grid_rows rs board bytes =
    let t = lent_in rs board bytes in
    row 5 (not (are_bits t.board && all (λ q. are_bits q.grid) t.pieces)) ∷
    row 6 (not (all (λ q. some_filled q.grid) t.pieces)) ∷
    row 8 (ltb 128 (copy_count t)) ∷
    row 9 (ltb 128 (board_cell_count t)) ∷
    []

unfoldable pub lent_rows : List Record → Record → List ℕ → List Row
lent_rows rs board bytes =
    row 2 (ltb 16 (length rs)) ∷
    row 3 (not (all sides_fit (board ∷ rs))) ∷
    row 4 (not (all (cells_lie bytes) (board ∷ rs))) ∷
    grid_rows rs board bytes

-- the configuration; and the slices, by their lengths
unfoldable pub config_rows : Config → List Row
config_rows config =
    row 10 (config.identify_mirrored_answers && not config.identify_transformed_answers) ∷
    row 11 (not (is_ported config.solver)) ∷
    []

unfoldable pub slice_rows : Config → ℕ → ℕ → List Row
slice_rows config work links =
    row 12 (ltb work 8192) ∷
    row 13 (is_knuth config.solver && ltb links 32768) ∷
    []

-- the counts, by their numbers and of a compiled tray
unfoldable pub count_rows_by : ℕ → ℕ → Config → List Row
count_rows_by placements links config =
    row 14 (ltb 1024 placements) ∷
    row 15 (is_knuth config.solver && ltb 4096 links) ∷
    []

unfoldable pub count_rows : Compiled → Config → List Row
count_rows c config = count_rows_by (placement_count c) (link_count c) config
