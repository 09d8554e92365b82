-- Document 01, "The program `pack`": the tray's file, which is read, and the listing, which is printed, as bytes.
use Rattle.std.specs.Prelude.{ℕ, zero, suc, ◌+◌, ◌-◌, ◌*◌, ◌/◌, ◌%◌, ◌^◌, Bool, cond, not, ◌&&◌, ◌||◌, List, [], ◌∷◌, ◌++◌, map, ltb, leb, eqb, length, get_or, take, drop, replicate}
use Rattle.lists.specs.Lists.{all, same, is_empty, joined, numbered}
use Rattle.definitions.specs.Texts.{text}
use Rattle.definitions.specs.Refusals.{Call, tray_of, identify_of, refusal}
use Rattle.definitions.specs.Outcomes.{answers_of}
use Rattle.definitions.specs.declared.SolverKind.{SolverKind}
use Rattle.definitions.specs.declared.SolverKind.TheVariants.{Fast, KnuthAlgorithm}
use Rattle.definitions.specs.declared.Record.{Record}

-- ---- a tray as it is written
-- a grid with a count and a wood; a board's are not written
pub record Written : Type 0 where
  pub count : ℕ
  pub wood : ℕ
  pub a : ℕ
  pub b : ℕ
  pub c : ℕ
  pub cells : List ℕ

-- records for such grids, their cells lent one after the other from a place on
abbrev pub record_at : ℕ → Written → Record
record_at start g = record { a = g.a; b = g.b; c = g.c; count = g.count; wood = g.wood; start = start }

abbrev pub records_from : ℕ → List Written → List Record
records_from start [] = []
records_from start (g ∷ gs) = record_at start g ∷ records_from (start + length g.cells) gs

-- a call on such a tray: the pieces' cells are lent first, then the board's; the slices lent hold a number, given with their lengths
unfoldable pub call_on : Written → List Written → Bool → Bool → SolverKind → ℕ → ℕ → Call
call_on board pieces turned mirrored engine skip room =
    let bytes = joined (map (λ (g : Written). g.cells) pieces) in
    record {
      pieces = records_from 0 pieces;
      board = record_at (length bytes) board;
      bytes = bytes ++ board.cells;
      config = record { identify_transformed_answers = turned; identify_mirrored_answers = mirrored; solver = engine };
      skip = skip;
      answers = replicate room 7;
      work = replicate 8192 7;
      links = replicate 32768 7;
    }

-- ---- the file
-- "fields parted by tabs, each line ended by a line feed": the parts of a text between two bytes b, one more than there are such bytes
abbrev pub on_first : ℕ → List (List ℕ) → List (List ℕ)
on_first x [] = (x ∷ []) ∷ []
on_first x (w ∷ ws) = (x ∷ w) ∷ ws

abbrev pub parts : ℕ → List ℕ → List (List ℕ)
parts b [] = [] ∷ []
parts b (x ∷ xs) = let rest = parts b xs in cond (eqb x b) ([] ∷ rest) (on_first x rest)

unfoldable pub fields_of : List ℕ → List (List ℕ)
fields_of line = parts 9 line

unfoldable pub field : List ℕ → ℕ → List ℕ
field line n = get_or (fields_of line) n []

-- what stands before the last line feed, by lines, and what stands behind it: nothing, where each line is ended
abbrev pub without_last : List (List ℕ) → List (List ℕ)
without_last [] = []
without_last (w ∷ []) = []
without_last (w ∷ v ∷ ws) = w ∷ without_last (v ∷ ws)

abbrev pub last_of : List (List ℕ) → List ℕ
last_of [] = []
last_of (w ∷ []) = w
last_of (w ∷ v ∷ ws) = last_of (v ∷ ws)

unfoldable pub lines_of : List ℕ → List (List ℕ)
lines_of bytes = without_last (parts 10 bytes)

-- "sides have one to three decimal digits, counts one to nine"
unfoldable pub is_digit : ℕ → Bool
is_digit x = leb 48 x && leb x 57

unfoldable pub is_number : ℕ → List ℕ → Bool
is_number most ds = not (is_empty ds) && (leb (length ds) most && all is_digit ds)

abbrev pub number_from : ℕ → List ℕ → ℕ
number_from n [] = n
number_from n (d ∷ ds) = number_from (n * 10 + (d - 48)) ds

unfoldable pub number_in : List ℕ → ℕ
number_in ds = number_from 0 ds

-- "three sides, cells" from field n on. "Cells are `0` and `1`, exactly a × b × c of them"
unfoldable pub grid_in : ℕ → ℕ → ℕ → List ℕ → Written
grid_in count wood n line =
    record { count = count; wood = wood; a = number_in (field line n); b = number_in (field line (n + 1)); c = number_in (field line (n + 2)); cells = map (λ x. x - 48) (field line (n + 3)) }

unfoldable pub is_grid_in : ℕ → List ℕ → Bool
is_grid_in n line =
    is_number 3 (field line n) && (is_number 3 (field line (n + 1)) && (is_number 3 (field line (n + 2))
    && (all (λ x. eqb x 48 || eqb x 49) (field line (n + 3))
    && eqb (length (field line (n + 3))) (number_in (field line n) * number_in (field line (n + 1)) * number_in (field line (n + 2))))))

-- "`config`, engine (`fast`, `knuth`), `none`, `turned` or `mirrored`; `board`, three sides, cells; then any number of `piece`, count, three sides, cells."
unfoldable pub is_config : List ℕ → Bool
is_config line =
    eqb (length (fields_of line)) 3 && (same (field line 0) (text "config")
    && ((same (field line 1) (text "fast") || same (field line 1) (text "knuth"))
    && (same (field line 2) (text "none") || (same (field line 2) (text "turned") || same (field line 2) (text "mirrored")))))

unfoldable pub is_board : List ℕ → Bool
is_board line = eqb (length (fields_of line)) 5 && (same (field line 0) (text "board") && is_grid_in 1 line)

-- Document 02, A5: "a piece line may end with the wood as a further field of one to three digits, absent meaning 0, and a value above 255 is malformed."
unfoldable pub is_wood : List ℕ → Bool
is_wood ds = is_number 3 ds && leb (number_in ds) 255

unfoldable pub has_piece_fields : List ℕ → Bool
has_piece_fields line = eqb (length (fields_of line)) 6 || (eqb (length (fields_of line)) 7 && is_wood (field line 6))

unfoldable pub is_piece : List ℕ → Bool
is_piece line = has_piece_fields line && (same (field line 0) (text "piece") && (is_number 9 (field line 1) && is_grid_in 2 line))

-- field 6 of a line with six fields is the empty list, and the number in it is 0
unfoldable pub wood_in : List ℕ → ℕ
wood_in line = number_in (field line 6)

unfoldable pub piece_in : List ℕ → Written
piece_in line = grid_in (number_in (field line 1)) (wood_in line) 2 line

-- "at most 16,384 bytes (more is 16)"; "All else is 16."
unfoldable pub is_file : List ℕ → Bool
is_file bytes =
    let ls = lines_of bytes in
    leb (length bytes) 16384 && (is_empty (last_of (parts 10 bytes)) && (leb 2 (length ls)
    && (is_config (get_or ls 0 []) && (is_board (get_or ls 1 []) && all is_piece (drop 2 ls)))))

-- What a file asks for. "`mirrored` identifies turned packings too."
unfoldable pub call_in : List ℕ → ℕ → ℕ → Call
call_in bytes skip room =
    let ls = lines_of bytes in
    let config = get_or ls 0 [] in
    let knuth = same (field config 1) (text "knuth") in
    let mirrored = same (field config 2) (text "mirrored") in
    call_on (grid_in 0 0 1 (get_or ls 1 [])) (map piece_in (drop 2 ls)) (same (field config 2) (text "turned") || mirrored) mirrored
    (cond knuth KnuthAlgorithm Fast) skip room

-- ---- the listing
-- a number in decimal, of at most 20 digits
abbrev pub decimal_with : ℕ → ℕ → List ℕ
decimal_with zero n = []
decimal_with (suc fuel) n = let more = decimal_with fuel (n / 10) ++ ((n % 10 + 48) ∷ []) in cond (ltb n 10) ((n + 48) ∷ []) more

unfoldable pub decimal : ℕ → List ℕ
decimal n = decimal_with 20 n

-- "box cells as piece`.`copy or `-` parted by spaces"
unfoldable pub cell_shown : ℕ → ℕ → List ℕ
cell_shown piece copy = cond (eqb piece 255 && eqb copy 255) (45 ∷ []) (decimal piece ++ 46 ∷ decimal copy)

abbrev pub cells_shown : List ℕ → List ℕ
cells_shown [] = []
cells_shown (x ∷ []) = []
cells_shown (x ∷ y ∷ []) = cell_shown x y
cells_shown (x ∷ y ∷ z ∷ rest) = cell_shown x y ++ 32 ∷ cells_shown (z ∷ rest)

-- "a line for each packing: entry number from 0, tab, box cells"; "last `packings`, tab, how many"; "`refused`, tab, number, alone"
unfoldable pub entry_line : ℕ → List ℕ → List ℕ
entry_line n answer = decimal n ++ 9 ∷ cells_shown answer ++ 10 ∷ []

unfoldable pub last_line : ℕ → List ℕ
last_line n = text "packings" ++ 9 ∷ decimal n ++ 10 ∷ []

unfoldable pub refused_line : ℕ → List ℕ
refused_line n = text "refused" ++ 9 ∷ decimal n ++ 10 ∷ []

-- "Entry numbers have 64 bits; were they used up, the program would stop there without its last line."
unfoldable pub listing : List (List ℕ) → List ℕ
listing answers =
    let entries = joined (numbered (take (2 ^ 64) answers) entry_line) in
    let last = last_line (length answers) in
    cond (ltb (length answers) (2 ^ 64)) (entries ++ last) entries

-- What `pack` prints for what it reads. 16: "program only, before the rest: malformed file".
unfoldable pub packed : List ℕ → List ℕ
packed bytes =
    let l = call_in bytes 0 0 in
    let n = refusal l in
    let listed = listing (answers_of (tray_of l) (identify_of l.config) l.config.solver) in
    let refused = refused_line n in
    cond (is_file bytes) (cond (eqb n 0) listed refused) (refused_line 16)
