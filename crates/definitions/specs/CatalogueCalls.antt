-- Document 02, A11: the call for a page of the catalogue, and the program `catalogue`.
use Rattle.std.specs.Prelude.{ℕ, ◌+◌, ◌-◌, ◌*◌, ◌/◌, ◌<◌, ◌≤◌, min, Bool, false, cond, not, ◌&&◌, ◌≡◌, ◌↔◌, T, ltb, leb, eqb, length, take, drop, get_or, replicate, Result, Ok, Err}
use mathlib.Core.List.{List, [], ◌∷◌, ◌++◌, map, Memᴰ}
use Rattle.lists.specs.Lists.{all, is_empty, joined, same, Apart}
use Rattle.definitions.specs.Texts.{text}
use Rattle.definitions.specs.Grid.{Grid}
use Rattle.definitions.specs.Page.{Page, page}
use Rattle.definitions.specs.Refusals.{Row, row, first_that_applies}
use Rattle.definitions.specs.Outcomes.{number_of, over_start}
use Rattle.definitions.specs.Files.{parts, last_of, lines_of, fields_of, field, is_number, number_in, is_piece, piece_in, decimal, refused_line}
use Rattle.definitions.specs.Catalogue.{AllPieces, catalogue}
use Rattle.definitions.specs.declared.Page.{Page as WrittenPage}
use Rattle.definitions.specs.declared.Refusal.{Refusal}

-- All that such a call takes: how many cells, the skip, and the entry slice, as it was before it. "Pages work as for packings, with the entry slice alone".
pub record CatalogueCall : Type 0 where
  pub n : ℕ
  pub skip : ℕ
  pub entries : List ℕ

-- "21 when n is not 1 to 6, before all else"; "no refusal of a tray applies"
unfoldable pub catalogue_table : ℕ → List Row
catalogue_table n = row 21 (not (leb 1 n && leb n 6)) ∷ []

unfoldable pub catalogue_refusal : ℕ → ℕ
catalogue_refusal n = first_that_applies (catalogue_table n)

-- "An entry has 21 bytes: three sides, the cells, then zeros."
unfoldable pub entry_bytes : Grid → List ℕ
entry_bytes g = g.sides.a ∷ g.sides.b ∷ g.sides.c ∷ g.cells ++ replicate (18 - length g.cells) 0

unfoldable pub catalogue_page : CatalogueCall → Page
catalogue_page l = page (map entry_bytes (catalogue l.n)) l.skip (length l.entries / 21)

-- What a call returns (number 0: it is accepted), and the entry slice afterwards.
pub record CatalogueOutcome : Type 0 where
  pub number : ℕ
  pub written : ℕ
  pub further : Bool
  pub entries : List ℕ

unfoldable pub catalogue_refused : ℕ → CatalogueCall → CatalogueOutcome
catalogue_refused n l = record { number = n; written = 0; further = false; entries = l.entries }

unfoldable pub catalogue_accepted : CatalogueCall → CatalogueOutcome
catalogue_accepted l =
    let g = catalogue_page l in
    record { number = 0; written = g.written; further = g.further; entries = over_start (joined g.entries) l.entries }

unfoldable pub catalogue_outcome : CatalogueCall → CatalogueOutcome
catalogue_outcome l =
    let n = catalogue_refusal l.n in
    let yes = catalogue_accepted l in
    let no = catalogue_refused n l in
    cond (eqb n 0) yes no

-- what the code of such a call hands back, and what it says, with the slice that it leaves
abbrev pub CatalogueReply : Type 0
CatalogueReply = Result WrittenPage Refusal

abbrev pub catalogue_outcome_of : CatalogueReply → List ℕ → CatalogueOutcome
catalogue_outcome_of (Ok p) entries = record { number = 0; written = p.written; further = p.further; entries = entries }
catalogue_outcome_of (Err why) entries = record { number = number_of why; written = 0; further = false; entries = entries }

-- ---- the demands on such a call, for anything that runs such calls: run l is what it makes of the call l
-- a refused call: the number, and nothing written or changed
pub record RefusedBy21 (l : CatalogueCall) (o : CatalogueOutcome) : Type 0 where
  pub number : o.number ≡ 21
  pub writes_none : o.written ≡ 0
  pub says_none_follows : o.further ≡ false
  pub entries_kept : o.entries ≡ l.entries

-- what an accepted call leaves is its stretch of a list of entries, as a listing's is of its list (`Stretch`), whatever the slice held
pub record CatalogueStretch (list : List (List ℕ)) (l : CatalogueCall) (o : CatalogueOutcome) : Type 0 where
  pub number : o.number ≡ 0
  pub capacity : ℕ
  pub they_fit : capacity * 21 ≤ length l.entries
  pub one_more_does_not : length l.entries < (capacity + 1) * 21
  pub written : o.written ≡ min capacity (length list - l.skip)
  pub further : T o.further ↔ (l.skip + o.written < length list)
  pub bytes : o.entries ≡ joined (take o.written (drop l.skip list)) ++ drop (o.written * 21) l.entries
  pub entries_length : length o.entries ≡ length l.entries

-- of one call: 21 where the number of cells is not 1 to 6; else its stretch of the one list for that number
pub record CatalogueDemand (l : CatalogueCall) (o : CatalogueOutcome) : Type 0 where
  pub refused : ((1 ≤ l.n) × (l.n ≤ 6) → ⊥) → RefusedBy21 l o
  pub listed : 1 ≤ l.n → l.n ≤ 6 → CatalogueStretch (map entry_bytes (catalogue l.n)) l o

-- the one list: all pieces; no two entries have the same bytes, and each has 21, numbers below 256
pub record OneCatalogue (n : ℕ) (L : List Grid) : Type 0 where
  pub pieces : AllPieces n L
  pub none_twice : Apart (map entry_bytes L)
  pub entry_length : (g : Grid) → Memᴰ g L → length (entry_bytes g) ≡ 21
  pub are_bytes : (g : Grid) → Memᴰ g L → T (all (λ x. ltb x 256) (entry_bytes g))

pub record MeetsCatalogueDemand (run : CatalogueCall → CatalogueOutcome) : Type 0 where
  pub each_call : (l : CatalogueCall) → CatalogueDemand l (run l)
  pub each_list : (n : ℕ) → 1 ≤ n → n ≤ 6 → OneCatalogue n (catalogue n)

-- ---- the program `catalogue`
-- what it reads: one line, `cells`, tab, how many, a number of 32 bits in one to ten digits. All else is 16.
unfoldable pub asks_cells : List ℕ → Bool
asks_cells line =
    eqb (length (fields_of line)) 2 && (same (field line 0) (text "cells") && (is_number 10 (field line 1) && leb (number_in (field line 1)) 4294967295))

unfoldable pub is_request : List ℕ → Bool
is_request bytes =
    let ls = lines_of bytes in
    let line = get_or ls 0 [] in
    is_empty (last_of (parts 10 bytes)) && (eqb (length ls) 1 && asks_cells line)

unfoldable pub cells_asked : List ℕ → ℕ
cells_asked bytes = number_in (field (get_or (lines_of bytes) 0 []) 1)

-- an entry as a line that a tray's file can have: one copy of the piece; and the last line, how many pieces there are
unfoldable pub piece_shown : Grid → List ℕ
piece_shown g =
    text "piece\t1\t" ++ decimal g.sides.a ++ 9 ∷ decimal g.sides.b ++ 9 ∷ decimal g.sides.c ++ 9 ∷ map (λ n. n + 48) g.cells

abbrev pub piece_line : Grid → List ℕ
piece_line g = piece_shown g ++ 10 ∷ []

unfoldable pub count_shown : ℕ → List ℕ
count_shown n = text "pieces" ++ 9 ∷ decimal n

abbrev pub count_line : ℕ → List ℕ
count_line n = count_shown n ++ 10 ∷ []

-- What `catalogue` prints for what it reads: the entries and how many they are; or why there are none, as `pack` prints it.
unfoldable pub catalogue_listing : ℕ → List ℕ
catalogue_listing n = joined (map piece_line (catalogue n)) ++ count_line (length (catalogue n))

unfoldable pub catalogue_printed : List ℕ → List ℕ
catalogue_printed bytes =
    let n = catalogue_refusal (cells_asked bytes) in
    let listed = catalogue_listing (cells_asked bytes) in
    let refused = refused_line n in
    cond (is_request bytes) (cond (eqb n 0) listed refused) (refused_line 16)

-- a line is read in a tray's file as one copy of a grid, of wood 0
pub record Pasted (g : Grid) (line : List ℕ) : Type 0 where
  pub is_read : T (is_piece line)
  pub is_grid : piece_in line ≡ record { count = 1; wood = 0; a = g.sides.a; b = g.sides.b; c = g.sides.c; cells = g.cells }

-- for a request that is not refused: all pieces, a line for each that can be pasted into a tray, and last how many they are
pub record PrintsPieces (n : ℕ) (L : List Grid) (printed : List ℕ) : Type 0 where
  pub pieces : AllPieces n L
  pub lines : lines_of printed ≡ map piece_shown L ++ (count_shown (length L) ∷ [])
  pub ended : last_of (parts 10 printed) ≡ []
  pub pasted : (g : Grid) → Memᴰ g L → Pasted g (piece_shown g)

-- all that the program prints, whatever it reads
pub record CataloguePrintedRight : Type 0 where
  pub malformed : (bytes : List ℕ) → T (not (is_request bytes)) → catalogue_printed bytes ≡ refused_line 16
  pub refused : (bytes : List ℕ) → T (is_request bytes) → ((1 ≤ cells_asked bytes) × (cells_asked bytes ≤ 6) → ⊥) → catalogue_printed bytes ≡ refused_line 21
  pub listed : (bytes : List ℕ) → T (is_request bytes) → 1 ≤ cells_asked bytes → cells_asked bytes ≤ 6
      → PrintsPieces (cells_asked bytes) (catalogue (cells_asked bytes)) (catalogue_printed bytes)
