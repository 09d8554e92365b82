-- The catalogue for a few cells, pages at their ends, and what `catalogue` prints, as tables that antt computes (proofs/CatalogueTableLaws).
use Rattle.std.specs.Prelude.{ℕ, ◌-◌, ◌^◌, Bool, true, false, not, ◌&&◌, ◌||◌, List, [], ◌∷◌, ◌++◌, map, eqb, length, replicate}
use Rattle.lists.specs.Lists.{joined, same}
use Rattle.definitions.specs.Grid.{sides_then_cells}
use Rattle.definitions.specs.Boundaries.{Printed, prints}
use Rattle.definitions.specs.Catalogue.{catalogue}
use Rattle.definitions.specs.CatalogueCalls.{CatalogueCall, catalogue_outcome, catalogue_printed}

-- ---- lists: how many cells, and the grids' sides and cells, one after the other
pub record ListCase : Type 0 where
  pub n : ℕ
  pub grids : List (List ℕ)

abbrev pub list_case : ℕ → List (List ℕ) → ListCase
list_case n grids = record { n = n; grids = grids }

unfoldable pub lists_of_pieces : List ListCase
lists_of_pieces =
    list_case 1 ((1 ∷ 1 ∷ 1 ∷ 1 ∷ []) ∷ []) ∷
    list_case 2 ((1 ∷ 1 ∷ 2 ∷ 1 ∷ 1 ∷ []) ∷ []) ∷
    list_case 3 ((1 ∷ 1 ∷ 3 ∷ 1 ∷ 1 ∷ 1 ∷ []) ∷ (1 ∷ 2 ∷ 2 ∷ 0 ∷ 1 ∷ 1 ∷ 1 ∷ []) ∷ []) ∷
    -- cells that meet at edges alone do not hang together (there would be twelve); the last two are mirror images of each other
    list_case 4
    ((1 ∷ 1 ∷ 4 ∷ 1 ∷ 1 ∷ 1 ∷ 1 ∷ []) ∷ (1 ∷ 2 ∷ 2 ∷ 1 ∷ 1 ∷ 1 ∷ 1 ∷ []) ∷ (1 ∷ 2 ∷ 3 ∷ 0 ∷ 0 ∷ 1 ∷ 1 ∷ 1 ∷ 1 ∷ []) ∷
    (1 ∷ 2 ∷ 3 ∷ 0 ∷ 1 ∷ 0 ∷ 1 ∷ 1 ∷ 1 ∷ []) ∷ (1 ∷ 2 ∷ 3 ∷ 0 ∷ 1 ∷ 1 ∷ 1 ∷ 1 ∷ 0 ∷ []) ∷
    (2 ∷ 2 ∷ 2 ∷ 0 ∷ 0 ∷ 0 ∷ 1 ∷ 0 ∷ 1 ∷ 1 ∷ 1 ∷ []) ∷ (2 ∷ 2 ∷ 2 ∷ 0 ∷ 0 ∷ 0 ∷ 1 ∷ 1 ∷ 0 ∷ 1 ∷ 1 ∷ []) ∷
    (2 ∷ 2 ∷ 2 ∷ 0 ∷ 0 ∷ 0 ∷ 1 ∷ 1 ∷ 1 ∷ 0 ∷ 1 ∷ []) ∷ []) ∷
    []

-- so many entries, one after the other; lists of one length that are the same
unfoldable pub is_list_of_pieces : ListCase → Bool
is_list_of_pieces x = eqb (length (catalogue x.n)) (length x.grids) && same (joined (map sides_then_cells (catalogue x.n))) (joined x.grids)

-- "For one to five cells there are 1, 1, 2, 8 and 29." (166 for six, which takes longer: CatalogueSizeLaws of theorems.)
unfoldable pub numbers_of_pieces : Bool
numbers_of_pieces = same (map (λ n. length (catalogue n)) (1 ∷ 2 ∷ 3 ∷ 4 ∷ 5 ∷ [])) (1 ∷ 1 ∷ 2 ∷ 8 ∷ 29 ∷ [])

-- ---- pages: how many cells, the skip, how many bytes are lent (each a 7); what is returned, and how the slice begins: behind that it is as it was
pub record PageCase : Type 0 where
  pub call : CatalogueCall
  pub number : ℕ
  pub written : ℕ
  pub further : Bool
  pub begins : List ℕ

abbrev pub page_case : ℕ → ℕ → ℕ → ℕ → ℕ → Bool → List ℕ → PageCase
page_case n skip room number written further begins =
    record { call = record { n = n; skip = skip; entries = replicate room 7 }; number = number; written = written; further = further; begins = begins }

abbrev pub line_of_3 : List ℕ
line_of_3 = 1 ∷ 1 ∷ 3 ∷ 1 ∷ 1 ∷ 1 ∷ replicate 15 0

abbrev pub bent_3 : List ℕ
bent_3 = 1 ∷ 2 ∷ 2 ∷ 0 ∷ 1 ∷ 1 ∷ 1 ∷ replicate 14 0

unfoldable pub page_cases : List PageCase
page_cases =
    -- whole entries only, and whether one more follows, with room for none too
    page_case 3 0 0 0 0 true [] ∷
    page_case 3 0 20 0 0 true [] ∷
    page_case 3 0 21 0 1 true line_of_3 ∷
    page_case 3 0 41 0 1 true line_of_3 ∷
    page_case 3 0 42 0 2 false (line_of_3 ++ bent_3) ∷
    page_case 3 0 63 0 2 false (line_of_3 ++ bent_3) ∷
    page_case 3 1 21 0 1 false bent_3 ∷
    page_case 3 1 20 0 0 true [] ∷
    -- at the end, and past it
    page_case 3 2 21 0 0 false [] ∷
    page_case 3 (2 ^ 64 - 1) 21 0 0 false [] ∷
    page_case 1 0 21 0 1 false (1 ∷ 1 ∷ 1 ∷ 1 ∷ replicate 17 0) ∷
    page_case 2 0 21 0 1 false (1 ∷ 1 ∷ 2 ∷ 1 ∷ 1 ∷ replicate 16 0) ∷
    -- 21, whatever else is lent
    page_case 0 0 42 21 0 false [] ∷
    page_case 7 0 42 21 0 false [] ∷
    page_case 7 (2 ^ 64 - 1) 0 21 0 false [] ∷
    page_case (2 ^ 32 - 1) 0 42 21 0 false [] ∷
    []

unfoldable pub is_page_case : PageCase → Bool
is_page_case x =
    let o = catalogue_outcome x.call in
    eqb o.number x.number
    && (eqb o.written x.written
    && (same o.entries (x.begins ++ replicate (length x.call.entries - length x.begins) 7)
    && (o.further && x.further || not o.further && not x.further)))

-- ---- the program
unfoldable pub requests : List Printed
requests =
    prints "cells\t1\n" "piece\t1\t1\t1\t1\t1\npieces\t1\n" ∷
    prints "cells\t3\n" "piece\t1\t1\t1\t3\t111\npiece\t1\t1\t2\t2\t0111\npieces\t2\n" ∷
    prints "cells\t0000000003\n" "piece\t1\t1\t1\t3\t111\npiece\t1\t1\t2\t2\t0111\npieces\t2\n" ∷
    -- another number
    prints "cells\t0\n" "refused\t21\n" ∷
    prints "cells\t7\n" "refused\t21\n" ∷
    prints "cells\t4294967295\n" "refused\t21\n" ∷
    -- another text
    prints "cells\t4294967296\n" "refused\t16\n" ∷
    prints "cells\t00000000003\n" "refused\t16\n" ∷
    prints "cells\t3" "refused\t16\n" ∷
    prints "cells\t3\n\n" "refused\t16\n" ∷
    prints "cells\t3\t\n" "refused\t16\n" ∷
    prints "cells\t\n" "refused\t16\n" ∷
    prints "cells 3\n" "refused\t16\n" ∷
    prints "cells\t-3\n" "refused\t16\n" ∷
    prints "piece\t3\n" "refused\t16\n" ∷
    prints "" "refused\t16\n" ∷
    []

unfoldable pub is_printed_by_catalogue : Printed → Bool
is_printed_by_catalogue x = same (catalogue_printed x.read) x.prints
