-- Document 02, A2: what a text says, read as DLX1 reads it, and its exact covers. Nothing of trays is in the reading. What is claimed of a tray's text stands
-- at the end; TextRightLaws (theorems) proves it.
use Rattle.std.specs.Prelude.{ℕ, ◌+◌, ◌<◌, Bool, not, ◌&&◌, ◌||◌, ◌≡◌, ◌↔◌, T, ltb, leb, eqb, length, get_or, take, drop}
use mathlib.Core.List.{List, [], ◌∷◌, ◌++◌, map, Memᴰ}
use Rattle.lists.specs.Lists.{all, any, how_many, keep, before, same, ascending, is_empty, below}
use Rattle.definitions.specs.Grid.{Grid, filled_cells}
use Rattle.definitions.specs.Scan.{axes, scan, scan_number}
use Rattle.definitions.specs.Kinds.{Tray, variants}
use Rattle.definitions.specs.Placements.{Placement, Compiled, compile, origin, lies, fits}
use Rattle.definitions.specs.Packing.{limits}
use Rattle.definitions.specs.PlacementsRight.{kind_at, no_grid}
use Rattle.definitions.specs.Kept.Identify.{None}
use Rattle.definitions.specs.Demands.{CoverWithin, cover_answer, nowhere}
use Rattle.definitions.specs.Refusals.{rows_of}
use Rattle.definitions.specs.Outcomes.{answers_of}
use Rattle.definitions.specs.Files.{parts, lines_of, last_of}
use Rattle.definitions.specs.Dlx1.{barred, cell_item, kind_item, stocked}
use Rattle.definitions.specs.declared.SolverKind.TheVariants.{Fast}

-- ---- the reading: items parted by spaces; on the first line the primary items, and behind a bar the secondary ones; each further line an option
unfoldable pub items_in : List ℕ → List (List ℕ)
items_in line = parts 32 line

unfoldable pub is_bar : List ℕ → Bool
is_bar w = same w (124 ∷ [])

unfoldable pub first_items : List ℕ → List (List ℕ)
first_items text = items_in (get_or (lines_of text) 0 [])

unfoldable pub primary_in : List ℕ → List (List ℕ)
primary_in text = let ws = first_items text in take (before is_bar ws) ws

unfoldable pub secondary_in : List ℕ → List (List ℕ)
secondary_in text = let ws = first_items text in drop (before is_bar ws + 1) ws

unfoldable pub options_in : List ℕ → List (List (List ℕ))
options_in text = map items_in (drop 1 (lines_of text))

unfoldable pub is_among : List (List ℕ) → List ℕ → Bool
is_among ws w = any (same w) ws

-- how many options of a set, given by their numbers, have an item
unfoldable pub hits : List (List (List ℕ)) → List ℕ → List ℕ → ℕ
hits options rows w = how_many (λ r. is_among (get_or options r []) w) rows

-- An exact cover of a text: each primary item in exactly one of its options, each secondary one in one at most. A set of options is given by their numbers,
-- ascending.
pub record TextCover (text : List ℕ) (rows : List ℕ) : Type 0 where
  pub a_set : T (ascending ltb rows)
  pub of_options : T (all (λ r. ltb r (length (options_in text))) rows)
  pub once : T (all (λ w. eqb (hits (options_in text) rows w) 1) (primary_in text))
  pub at_most_once : T (all (λ w. leb (hits (options_in text) rows w) 1) (secondary_in text))

-- the same as one test
unfoldable pub is_text_cover : List ℕ → List ℕ → Bool
is_text_cover text rows =
    ascending ltb rows && (all (λ r. ltb r (length (options_in text))) rows
    && (all (λ w. eqb (hits (options_in text) rows w) 1) (primary_in text) && all (λ w. leb (hits (options_in text) rows w) 1) (secondary_in text)))

-- ---- What DLX1 asks of its input (it stops at another, or passes options over): lines that are ended; a primary item at least, and no item named twice;
-- names of 1 to 8 characters, none of them white space (9 to 13 and 32, each of which parts items), 0, a colon or a bar; options of items that were named,
-- each at most once, one of them primary.
unfoldable pub parts_names : ℕ → Bool
parts_names x = eqb x 0 || ((leb 9 x && leb x 13) || (eqb x 32 || (eqb x 58 || eqb x 124)))

unfoldable pub is_name : List ℕ → Bool
is_name w = leb 1 (length w) && (leb (length w) 8 && all (λ x. not (parts_names x)) w)

unfoldable pub apart : List (List ℕ) → Bool
apart ws = ascending (λ v w. not (same v w)) ws

unfoldable pub is_option : List (List ℕ) → List (List ℕ) → List (List ℕ) → Bool
is_option primary items ws = all (is_among items) ws && (apart ws && any (is_among primary) ws)

pub record TakenByDlx1 (text : List ℕ) : Type 0 where
  pub ended : T (is_empty (last_of (parts 10 text)))
  pub some_item : T (not (is_empty (primary_in text)))
  pub names : T (all is_name (primary_in text ++ secondary_in text))
  pub named_once : T (apart (primary_in text ++ secondary_in text))
  pub options : T (all (is_option (primary_in text) (primary_in text ++ secondary_in text)) (options_in text))

-- the same as one test
unfoldable pub is_taken_by_dlx1 : List ℕ → Bool
is_taken_by_dlx1 text =
    let items = primary_in text ++ secondary_in text in
    is_empty (last_of (parts 10 text)) && (not (is_empty (primary_in text))
    && (all is_name items && (apart items && all (is_option (primary_in text) items) (options_in text))))

-- ---- what is claimed of the text of a tray
-- its items: the filled cells, and the kinds that have copies, behind a bar that is left out where no kind has
pub record NamesItems (c : Compiled) (text : List ℕ) : Type 0 where
  pub first_line : first_items text ≡ map cell_item (below (length c.cells)) ++ barred (map kind_item (stocked (limits c)))
  pub cells : primary_in text ≡ map cell_item (below (length c.cells))
  pub kinds : secondary_in text ≡ map kind_item (stocked (limits c))

-- Row r as the original builds it: the filled cells of the turned grid, x slowest and z fastest, set down where its origin lies on the cell p. The turned grid
-- is number j of the kind's that fit there; and option r of the text is the row's kind and then these cells.
unfoldable pub fitting : Compiled → Placement → List Grid
fitting c q =
    let order = axes c.board.sides in
    keep (λ g. fits c.cells (get_or c.cells q.p (record { x = 0; y = 0; z = 0 })) (scan order g)) (variants (kind_at c q.kind).shape)

unfoldable pub built : Compiled → Placement → List ℕ
built c q =
    let order = axes c.board.sides in
    let g = get_or (fitting c q) q.j no_grid in
    let v = get_or c.cells q.p (record { x = 0; y = 0; z = 0 }) in
    map (λ u. scan_number c.cells (lies v (origin (scan order g)) u)) (filled_cells g)

pub record BuiltOrder (c : Compiled) (text : List ℕ) : Type 0 where
  pub as_many : length (options_in text) ≡ length (rows_of c)
  pub turned : (r : ℕ) → r < length (rows_of c) → (get_or (rows_of c) r nowhere).j < length (fitting c (get_or (rows_of c) r nowhere))
  pub option : (r : ℕ) → r < length (rows_of c)
      → let q = get_or (rows_of c) r nowhere in get_or (options_in text) r [] ≡ kind_item q.kind ∷ map cell_item (built c q)

-- "The exact covers of that text, secondary items used at most once": those of the tray's matrix within the copies, by the numbers of rows
unfoldable pub CoversSame : Compiled → List ℕ → Type 0
CoversSame c text = (rows : List ℕ) → TextCover text rows ↔ CoverWithin c rows

-- they "correspond one to one with the packings that `none` lists"
pub record OneToOne (t : Tray) (text : List ℕ) : Type 0 where
  pub listed : (rows : List ℕ) → TextCover text rows → Memᴰ (cover_answer t rows) (answers_of t None Fast)
  pub covered : (a : List ℕ) → Memᴰ a (answers_of t None Fast) → (rows : List ℕ) × TextCover text rows × (cover_answer t rows ≡ a)
  pub told_apart : (rows others : List ℕ) → TextCover text rows → TextCover text others → cover_answer t rows ≡ cover_answer t others → rows ≡ others

pub record Dlx1Right (t : Tray) (text : List ℕ) : Type 0 where
  pub taken : TakenByDlx1 text
  pub items : NamesItems (compile t) text
  pub built_order : BuiltOrder (compile t) text
  pub covers_same : CoversSame (compile t) text
  pub one_to_one : OneToOne t text
