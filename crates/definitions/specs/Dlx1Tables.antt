-- Texts for DLX1, and refusals of the call that writes them, as tables that antt computes (proofs/Dlx1TableLaws).
use Rattle.std.specs.Prelude.{ℕ, ◌+◌, Bool, false, ◌&&◌, ◌||◌, List, [], ◌∷◌, ◌++◌, map, eqb, length, replicate}
use Prim.Native.String.{String}
use Rattle.lists.specs.Lists.{below, how_many, same}
use Rattle.definitions.specs.Texts.{text}
use Rattle.definitions.specs.Fillings.{piece, in_wood, board, M, D}
use Rattle.definitions.specs.Boundaries.{at, m₀, Printed, prints}
use Rattle.definitions.specs.Files.{Written, call_on}
use Rattle.definitions.specs.Dlx1Covers.{is_taken_by_dlx1, is_text_cover, options_in}
use Rattle.definitions.specs.TextCalls.{TextCall, TextOutcome, dlx1_printed, text_outcome}
use Rattle.definitions.specs.declared.SolverKind.TheVariants.{Fast}
use Rattle.definitions.specs.declared.Record.{Record}

-- ---- texts
-- a tray, its text, and how many exact covers that has
pub record TextCase : Type 0 where
  pub board : Written
  pub pieces : List Written
  pub text : List ℕ
  pub covers : ℕ

abbrev pub text_case : Written → List Written → String → ℕ → TextCase
text_case b ps s n = record { board = b; pieces = ps; text = text s; covers = n }

-- the square of four cells, and two cells that touch at an edge
abbrev pub Square : ℕ → Written
Square n = piece n 1 2 2 (1 ∷ 1 ∷ 1 ∷ 1 ∷ [])

abbrev pub Slant : ℕ → Written
Slant n = piece n 1 2 2 (0 ∷ 1 ∷ 1 ∷ 0 ∷ [])

unfoldable pub texts : List TextCase
texts =
    -- document 01's tray
    text_case (board 1 1 3 (1 ∷ 1 ∷ 1 ∷ [])) (M 1 ∷ D 1 ∷ []) "b0 b1 b2 | p0 p1\np0 b0\np0 b1\np0 b2\np1 b0 b1\np1 b1 b2\n" 2 ∷
    -- kinds keep their numbers where others have no copies: gaps are left, and such kinds have no line
    text_case (board 1 1 2 (1 ∷ 1 ∷ [])) (M 0 ∷ D 1 ∷ []) "b0 b1 | p1\np1 b0 b1\n" 1 ∷
    text_case (board 1 1 2 (1 ∷ 1 ∷ [])) (M 1 ∷ D 0 ∷ in_wood 1 (D 1) ∷ []) "b0 b1 | p0 p2\np0 b0\np0 b1\np2 b0 b1\n" 1 ∷
    -- where no kind has copies, and where there is no kind, the bar is left out; a cell that nothing covers keeps its item
    text_case (board 1 1 1 (1 ∷ [])) (M 0 ∷ []) "b0\n" 0 ∷
    text_case (board 1 1 2 (1 ∷ 1 ∷ [])) [] "b0 b1\n" 0 ∷
    -- a kind with copies and no placement stands behind the bar
    text_case (board 1 1 1 (1 ∷ [])) (D 1 ∷ []) "b0 | p0\n" 0 ∷
    text_case (board 1 1 1 (1 ∷ [])) (D 1 ∷ M 1 ∷ []) "b0 | p0 p1\np0 b0\n" 1 ∷
    -- the cells of a line are in the order of the turned grid and not in scan order, and the first need not be p (it is 1 in the line `p0 b2 b1`)
    text_case (board 1 2 2 (1 ∷ 1 ∷ 1 ∷ 1 ∷ [])) (Square 1 ∷ []) "b0 b1 b2 b3 | p0\np0 b0 b2 b1 b3\n" 1 ∷
    text_case (board 2 2 1 (1 ∷ 1 ∷ 1 ∷ 1 ∷ [])) (Slant 1 ∷ in_wood 1 (Slant 1) ∷ []) "b0 b1 b2 b3 | p0 p1\np0 b0 b3\np0 b2 b1\np1 b0 b3\np1 b2 b1\n" 2 ∷
    -- two woods are two kinds
    text_case (board 1 1 2 (1 ∷ 1 ∷ [])) (M 1 ∷ in_wood 7 (M 1) ∷ []) "b0 b1 | p0 p1\np0 b0\np0 b1\np1 b0\np1 b1\n" 2 ∷
    -- empty outer layers carry no meaning
    text_case (board 2 1 4 (0 ∷ 0 ∷ 0 ∷ 0 ∷ 0 ∷ 1 ∷ 1 ∷ 0 ∷ [])) (piece 1 1 2 2 (0 ∷ 0 ∷ 1 ∷ 1 ∷ []) ∷ []) "b0 b1 | p0\np0 b0 b1\n" 1 ∷
    []

-- the call on such a tray, with so much room
abbrev pub asking_text : TextCase → ℕ → TextCall
asking_text h room =
    let l = call_on h.board h.pieces false false Fast 0 0 in
    record { pieces = l.pieces; board = l.board; bytes = l.bytes; output = replicate room 7; work = replicate 8193 7 }

-- the outcome of an accepted call: the text over the start of the output, and the work slice cleared
abbrev pub hands_over : List ℕ → ℕ → TextOutcome → Bool
hands_over text behind o =
    eqb o.number 0 && (eqb o.written (length text) && (same o.output (text ++ replicate behind 7) && same o.work (replicate 8192 0 ++ 7 ∷ [])))

-- one byte too few: 18, and both slices as they were
abbrev pub refuses_18 : ℕ → TextOutcome → Bool
refuses_18 room o = eqb o.number 18 && (eqb o.written 0 && (same o.output (replicate room 7) && same o.work (replicate 8193 7)))

-- all sets of some numbers, ascending; and the exact covers among those of a text's options
abbrev pub sets : List ℕ → List (List ℕ)
sets [] = [] ∷ []
sets (r ∷ rs) = let less = sets rs in map (λ s. r ∷ s) less ++ less

unfoldable pub covers_of : List ℕ → ℕ
covers_of text = how_many (is_text_cover text) (sets (below (length (options_in text))))

unfoldable pub is_text_case : TextCase → Bool
is_text_case h =
    let n = length h.text in
    hands_over h.text 0 (text_outcome (asking_text h n))
    && (hands_over h.text 5 (text_outcome (asking_text h (n + 5)))
    && (is_taken_by_dlx1 h.text && eqb (covers_of h.text) h.covers))

-- ---- texts that DLX1 stops at, or of which it passes an option over; and some that it takes, beside them
unfoldable pub texts_taken : List String
texts_taken = "b0\n" ∷ "b0 | p0\np0 b0\n" ∷ "12345678\n12345678\n" ∷ "a b | c\nb a\nc a\n" ∷ []

unfoldable pub texts_not_taken : List String
texts_not_taken =
    -- a line that is not ended; no line, no item, no item before the bar
    "b0" ∷ "b0\nb0" ∷ "" ∷ "\n" ∷ "| p0\n" ∷
    -- an item of nine characters; one with a colon, a bar, a tab, a 0; two spaces for one; two bars
    "123456789\n" ∷ "b:0\n" ∷ "b|0\n" ∷ "b0 |p0\n" ∷ "b0\tb1\n" ∷ "b0\r\n" ∷ "b0  b1\n" ∷ "b0 | p0 | p1\n" ∷
    -- an item named twice, before the bar, behind it, and on both sides
    "b0 b0\n" ∷ "b0 | p0 p0\n" ∷ "b0 | b0\n" ∷
    -- an option with an item that is not named, with one twice, without a primary one, with none
    "b0\nb1\n" ∷ "b0\nb0 b0\n" ∷ "b0 | p0\np0\n" ∷ "b0\n\nb0\n" ∷ []

-- ---- refusals
pub record ExpectedText : Type 0 where
  pub number : ℕ
  pub call : TextCall

abbrev pub gives_text : ℕ → TextCall → ExpectedText
gives_text n l = record { number = n; call = l }

-- a call with so much room and so many words
abbrev pub on_tray : Record → List Record → List ℕ → ℕ → ℕ → TextCall
on_tray b ps bytes room words = record { pieces = ps; board = b; bytes = bytes; output = replicate room 7; work = replicate words 7 }

unfoldable pub text_refusals : List ExpectedText
text_refusals =
    -- the text of one cell and M, 14 bytes: `b0 | p0`, `p0 b0`
    gives_text 0 (on_tray m₀ (m₀ ∷ []) (1 ∷ []) 14 8192) ∷
    gives_text 18 (on_tray m₀ (m₀ ∷ []) (1 ∷ []) 13 8192) ∷
    gives_text 18 (on_tray m₀ (m₀ ∷ []) (1 ∷ []) 0 8192) ∷
    -- 17: a kind's copies over all its pieces; no filled cell; a kind without copies does no harm; before 18
    gives_text 17 (on_tray m₀ (at 2 1 1 1 0 ∷ []) (1 ∷ []) 0 8192) ∷
    gives_text 17 (on_tray m₀ (m₀ ∷ m₀ ∷ []) (1 ∷ []) 64 8192) ∷
    gives_text 0 (on_tray m₀ (m₀ ∷ at 0 1 1 1 0 ∷ []) (1 ∷ []) 64 8192) ∷
    gives_text 17 (on_tray (at 0 1 1 1 1) (m₀ ∷ []) (1 ∷ 0 ∷ []) 64 8192) ∷
    gives_text 17 (on_tray (at 0 1 1 1 0) [] (0 ∷ []) 0 8192) ∷
    -- 12 before 17; 8 before 12 (and 17); 2 to 6 as for a listing (boards at the limit of 9 and trays at that of 14 are too large to compute here)
    gives_text 12 (on_tray m₀ (at 2 1 1 1 0 ∷ []) (1 ∷ []) 0 8191) ∷
    gives_text 12 (on_tray m₀ (m₀ ∷ []) (1 ∷ []) 64 0) ∷
    gives_text 8 (on_tray m₀ (at 129 1 1 1 0 ∷ []) (1 ∷ []) 0 8191) ∷
    gives_text 2 (on_tray m₀ (replicate 17 m₀) (1 ∷ []) 64 8192) ∷
    gives_text 3 (on_tray (at 0 9 1 1 0) [] (1 ∷ []) 64 8192) ∷
    gives_text 4 (on_tray m₀ (at 1 1 1 2 0 ∷ []) (1 ∷ []) 64 8192) ∷
    gives_text 5 (on_tray m₀ (at 1 1 1 1 1 ∷ []) (1 ∷ 2 ∷ []) 64 8192) ∷
    gives_text 6 (on_tray m₀ (at 1 1 1 1 1 ∷ []) (1 ∷ 0 ∷ []) 64 8192) ∷
    []

-- a refused call finds both slices as they were
unfoldable pub is_refused_by : ExpectedText → Bool
is_refused_by x =
    let o = text_outcome x.call in
    eqb o.number x.number
    && (eqb x.number 0 || (eqb o.written 0 && (same o.output x.call.output && same o.work x.call.work)))

-- ---- the program
unfoldable pub programs : List Printed
programs =
    -- the engine and the identification decide nothing
    prints "config\tfast\tnone\nboard\t1\t1\t3\t111\npiece\t1\t1\t1\t1\t1\npiece\t1\t1\t1\t2\t11\n" "b0 b1 b2 | p0 p1\np0 b0\np0 b1\np0 b2\np1 b0 b1\np1 b1 b2\n" ∷
    prints "config\tknuth\tmirrored\nboard\t1\t1\t3\t111\npiece\t1\t1\t1\t2\t11\npiece\t1\t1\t1\t1\t1\n" "b0 b1 b2 | p0 p1\np0 b0\np0 b1\np0 b2\np1 b0 b1\np1 b1 b2\n" ∷
    -- refusals, alone: 17, the first of a listing's, and a file that is none
    prints "config\tfast\tnone\nboard\t1\t1\t2\t11\npiece\t2\t1\t1\t1\t1\n" "refused\t17\n" ∷
    prints "config\tfast\tnone\nboard\t1\t1\t9\t111111111\n" "refused\t3\n" ∷
    prints "config\tslow\tnone\nboard\t1\t1\t1\t1\n" "refused\t16\n" ∷
    []

unfoldable pub is_printed_by_dlx1 : Printed → Bool
is_printed_by_dlx1 x = same (dlx1_printed x.read) x.prints
