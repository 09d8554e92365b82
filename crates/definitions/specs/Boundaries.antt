-- What the marked lines leave open, as tables that antt computes (proofs/BoundaryLaws): each refusal and its boundary; pairs of refusals that apply at
-- once; the counts of 14 and 15 (trays at their limits are too large to compute here); pages, also from behind an entry; files; lists. What takes longer
-- is in the crate examples: lists and pages, the slices afterwards, boards at the limit of 9.
use Rattle.std.specs.Prelude.{ℕ, zero, suc, ◌+◌, ◌*◌, ◌/◌, ◌%◌, Bool, true, false, ◌&&◌, List, [], ◌∷◌, eqb, replicate}
use Prim.Native.String.{String}
use Rattle.lists.specs.Lists.{same}
use Rattle.definitions.specs.Placements.{compile}
use Rattle.definitions.specs.Refusals.{Call, tray_of, placement_count, link_count, refusal}
use Rattle.definitions.specs.Starts.{outcome_from}
use Rattle.definitions.specs.Texts.{text}
use Rattle.definitions.specs.Fillings.{Line, piece, in_wood, board, M, D, none, turned, mirrored, lists, shows}
use Rattle.definitions.specs.Files.{Written, call_on, packed}
use Rattle.definitions.specs.declared.SolverKind.{SolverKind}
use Rattle.definitions.specs.declared.SolverKind.TheVariants.{Auto, Naive, Fast, KnuthAlgorithm}
use Rattle.definitions.specs.declared.Start.TheVariants.{Behind}
use Rattle.definitions.specs.declared.Record.{Record}

-- n cells, written as the digits of a number
abbrev pub digits : ℕ → ℕ → List ℕ → List ℕ
digits zero k rest = rest
digits (suc n) k rest = digits n (k / 10) (k % 10 ∷ rest)

abbrev pub cells : ℕ → ℕ → List ℕ
cells n k = digits n k []

-- ---- refusals
-- A call that is accepted, M in a tray of one cell, and one thing in it changed; or more.
abbrev pub plain : Call
plain =
    record {
      pieces = record { a = 1; b = 1; c = 1; count = 1; wood = 0; start = 0 } ∷ [];
      board = record { a = 1; b = 1; c = 1; count = 0; wood = 0; start = 0 };
      bytes = 1 ∷ [];
      config = record { identify_transformed_answers = false; identify_mirrored_answers = false; solver = Fast };
      skip = 0;
      answers = [];
      work = replicate 8192 7;
      links = replicate 32768 7;
    }

abbrev pub at : ℕ → ℕ → ℕ → ℕ → ℕ → Record
at n i j k s = record { a = i; b = j; c = k; count = n; wood = 0; start = s }

abbrev pub lending : Record → List Record → List ℕ → Call
lending b ps bytes = record { pieces = ps; board = b; bytes = bytes; config = plain.config; skip = 0; answers = []; work = plain.work; links = plain.links }

abbrev pub asking : Bool → Bool → SolverKind → Call → Call
asking turned mirrored e l =
    record {
      pieces = l.pieces;
      board = l.board;
      bytes = l.bytes;
      config = record { identify_transformed_answers = turned; identify_mirrored_answers = mirrored; solver = e };
      skip = l.skip;
      answers = l.answers;
      work = l.work;
      links = l.links;
    }

abbrev pub slices : ℕ → ℕ → Call → Call
slices work links l =
    record { pieces = l.pieces; board = l.board; bytes = l.bytes; config = l.config; skip = l.skip; answers = l.answers; work = replicate work 7; links = replicate links 7 }

pub record Expected : Type 0 where
  pub number : ℕ
  pub call : Call

abbrev pub gives : ℕ → Call → Expected
gives n l = record { number = n; call = l }

abbrev pub m₀ : Record
m₀ = at 1 1 1 1 0

-- an empty box: no piece, and a board of one unfilled cell
abbrev pub bare : Call
bare = lending (at 0 1 1 1 0) [] (0 ∷ [])

unfoldable pub refusals : List Expected
refusals =
    gives 0 plain ∷
    -- no piece, once 1, is taken: what is wrong with the board, the configuration or a slice refuses it still, in the same order
    gives 0 (lending m₀ [] (1 ∷ [])) ∷
    gives 0 (asking true true KnuthAlgorithm bare) ∷
    gives 3 (lending (at 0 0 1 1 0) [] (1 ∷ [])) ∷
    gives 3 (lending (at 0 9 1 1 5) [] (1 ∷ [])) ∷
    gives 4 (lending (at 0 1 1 2 0) [] (2 ∷ [])) ∷
    gives 5 (asking false true Fast (lending m₀ [] (2 ∷ []))) ∷
    gives 10 (asking false true Auto bare) ∷
    gives 11 (asking false false Auto (slices 8191 32767 bare)) ∷
    gives 11 (asking true true Naive bare) ∷
    gives 12 (asking false false KnuthAlgorithm (slices 8191 32767 bare)) ∷
    gives 13 (asking false false KnuthAlgorithm (slices 8192 32767 bare)) ∷
    gives 0 (slices 8192 0 bare) ∷
    -- 2: 16 pieces are taken, 17 are not; before 3
    gives 0 (lending m₀ (replicate 16 m₀) (1 ∷ [])) ∷
    gives 2 (lending m₀ (replicate 17 m₀) (1 ∷ [])) ∷
    gives 2 (lending m₀ (replicate 17 (at 1 9 1 1 0)) (1 ∷ [])) ∷
    -- 3: a side of 0, 8, 9 or 257, of each axis, of piece and board; before 4
    gives 3 (lending m₀ (at 1 0 1 1 0 ∷ []) (1 ∷ [])) ∷
    gives 3 (lending m₀ (at 1 1 0 1 0 ∷ []) (1 ∷ [])) ∷
    gives 3 (lending m₀ (at 1 1 1 0 0 ∷ []) (1 ∷ [])) ∷
    gives 0 (lending m₀ (at 1 8 1 1 0 ∷ []) (cells 8 11111111)) ∷
    gives 0 (lending m₀ (at 1 1 8 1 0 ∷ []) (cells 8 11111111)) ∷
    gives 0 (lending m₀ (at 1 1 1 8 0 ∷ []) (cells 8 11111111)) ∷
    gives 3 (lending m₀ (m₀ ∷ at 1 9 1 1 0 ∷ []) (cells 9 111111111)) ∷
    gives 3 (lending m₀ (at 1 1 9 1 0 ∷ m₀ ∷ []) (cells 9 111111111)) ∷
    gives 3 (lending (at 0 1 1 9 0) (m₀ ∷ []) (cells 9 111111111)) ∷
    gives 3 (lending (at 0 257 1 1 0) (m₀ ∷ []) (1 ∷ [])) ∷
    gives 3 (lending (at 0 9 1 1 5) (m₀ ∷ []) (1 ∷ [])) ∷
    -- 4: the last cell lies in the bytes, or one past them; a start near the largest number; before 5
    gives 0 (lending (at 0 1 1 2 1) (m₀ ∷ []) (1 ∷ 1 ∷ 1 ∷ [])) ∷
    gives 4 (lending (at 0 1 1 2 2) (m₀ ∷ []) (1 ∷ 1 ∷ 1 ∷ [])) ∷
    gives 4 (lending m₀ (m₀ ∷ at 1 1 1 1 18446744073709551615 ∷ []) (1 ∷ [])) ∷
    gives 4 (lending m₀ (at 1 1 1 2 0 ∷ at 1 1 1 2 1 ∷ []) (2 ∷ 1 ∷ [])) ∷
    -- 5: in the board, in a piece; bytes that no grid reads do not count; before 6
    gives 5 (lending (at 0 1 1 1 1) (m₀ ∷ []) (1 ∷ 2 ∷ [])) ∷
    gives 5 (lending m₀ (at 1 1 1 1 1 ∷ []) (1 ∷ 255 ∷ [])) ∷
    gives 0 (lending m₀ (m₀ ∷ []) (1 ∷ 2 ∷ [])) ∷
    gives 5 (lending m₀ (at 1 1 1 1 2 ∷ at 1 1 1 1 1 ∷ []) (1 ∷ 2 ∷ 0 ∷ [])) ∷
    -- 6: a piece, with or without copies, but not the board; before 8; a piece of zeros is not stripped to nothing
    gives 6 (lending m₀ (m₀ ∷ at 0 1 1 1 1 ∷ []) (1 ∷ 0 ∷ [])) ∷
    gives 0 (lending (at 0 1 1 1 1) (m₀ ∷ []) (1 ∷ 0 ∷ [])) ∷
    gives 6 (lending m₀ (at 1 1 1 2 0 ∷ at 1 1 1 1 1 ∷ []) (1 ∷ 0 ∷ [])) ∷
    gives 6 (lending m₀ (at 129 1 1 2 1 ∷ []) (1 ∷ 0 ∷ 0 ∷ [])) ∷
    -- an empty outer layer, on any of the six sides of a piece or of the board, refuses nothing; 3 looks at the lent sides
    gives 0 (lending m₀ (at 1 2 1 1 0 ∷ []) (1 ∷ 0 ∷ [])) ∷
    gives 0 (lending m₀ (at 1 1 2 1 0 ∷ []) (1 ∷ 0 ∷ [])) ∷
    gives 0 (lending m₀ (at 1 1 1 2 0 ∷ []) (1 ∷ 0 ∷ [])) ∷
    gives 0 (lending m₀ (m₀ ∷ at 0 2 1 1 1 ∷ []) (1 ∷ 0 ∷ 1 ∷ [])) ∷
    gives 0 (lending m₀ (m₀ ∷ at 0 1 2 1 1 ∷ []) (1 ∷ 0 ∷ 1 ∷ [])) ∷
    gives 0 (lending m₀ (m₀ ∷ at 0 1 1 2 1 ∷ []) (1 ∷ 0 ∷ 1 ∷ [])) ∷
    gives 0 (lending m₀ (at 1 1 1 3 0 ∷ []) (1 ∷ 0 ∷ 1 ∷ [])) ∷
    gives 0 (lending (at 0 1 1 2 0) (m₀ ∷ []) (1 ∷ 0 ∷ [])) ∷
    gives 8 (lending m₀ (at 129 1 1 2 0 ∷ []) (1 ∷ 0 ∷ [])) ∷
    gives 3 (lending m₀ (at 1 1 1 9 0 ∷ []) (cells 9 100000000)) ∷
    -- 8: 128 copies are taken, 129 are not; a sum past 32 bits; before 10
    gives 0 (lending m₀ (at 128 1 1 1 0 ∷ []) (1 ∷ [])) ∷
    gives 8 (lending m₀ (at 129 1 1 1 0 ∷ []) (1 ∷ [])) ∷
    gives 0 (lending m₀ (at 64 1 1 1 0 ∷ at 64 1 1 1 0 ∷ []) (1 ∷ [])) ∷
    gives 8 (lending m₀ (at 64 1 1 1 0 ∷ at 65 1 1 1 0 ∷ []) (1 ∷ [])) ∷
    gives 8 (lending m₀ (at 4294967295 1 1 1 0 ∷ at 1 1 1 1 0 ∷ []) (1 ∷ [])) ∷
    gives 8 (asking false true Fast (lending m₀ (at 129 1 1 1 0 ∷ []) (1 ∷ []))) ∷
    -- 10, before 11; 11, both engines that are not ported, before 12; 12, before 13; 13
    gives 10 (asking false true Fast plain) ∷
    gives 10 (asking false true Auto plain) ∷
    gives 0 (asking true true Fast plain) ∷
    gives 0 (asking true false KnuthAlgorithm plain) ∷
    gives 11 (asking false false Auto plain) ∷
    gives 11 (asking true true Naive plain) ∷
    gives 11 (asking true true Naive (slices 0 0 plain)) ∷
    gives 12 (slices 8191 32768 plain) ∷
    gives 12 (asking false false KnuthAlgorithm (slices 8191 32767 plain)) ∷
    gives 13 (asking false false KnuthAlgorithm (slices 8192 32767 plain)) ∷
    gives 0 (slices 8192 0 plain) ∷
    []

unfoldable pub is_given : Expected → Bool
is_given x = eqb (refusal x.call) x.number

-- ---- the counts of 14 and 15
-- a tray, its placements and its links
pub record Counted : Type 0 where
  pub board : Written
  pub pieces : List Written
  pub placements : ℕ
  pub links : ℕ

abbrev pub counted : Written → List Written → ℕ → ℕ → Counted
counted b ps n k = record { board = b; pieces = ps; placements = n; links = k }

unfoldable pub counts : List Counted
counts =
    -- one kind counts once, however many pieces are of it; a kind without copies counts for 14 and has no rows for 15
    counted (board 1 2 3 (cells 6 111111)) (D 1 ∷ piece 1 1 2 1 (cells 2 11) ∷ piece 0 2 1 1 (cells 2 11) ∷ []) 7 28 ∷
    counted (board 1 2 3 (cells 6 111111)) (D 0 ∷ []) 7 7 ∷
    counted (board 1 2 3 (cells 6 111101)) [] 0 5 ∷
    counted (board 1 2 3 (cells 6 111111)) (M 0 ∷ D 2 ∷ []) 13 29 ∷
    -- a shape in two woods counts twice
    counted (board 1 2 3 (cells 6 111111)) (M 1 ∷ in_wood 255 (M 1) ∷ []) 12 32 ∷
    counted (board 1 2 3 (cells 6 111111)) (in_wood 255 (M 1) ∷ in_wood 255 (M 1) ∷ []) 6 19 ∷
    counted (board 1 2 3 (cells 6 111111)) (D 1 ∷ in_wood 5 (D 0) ∷ []) 14 29 ∷
    -- pieces that differ in empty layers alone are one kind; and it is the stripped piece that is set down
    counted (board 1 2 3 (cells 6 111111)) (D 1 ∷ piece 1 2 2 2 (cells 8 00100010) ∷ []) 7 28 ∷
    counted (board 2 2 4 (cells 16 0000011100000111)) (piece 1 3 1 3 (cells 9 000010010) ∷ []) 7 28 ∷
    counted (board 2 2 2 (cells 8 11111111)) (piece 1 2 2 2 (cells 8 11100100) ∷ piece 0 2 2 2 (cells 8 11100010) ∷ D 1 ∷ []) 36 107 ∷
    counted (board 1 3 3 (cells 9 111101111)) (D 1 ∷ piece 1 1 2 2 (cells 4 1110) ∷ []) 12 50 ∷
    []

unfoldable pub is_counted : Counted → Bool
is_counted x =
    let c = compile (tray_of (call_on x.board x.pieces false false Fast 0 0)) in
    eqb (placement_count c) x.placements && eqb (link_count c) x.links

-- ---- pages of document 01's listing
-- skip, answers that fit, the answers written, whether a further one follows
pub record Paged : Type 0 where
  pub skip : ℕ
  pub room : ℕ
  pub answers : List (List ℕ)
  pub further : Bool

abbrev pub paged : ℕ → ℕ → List (List ℕ) → Bool → Paged
paged skip room answers further = record { skip = skip; room = room; answers = answers; further = further }

abbrev pub entry₀ : List ℕ
entry₀ = 0 ∷ 0 ∷ 1 ∷ 0 ∷ 1 ∷ 0 ∷ []

abbrev pub entry₁ : List ℕ
entry₁ = 1 ∷ 0 ∷ 1 ∷ 0 ∷ 0 ∷ 0 ∷ []

unfoldable pub pages : List Paged
pages =
    paged 0 0 [] true ∷
    paged 0 1 (entry₀ ∷ []) true ∷
    paged 0 2 (entry₀ ∷ entry₁ ∷ []) false ∷
    paged 0 3 (entry₀ ∷ entry₁ ∷ []) false ∷
    paged 1 0 [] true ∷
    paged 1 1 (entry₁ ∷ []) false ∷
    paged 1 2 (entry₁ ∷ []) false ∷
    paged 2 0 [] false ∷
    paged 2 1 [] false ∷
    paged 18446744073709551615 1 [] false ∷
    []

-- the buffer has five bytes more than fit whole answers
unfoldable pub is_paged : SolverKind → Paged → Bool
is_paged e x = lists x.answers x.further (call_on (board 1 1 3 (cells 3 111)) (M 1 ∷ D 1 ∷ []) false false e x.skip (x.room * 6 + 5))

-- ---- pages from behind an entry of document 01's listing
-- the entry that is lent, answers that fit, the answers written, whether a further one follows, whether the entry is missing
pub record Resumed : Type 0 where
  pub last : List ℕ
  pub room : ℕ
  pub answers : List (List ℕ)
  pub further : Bool
  pub missing : Bool

abbrev pub goes_on : List ℕ → ℕ → List (List ℕ) → Bool → Resumed
goes_on last room answers further = record { last = last; room = room; answers = answers; further = further; missing = false }

abbrev pub is_none : List ℕ → Resumed
is_none last = record { last = last; room = 2; answers = []; further = false; missing = true }

unfoldable pub resumed : List Resumed
resumed =
    goes_on entry₀ 0 [] true ∷
    goes_on entry₀ 1 (entry₁ ∷ []) false ∷
    goes_on entry₀ 2 (entry₁ ∷ []) false ∷
    -- the last entry: the list ends, and the entry was there
    goes_on entry₁ 0 [] false ∷
    goes_on entry₁ 2 [] false ∷
    -- one byte changed, the first or the last; a byte too few, a byte too many; nothing
    is_none (1 ∷ 0 ∷ 1 ∷ 0 ∷ 1 ∷ 0 ∷ []) ∷
    is_none (1 ∷ 0 ∷ 1 ∷ 0 ∷ 0 ∷ 1 ∷ []) ∷
    is_none (0 ∷ 0 ∷ 1 ∷ 0 ∷ 1 ∷ []) ∷
    is_none (0 ∷ 0 ∷ 1 ∷ 0 ∷ 1 ∷ 0 ∷ 0 ∷ []) ∷
    is_none [] ∷
    []

-- the skip that the call lends is not read
unfoldable pub is_resumed : SolverKind → Resumed → Bool
is_resumed e x =
    let l = call_on (board 1 1 3 (cells 3 111)) (M 1 ∷ D 1 ∷ []) false false e 1 (x.room * 6 + 5) in
    shows x.answers x.further x.missing l.answers (outcome_from Behind x.last l)

-- ---- files
-- the bytes read, and the bytes printed
pub record Printed : Type 0 where
  pub read : List ℕ
  pub prints : List ℕ

abbrev pub prints : String → String → Printed
prints s t = record { read = text s; prints = text t }

unfoldable pub files : List Printed
files =
    -- document 01's listing; `turned`; the other engine, pieces lent in the other order
    prints "config\tfast\tnone\nboard\t1\t1\t3\t111\npiece\t1\t1\t1\t1\t1\npiece\t1\t1\t1\t2\t11\n" "0\t0.0 1.0 1.0\n1\t1.0 1.0 0.0\npackings\t2\n" ∷
    prints "config\tfast\tturned\nboard\t1\t1\t3\t111\npiece\t1\t1\t1\t1\t1\npiece\t1\t1\t1\t2\t11\n" "0\t0.0 1.0 1.0\npackings\t1\n" ∷
    prints "config\tknuth\tnone\nboard\t1\t1\t3\t111\npiece\t1\t1\t1\t2\t11\npiece\t1\t1\t1\t1\t1\n" "0\t1.0 0.0 0.0\n1\t0.0 0.0 1.0\npackings\t2\n" ∷
    -- an unfilled cell; no packing; `mirrored` identifies turned packings too; leading zeros
    prints "config\tfast\tmirrored\nboard\t1\t1\t2\t10\npiece\t000000001\t001\t1\t1\t1\n" "0\t0.0 -\npackings\t1\n" ∷
    prints "config\tknuth\tnone\nboard\t1\t1\t1\t1\npiece\t0\t1\t1\t1\t1\n" "packings\t0\n" ∷
    -- woods, 0 to 255, of one to three digits, absent 0
    prints "config\tfast\tnone\nboard\t1\t1\t2\t11\npiece\t1\t1\t1\t1\t1\t9\npiece\t1\t1\t1\t1\t1\t2\n" "0\t1.0 0.0\n1\t0.0 1.0\npackings\t2\n" ∷
    prints "config\tknuth\tturned\nboard\t1\t1\t2\t11\npiece\t1\t1\t1\t1\t1\t255\npiece\t1\t1\t1\t1\t1\n" "0\t1.0 0.0\npackings\t1\n" ∷
    prints "config\tfast\tnone\nboard\t1\t1\t2\t11\npiece\t1\t1\t1\t1\t1\t007\npiece\t1\t1\t1\t1\t1\t7\n" "0\t0.0 1.0\npackings\t1\n" ∷
    prints "config\tfast\tnone\nboard\t1\t1\t2\t11\npiece\t1\t1\t1\t1\t1\t000\npiece\t1\t1\t1\t1\t1\n" "0\t0.0 1.0\npackings\t1\n" ∷
    prints "config\tfast\tnone\nboard\t1\t1\t2\t11\npiece\t1\t1\t1\t1\t1\t255\npiece\t1\t1\t1\t1\t1\t254\n" "0\t1.0 0.0\n1\t0.0 1.0\npackings\t2\n" ∷
    -- empty outer layers: a piece and a board drawn in a larger box
    prints "config\tfast\tturned\nboard\t1\t1\t4\t1110\npiece\t1\t1\t1\t1\t1\npiece\t1\t1\t1\t2\t11\n" "0\t0.0 1.0 1.0 -\npackings\t1\n" ∷
    prints "config\tknuth\tnone\nboard\t1\t3\t3\t000010000\npiece\t1\t2\t1\t2\t0001\n" "0\t- - - - 0.0 - - - -\npackings\t1\n" ∷
    -- no piece: a filled cell, none, two of four, and a side of 9
    prints "config\tfast\tnone\nboard\t1\t1\t1\t1\n" "packings\t0\n" ∷
    prints "config\tfast\tturned\nboard\t2\t1\t2\t0000\n" "0\t- - - -\npackings\t1\n" ∷
    prints "config\tknuth\tmirrored\nboard\t1\t1\t4\t0110\n" "packings\t0\n" ∷
    prints "config\tfast\tnone\nboard\t1\t1\t9\t111111111\n" "refused\t3\n" ∷
    -- refusals: sides of 0 (with no cells) and 9
    prints "config\tfast\tnone\nboard\t1\t0\t1\t\npiece\t1\t1\t1\t1\t1\n" "refused\t3\n" ∷
    prints "config\tfast\tnone\nboard\t1\t1\t9\t111111111\npiece\t1\t1\t1\t1\t1\n" "refused\t3\n" ∷
    -- malformed: nothing; no board; a line not ended, an empty line, a carriage return; words; fields; digits; cells
    prints "" "refused\t16\n" ∷
    prints "\n" "refused\t16\n" ∷
    prints "config\tfast\tnone\n" "refused\t16\n" ∷
    prints "config\tfast\tnone\nboard\t1\t1\t1\t1\npiece\t1\t1\t1\t1\t1" "refused\t16\n" ∷
    prints "config\tfast\tnone\nboard\t1\t1\t1\t1\n\npiece\t1\t1\t1\t1\t1\n" "refused\t16\n" ∷
    prints "config\tfast\tnone\nboard\t1\t1\t1\t1\npiece\t1\t1\t1\t1\t1\n\n" "refused\t16\n" ∷
    prints "config\tfast\tnone\r\nboard\t1\t1\t1\t1\npiece\t1\t1\t1\t1\t1\n" "refused\t16\n" ∷
    prints "config\tauto\tnone\nboard\t1\t1\t1\t1\npiece\t1\t1\t1\t1\t1\n" "refused\t16\n" ∷
    prints "config\tfast\nboard\t1\t1\t1\t1\npiece\t1\t1\t1\t1\t1\n" "refused\t16\n" ∷
    prints "config\tfast\tnone\t\nboard\t1\t1\t1\t1\npiece\t1\t1\t1\t1\t1\n" "refused\t16\n" ∷
    prints "board\t1\t1\t1\t1\nconfig\tfast\tnone\npiece\t1\t1\t1\t1\t1\n" "refused\t16\n" ∷
    prints "config\tfast\tnone\npiece\t1\t1\t1\t1\t1\nboard\t1\t1\t1\t1\n" "refused\t16\n" ∷
    prints "config\tfast\tnone\nboard\t1\t1\t1\t1\npiece\t1\t1\t1\t1\n" "refused\t16\n" ∷
    prints "config\tfast\tnone\nboard\t0001\t1\t1\t1\npiece\t1\t1\t1\t1\t1\n" "refused\t16\n" ∷
    prints "config\tfast\tnone\nboard\t1\t1\t1\t1\npiece\t0000000001\t1\t1\t1\t1\n" "refused\t16\n" ∷
    prints "config\tfast\tnone\nboard\t1\t1\t1\t1\npiece\t\t1\t1\t1\t1\n" "refused\t16\n" ∷
    prints "config\tfast\tnone\nboard\t1\t1\t1\t1\npiece\t+1\t1\t1\t1\t1\n" "refused\t16\n" ∷
    prints "config\tfast\tnone\nboard\t1\t1\t1\t1\npiece\t1\t1\t1\t1\t2\n" "refused\t16\n" ∷
    prints "config\tfast\tnone\nboard\t1\t1\t2\t1\npiece\t1\t1\t1\t1\t1\n" "refused\t16\n" ∷
    prints "config\tfast\tnone\nboard\t999\t999\t999\t1\npiece\t1\t1\t1\t1\t1\n" "refused\t16\n" ∷
    -- woods: 256, four digits, none behind the tab, a sign, a space, one more field; a wood on the board
    prints "config\tfast\tnone\nboard\t1\t1\t1\t1\npiece\t1\t1\t1\t1\t1\t256\n" "refused\t16\n" ∷
    prints "config\tfast\tnone\nboard\t1\t1\t1\t1\npiece\t1\t1\t1\t1\t1\t0255\n" "refused\t16\n" ∷
    prints "config\tfast\tnone\nboard\t1\t1\t1\t1\npiece\t1\t1\t1\t1\t1\t\n" "refused\t16\n" ∷
    prints "config\tfast\tnone\nboard\t1\t1\t1\t1\npiece\t1\t1\t1\t1\t1\t+1\n" "refused\t16\n" ∷
    prints "config\tfast\tnone\nboard\t1\t1\t1\t1\npiece\t1\t1\t1\t1\t1\t1 \n" "refused\t16\n" ∷
    prints "config\tfast\tnone\nboard\t1\t1\t1\t1\npiece\t1\t1\t1\t1\t1\t1\t1\n" "refused\t16\n" ∷
    prints "config\tfast\tnone\nboard\t1\t1\t1\t1\t0\npiece\t1\t1\t1\t1\t1\n" "refused\t16\n" ∷
    []

unfoldable pub is_printed : Printed → Bool
is_printed x = same (packed x.read) x.prints

-- ---- more trays, for both engines
unfoldable pub more_fillings : List Line
more_fillings =
    -- a piece of five cells
    none (board 1 1 5 (cells 5 11111)) (piece 1 1 1 5 (cells 5 11111) ∷ []) ((0 ∷ 0 ∷ 0 ∷ 0 ∷ 0 ∷ 0 ∷ 0 ∷ 0 ∷ 0 ∷ 0 ∷ []) ∷ []) ∷
    -- document 02, A5: one shape in two woods is two kinds, the smaller wood first (and placed first, where it has one copy); in one wood one kind; grids come
    -- before woods
    none (board 1 1 2 (cells 2 11)) (in_wood 9 (M 1) ∷ in_wood 2 (M 1) ∷ []) ((1 ∷ 0 ∷ 0 ∷ 0 ∷ []) ∷ (0 ∷ 0 ∷ 1 ∷ 0 ∷ []) ∷ []) ∷
    turned (board 1 1 2 (cells 2 11)) (in_wood 9 (M 1) ∷ in_wood 2 (M 1) ∷ []) ((1 ∷ 0 ∷ 0 ∷ 0 ∷ []) ∷ []) ∷
    none (board 1 1 2 (cells 2 11)) (in_wood 7 (M 1) ∷ in_wood 7 (M 1) ∷ []) ((0 ∷ 0 ∷ 1 ∷ 0 ∷ []) ∷ []) ∷
    none (board 1 1 3 (cells 3 111)) (D 1 ∷ in_wood 9 (M 1) ∷ []) ((1 ∷ 0 ∷ 0 ∷ 0 ∷ 0 ∷ 0 ∷ []) ∷ (0 ∷ 0 ∷ 0 ∷ 0 ∷ 1 ∷ 0 ∷ []) ∷ []) ∷
    []

-- ---- and for Fast alone: kind 0, the single cell, placed first decides its order (Knuth's is the other way round); a packing of handed pieces whose
-- partner is not in the box: each mirrored image lacks all its placements
unfoldable pub fast_fillings : List Line
fast_fillings =
    turned (board 1 1 6 (cells 6 111011)) (M 1 ∷ D 1 ∷ piece 1 1 1 3 (cells 3 101) ∷ [])
    ((2 ∷ 0 ∷ 0 ∷ 0 ∷ 2 ∷ 0 ∷ 255 ∷ 255 ∷ 1 ∷ 0 ∷ 1 ∷ 0 ∷ []) ∷ (1 ∷ 0 ∷ 1 ∷ 0 ∷ 2 ∷ 0 ∷ 255 ∷ 255 ∷ 2 ∷ 0 ∷ 0 ∷ 0 ∷ []) ∷ []) ∷
    mirrored (board 2 2 2 (cells 8 11111111)) (piece 2 2 2 2 (cells 8 11100100) ∷ [])
    ((0 ∷ 0 ∷ 0 ∷ 1 ∷ 0 ∷ 1 ∷ 0 ∷ 1 ∷ 0 ∷ 0 ∷ 0 ∷ 0 ∷ 0 ∷ 1 ∷ 0 ∷ 0 ∷ []) ∷ []) ∷
    []
