-- What is read of a line, and of the first lines of a text.
use Rattle.std.specs.Prelude.{ℕ, ◌+◌, ◌-◌, ◌≤◌, ◌<◌, Bool, true, false, cond, ◌||◌, ◌&&◌, Option, Some, None}
use Rattle.std.specs.Prelude.{List, [], ◌∷◌, map, ◌≡◌, leb, length, get_or, drop}
use Rattle.lists.specs.Lists.{all, is_empty, same}
use Rattle.definitions.specs.Texts.{text}
use Rattle.definitions.specs.Files.{Written, field, grid_in, is_board, is_config, is_piece, last_of, lines_of, parts}
use Rattle.definitions.specs.declared.Config.{Config}
use Rattle.definitions.specs.declared.SolverKind.TheVariants.{Fast, KnuthAlgorithm}
use Rattle.files.specs.declared.grids.GridText.{GridText}
use Rattle.files.specs.declared.lines.Head.{Head}
use Rattle.files.specs.declared.lines.Identified.{Identified}
use Rattle.files.specs.declared.lines.Identified.TheVariants.{Nothing, Turned, Mirrored}
use Rattle.files.specs.declared.lines.PieceText.{PieceText}

-- a value is read exactly where a test passes, and then it is as it should be
abbrev pub Read : {A : Type 0} → Option A → Bool → (A → Type 0) → Type 0
Read None test P = test ≡ false
Read (Some x) test P = (test ≡ true) × P x

-- the word for what is identified
abbrev pub word_of : Identified → List ℕ
word_of Nothing = text "none"
word_of Turned = text "turned"
word_of Mirrored = text "mirrored"

-- the configuration of a line
unfoldable pub config_in : List ℕ → Config
config_in line =
    let mirrored = same (field line 2) (text "mirrored") in
    record {
      identify_transformed_answers = same (field line 2) (text "turned") || mirrored;
      identify_mirrored_answers = mirrored;
      solver = cond (same (field line 1) (text "knuth")) KnuthAlgorithm Fast;
    }

-- a grid as it is written, with a count and a wood; and a piece
abbrev pub written : ℕ → ℕ → GridText → Written
written count wood g = record { count = count; wood = wood; a = g.a; b = g.b; c = g.c; cells = map (λ x. x - 48) g.cells.now }

abbrev pub of_piece : PieceText → Written
of_piece p = written p.count p.wood p.grid

-- the first line of a text and what stands behind it, by the lines that the text has; and a text in which no line is ended
pub record FirstLine (text line rest : List ℕ) : Type 0 where
  pub lines : lines_of text ≡ line ∷ lines_of rest
  pub left : last_of (parts 10 text) ≡ last_of (parts 10 rest)
  pub shorter : length line + length rest < length text

pub record NoLine (text : List ℕ) : Type 0 where
  pub lines : lines_of text ≡ []
  pub left : last_of (parts 10 text) ≡ text

-- a text whose first two lines are a configuration and a board, and what they give
unfoldable pub has_head : List ℕ → Bool
has_head bytes = let ls = lines_of bytes in leb 2 (length ls) && (is_config (get_or ls 0 []) && is_board (get_or ls 1 []))

pub record HeadIs (bytes : List ℕ) (h : Head) : Type 0 where
  pub config_is : h.config ≡ config_in (get_or (lines_of bytes) 0 [])
  pub board_is : written 0 0 h.board ≡ grid_in 0 0 1 (get_or (lines_of bytes) 1 [])
  pub behind : lines_of h.pieces.now ≡ drop 2 (lines_of bytes)
  pub left : last_of (parts 10 h.pieces.now) ≡ last_of (parts 10 bytes)
  pub short : length h.board.cells.now + length h.pieces.now ≤ length bytes

-- each line is ended and is a piece
abbrev pub all_pieces : List ℕ → Bool
all_pieces bytes = is_empty (last_of (parts 10 bytes)) && all is_piece (lines_of bytes)
