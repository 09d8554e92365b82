-- A file is its first two lines and the pieces' behind them, and what it asks for is what they give. Assumes nothing.
use Prim.Native.Nat.{ℕ, ◌+◌, ◌-◌, ◌≤◌, ◌<◌}
use mathlib.Core.Bool.{Bool, true, false, ◌&&◌}
use mathlib.Core.List.{List, [], ◌++◌, map}
use mathlib.Core.Path.{◌≡◌, refl, sym, ap, ap₂, ◌∙◌}
use native.Mathlib.Omega.{arith}
use borrow.Author.Tests.{le-leb, lt-leb}
use lib.Dec.{leb}
use lib.ListN.{length, get_or, take, drop, length-map}
use lib.Seq.{paste}
use Rattle.std.specs.Prelude.{Option, None, Some, MatchOption}
use Rattle.lists.specs.Lists.{all, is_empty}
use Rattle.lists.proofs.TestLaws.{and_no}
use Rattle.definitions.specs.Files.{Written, record_at, records_from, parts, last_of, lines_of, is_config, is_board, is_piece, piece_in, is_file, call_on, call_in}
use Rattle.definitions.specs.declared.Record.{Record}
use Rattle.placements.specs.declared.Pieces.{Pieces}
use Rattle.placements.specs.Pieces.{pieces_of}
use Rattle.files.specs.declared.grids.GridText.{GridText}
use Rattle.files.specs.declared.lines.Head.{Head}
use Rattle.files.specs.Lines.{HeadIs, Read, all_pieces, config_in, has_head, written}
use Rattle.files.specs.Reading.{Asks, PiecesRead, cells_of_all, pieces_in}
use Rattle.files.proofs.ReadingLaws.{put_behind, both_taken, both_left}

-- ---- the tests, in another order
regroup : (a b k m n p : Bool) → a && (b && (k && (m && (n && p)))) ≡ (k && (m && n)) && (a && (b && p))
regroup false b k m n p = sym (and_no (k && (m && n)))
regroup true false k m n p = sym (and_no (k && (m && n)))
regroup true true false m n p = refl
regroup true true true false n p = refl
regroup true true true true n p = refl

module _ (text : List ℕ) where
  file_regrouped : is_file text ≡ has_head text && (leb (length text) 16384 && (is_empty (last_of (parts 10 text)) && all is_piece (drop 2 (lines_of text))))
  unfolding is_file has_head
  file_regrouped =
      let ls = lines_of text in
      regroup (leb (length text) 16384) (is_empty (last_of (parts 10 text))) (leb 2 (length ls)) (is_config (get_or ls 0 [])) (is_board (get_or ls 1 [])) (all is_piece (drop 2 ls))

  pub file_no_head : has_head text ≡ false → is_file text ≡ false
  file_no_head e = file_regrouped ∙ ap (λ (t : Bool). t && (leb (length text) 16384 && (is_empty (last_of (parts 10 text)) && all is_piece (drop 2 (lines_of text))))) e

  pub file_long : 16384 < length text → is_file text ≡ false
  unfolding is_file
  file_long h = rw (lt-leb (length text) 16384 h)

  pub file_is : {h : Head} → length text ≤ 16384 → has_head text ≡ true → HeadIs text h → is_file text ≡ all_pieces h.pieces.now
  file_is {h} few e so =
      file_regrouped ∙ ap₂ (λ (t s : Bool). t && (s && (is_empty (last_of (parts 10 text)) && all is_piece (drop 2 (lines_of text))))) e (le-leb (length text) 16384 few)
      ∙ ap₂ (λ (l : List ℕ) (ls : List (List ℕ)). is_empty l && all is_piece ls) (sym so.left) (sym so.behind)

pub unread : (wide : Bool) {file : Bool} → file ≡ false → (wide && file) ≡ false
unread wide e = ap (λ (t : Bool). wide && t) e ∙ and_no wide

pub narrow : (cells : ℕ) (file : Bool) → cells < 16384 → (leb 16384 cells && file) ≡ false
narrow cells file h = ap (λ (t : Bool). t && file) (lt-leb 16384 cells h)

pub is_read : (old : List ℕ) {file : Bool} → 16384 ≤ length old → file ≡ true → (leb 16384 (length old) && file) ≡ true
is_read old {file} h e = ap₂ (λ (t s : Bool). t && s) (le-leb 16384 (length old) h) e

-- the first two lines, where the lengths are a file's
pub within : (text : List ℕ) (cells : ℕ) → length text ≤ 16384 → 16384 ≤ cells → (r : Option Head) → Read r (has_head text) (λ h. HeadIs text h)
    → MatchOption r (leb 16384 cells && is_file text ≡ false) (λ h. (length text ≤ 16384) × (16384 ≤ cells) × (has_head text ≡ true) × HeadIs text h)
within text cells few wide None none = unread (leb 16384 cells) (file_no_head text none)
within text cells few wide (Some h) is = (few, wide, is.0, is.1)

-- ---- what a file asks for
module _ {text : List ℕ} {h : Head} (so : HeadIs text h) where
  abbrev behind : List ℕ
  behind = h.pieces.now

  abbrev board : GridText
  board = h.board

  call_pieces : records_from 0 (pieces_in behind) ≡ (call_in text 0 0).pieces
  unfolding call_in call_on pieces_in
  call_pieces = ap (λ (ls : List (List ℕ)). records_from 0 (map piece_in ls)) so.behind

  call_bytes : cells_of_all (pieces_in behind) ++ (written 0 0 board).cells ≡ (call_in text 0 0).bytes
  unfolding call_in call_on pieces_in cells_of_all
  call_bytes = ap₂ (λ (ls : List (List ℕ)) (g : Written). cells_of_all (map piece_in ls) ++ g.cells) so.behind so.board_is

  call_board : record_at (length (cells_of_all (pieces_in behind))) (written 0 0 board) ≡ (call_in text 0 0).board
  unfolding call_in call_on pieces_in cells_of_all
  call_board = ap₂ (λ (ls : List (List ℕ)) (g : Written). record_at (length (cells_of_all (map piece_in ls))) g) so.behind so.board_is

  call_config : config_in (get_or (lines_of text) 0 []) ≡ (call_in text 0 0).config
  unfolding call_in call_on config_in
  call_config = refl

  module _ (few : length text ≤ 16384) (old : List ℕ) (wide : 16384 ≤ length old) {t : Pieces} {used : ℕ} {new : List ℕ} (p : PiecesRead behind old t used new × (used ≤ length behind)) where
    pub asks : {q : Record} → q ≡ record_at used (written 0 0 board) → {r : ℕ} {last : List ℕ} → (r ≡ used + length board.cells.now) × (last ≡ paste new used (map (λ x. x - 48) board.cells.now) (length board.cells.now))
        → Asks text old (record { pieces = t; board = q; config = h.config; used = r }) last
    asks {q} is-q {r} {last} is =
        let cs = cells_of_all (pieces_in behind) in
        let gs = map (λ x. x - 48) board.cells.now in
        let e = p.0.count in
        let s = so.short in
        let m = length-map board.cells.now (λ x. x - 48) in
        let n : length cs + length gs ≡ r = omega (arith, is.0) in
        let l = put_behind old cs board p.0.count p.0.cells is.1 in
        let fits : length cs + length gs ≤ length old = omega (arith, p.1) in
        record {
          pieces_are = p.0.pieces ∙ ap pieces_of call_pieces;
          board_is = is-q ∙ ap (λ (k : ℕ). record_at k (written 0 0 board)) p.0.count ∙ call_board;
          config_is = so.config_is ∙ call_config;
          few = omega (arith, is.0, p.1);
          bytes_are = ap₂ take (sym n) l ∙ both_taken old cs gs fits ∙ call_bytes;
          behind = ap₂ drop (sym n) l ∙ both_left old cs gs fits ∙ ap (λ (k : ℕ). drop k old) n;
        }
