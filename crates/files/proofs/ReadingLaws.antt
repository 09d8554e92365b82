-- The pieces read so far and the lines left make up all pieces, and their cells are fewer than the bytes passed; what the whole file asks for. Assumes nothing.
use Prim.Native.Nat.{ℕ, ◌+◌, ◌-◌, ◌≤◌}
use mathlib.Core.Bool.{true}
use mathlib.Core.List.{List, [], ◌∷◌, ◌++◌, append-nil, append_assoc, map}
use mathlib.Core.Path.{◌≡◌, refl, sym, ap, ap₂, ◌∙◌}
use native.Mathlib.Omega.{arith}
use lib.ListN.{length, take, drop, length-map, length-append}
use lib.Seq.{drop-drop, paste, paste-zero, take-length, take-paste, drop-paste}
use Rattle.definitions.specs.Files.{Written, record_at, records_from, is_piece, piece_in}
use Rattle.definitions.specs.declared.Record.{Record}
use Rattle.placements.specs.declared.Pieces.{Pieces}
use Rattle.placements.specs.Pieces.{empty_pieces, pieces_of}
use Rattle.files.specs.declared.grids.GridText.{GridText}
use Rattle.files.specs.declared.lines.PieceText.{PieceText}
use Rattle.files.specs.Lines.{FirstLine, NoLine, all_pieces, of_piece, written}
use Rattle.files.specs.Reading.{PiecesRead, cells_of_all, pieces_in, push_record}
use Rattle.files.proofs.LineLaws.{piece_is, piece_passes}
use Rattle.files.proofs.PieceLaws.{pieces_of_none, cells_more, piece_more, records_length}

-- ---- cells put behind cells
module _ (old xs ys : List ℕ) (h : length xs + length ys ≤ length old) where
  abbrev one : List ℕ
  one = paste old 0 xs (length xs)

  front : take (length xs) one ≡ xs
  front = let z : length xs ≡ 0 + length xs = omega arith in ap (λ (k : ℕ). take k one) z ∙ take-paste old 0 xs (length xs) (omega arith) (omega arith) ∙ take-length xs

  back : drop (length xs + length ys) one ≡ drop (0 + (length xs + length ys)) old
  back =
      let z : length xs ≡ 0 + length xs = omega arith in
      let s : 0 + length xs + length ys ≡ 0 + (length xs + length ys) = omega arith in
      sym (drop-drop (length ys) (length xs) one)
      ∙ ap (drop (length ys)) (ap (λ (k : ℕ). drop k one) z ∙ drop-paste old 0 xs (length xs) (omega arith) (omega arith))
      ∙ drop-drop (length ys) (0 + length xs) old ∙ ap (λ (k : ℕ). drop k old) s

  take_both : take (length xs + length ys) (xs ++ ys) ≡ xs ++ ys
  take_both = ap (λ (k : ℕ). take k (xs ++ ys)) (sym (length-append xs ys)) ∙ take-length (xs ++ ys)

  paste_behind : paste one (length xs) ys (length ys) ≡ paste old 0 (xs ++ ys) (length xs + length ys)
  paste_behind =
      ap₂ (λ (a b : List ℕ). a ++ take (length ys) ys ++ b) front back
      ∙ ap (λ (a : List ℕ). xs ++ a ++ drop (0 + (length xs + length ys)) old) (take-length ys)
      ∙ ap (λ (a : List ℕ). a ++ drop (0 + (length xs + length ys)) old) (sym take_both)

  -- the whole, as it is read
  pub both_taken : take (length xs + length ys) (paste one (length xs) ys (length ys)) ≡ xs ++ ys
  both_taken =
      let l = length-append xs ys in
      let z : length xs + length ys ≡ 0 + (length xs + length ys) = omega arith in
      ap₂ take z paste_behind ∙ take-paste old 0 (xs ++ ys) (length xs + length ys) (omega arith) (omega arith) ∙ take_both

  pub both_left : drop (length xs + length ys) (paste one (length xs) ys (length ys)) ≡ drop (length xs + length ys) old
  both_left =
      let l = length-append xs ys in
      let z : length xs + length ys ≡ 0 + (length xs + length ys) = omega arith in
      ap₂ drop z paste_behind ∙ drop-paste old 0 (xs ++ ys) (length xs + length ys) (omega arith) (omega arith) ∙ ap (λ (k : ℕ). drop k old) (sym z)

-- the cells of a grid, put behind others
pub put_behind : (old xs : List ℕ) (g : GridText) {used : ℕ} {new last : List ℕ} → used ≡ length xs → new ≡ paste old 0 xs used → last ≡ paste new used (map (λ x. x - 48) g.cells.now) (length g.cells.now)
    → last ≡ paste (paste old 0 xs (length xs)) (length xs) (map (λ x. x - 48) g.cells.now) (length (map (λ x. x - 48) g.cells.now))
put_behind old xs g {used} e f h =
    h ∙ ap₂ (λ (l : List ℕ) (j : ℕ). paste l used (map (λ x. x - 48) g.cells.now) j) f (sym (length-map g.cells.now (λ x. x - 48)))
    ∙ ap (λ (j : ℕ). paste (paste old 0 xs j) j (map (λ x. x - 48) g.cells.now) (length (map (λ x. x - 48) g.cells.now))) e

-- ---- the pieces read so far; `rest` is what is left of the text
pub record ReadTo (bytes old rest : List ℕ) (t : Pieces) (used : ℕ) (new : List ℕ) : Type 0 where
  pub done : List Written
  pub left : pieces_in bytes ≡ done ++ pieces_in rest
  pub lines : all_pieces rest ≡ true
  pub pieces : t ≡ pieces_of (records_from 0 done)
  pub count : used ≡ length (cells_of_all done)
  pub cells : new ≡ paste old 0 (cells_of_all done) used
  pub passed : used + length rest ≤ length bytes
  pub many : length done + length rest ≤ length bytes

pub none_read : (bytes old : List ℕ) {t : Pieces} → all_pieces bytes ≡ true → t ≡ empty_pieces 0 → ReadTo bytes old bytes t 0 old
unfolding cells_of_all
none_read bytes old ls e =
    record {
      done = [];
      left = refl;
      lines = ls;
      pieces = e ∙ pieces_of_none;
      count = refl;
      cells = paste-zero old 0 [];
      passed = omega arith;
      many = omega arith;
    }

pieces_next : {text line rest : List ℕ} → FirstLine text line rest → pieces_in text ≡ piece_in line ∷ pieces_in rest
unfolding pieces_in
pieces_next s = ap (map piece_in) s.lines

pieces_none : {text : List ℕ} → NoLine text → pieces_in text ≡ []
unfolding pieces_in
pieces_none s = ap (map piece_in) s.lines

module _ {bytes old rest : List ℕ} {t : Pieces} {used : ℕ} {new : List ℕ} (so : ReadTo bytes old rest t used new) where
  pub count_bound : t.count + length rest ≤ length bytes
  unfolding pieces_of
  count_bound =
      let e = ap (λ (u : Pieces). u.count) so.pieces in
      let f = records_length 0 so.done in
      omega (arith, so.many)

  pub all_read : NoLine rest → PiecesRead bytes old t used new
  all_read s =
      let e : so.done ≡ pieces_in bytes = sym (so.left ∙ ap (λ (l : List Written). so.done ++ l) (pieces_none s) ∙ append-nil so.done) in
      record {
        pieces = so.pieces ∙ ap (λ (l : List Written). pieces_of (records_from 0 l)) e;
        count = so.count ∙ ap (λ (l : List Written). length (cells_of_all l)) e;
        cells = so.cells ∙ ap (λ (l : List Written). paste old 0 (cells_of_all l) used) e;
      }

  -- one line more
  module _ (fits : length bytes ≤ length old) {line next : List ℕ} (s : FirstLine rest line next) where
    pub line_piece : is_piece line ≡ true
    line_piece = piece_is s so.lines

    pub one_more : (p : PieceText) → (of_piece p ≡ piece_in line) → length p.grid.cells.now ≤ length line
        → {q : Record} → q ≡ record_at used (written p.count p.wood p.grid) → {u : Pieces} → u ≡ push_record t q
        → {r : ℕ} {last : List ℕ} → (r ≡ used + length p.grid.cells.now) × (last ≡ paste new used (map (λ x. x - 48) p.grid.cells.now) (length p.grid.cells.now))
        → ReadTo bytes old next u r last
    one_more p is-p short {q} is-q {u} is-u {r} {last} is =
        let g = piece_in line in
        let gs = so.done in
        let cs = cells_of_all gs in
        let m = length-map p.grid.cells.now (λ x. x - 48) in
        let sum = cells_more g gs in
        let same : map (λ x. x - 48) p.grid.cells.now ≡ g.cells = ap (λ (w : Written). w.cells) is-p in
        let sum-length = length-append cs g.cells in
        let whole = ap length sum in
        let also = ap length same in
        let grown = length-append gs (g ∷ []) in
        let c = so.count in
        let q = so.passed in
        let k = so.many in
        let i = is.0 in
        let e = s.shorter in
        let total : length cs + length g.cells ≡ r = omega arith in
        record {
          done = gs ++ (g ∷ []);
          left = so.left ∙ ap (λ (l : List Written). gs ++ l) (pieces_next s) ∙ sym (append_assoc gs (g ∷ []) (pieces_in next));
          lines = piece_passes s line_piece ∙ so.lines;
          pieces = is-u ∙ ap₂ push_record so.pieces (is-q ∙ ap₂ record_at so.count is-p) ∙ piece_more g gs;
          count = omega arith;
          cells = put_behind old cs p.grid so.count so.cells is.1 ∙ ap (λ (l : List ℕ). paste (paste old 0 cs (length cs)) (length cs) l (length l)) same ∙ paste_behind old cs g.cells (omega arith) ∙ ap₂ (λ (l : List ℕ) (j : ℕ). paste old 0 l j) (sym sum) total;
          passed = omega arith;
          many = omega arith;
        }
