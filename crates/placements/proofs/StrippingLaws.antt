-- Records whose grids are stripped into a slice: a grid that ends before a place is not touched by what is written from there on; the records written one
-- after the other stand for the stripped pieces; and rows 2 to 9 let a stripped tray pass where they let the lent one pass. Assumes nothing.
use Prim.Native.Nat.{ℕ, suc, ◌+◌, ◌*◌, ◌-◌, ◌≤◌, ◌<◌}
use mathlib.Core.Bool.{Bool, ◌&&◌}
use mathlib.Core.List.Memᴰ
use mathlib.Core.List.{List, [], ◌∷◌, ◌++◌, append-nil, map, map-append, Memᴰ, head-eq_of_cons-eq, tail-eq_of_cons-eq, map-map}
use mathlib.Core.Logic.{◌⊎◌, inl, inr}
use mathlib.Core.Path.{◌≡◌, refl, sym, ap, ap₂, ◌∙◌, subst}
use native.Mathlib.Numerals.{add-one}
use native.Mathlib.Omega.{arith}
use borrow.Author.Tests.{le-ltb}
use lib.Dec.{T, leb, leb→le, le→leb}
use lib.ListN.{length, get_or, take, drop, set, length-set, length-map}
use lib.Seq.{paste, append_snoc, set_at, get_or_at, drop-cons, take-take, take-length, drop-length, take_at, drop_at, take-suc, take-suc-set, take-paste, length-take-le, length-paste}
use Rattle.lists.specs.Lists.{all, sum}
use Rattle.lists.proofs.TestLaws.{and_left, and_right, and_both, is_true}
use Rattle.lists.proofs.ListLaws.{all_at, all_of, all_map, drop_take, map_same}
use Rattle.definitions.specs.Grid.{Sides, Grid, volume}
use Rattle.definitions.specs.Stripping.{corner, strip, FitsIn, frame_of, own_frame}
use Rattle.definitions.specs.Framing.{unframed}
use Rattle.definitions.specs.Kinds.{Piece, Tray}
use Rattle.definitions.specs.Refusals.{sides_of, grid_of, piece_of, strip_piece, strip_tray, is_side, sides_fit, cells_lie, are_bits, some_filled, copy_count, board_cell_count, first_that_applies}
use Rattle.definitions.specs.declared.Record.{Record}
use Rattle.theorems.proofs.RefusalLaws.{PassedLent, fit-volume}
use Rattle.theorems.proofs.StrippingLaws.{strip_bits, strip_whole, strip_sum, strip_fits, strip_some}
use Rattle.theorems.proofs.StrippedLaws.{strip_filled}
use Rattle.shape.specs.Coords.{as_sides}
use Rattle.shape.specs.Stripping.{StripsInto}
use Rattle.shape.specs.declared.stripping.Window.{Window}
use Rattle.shape.proofs.StrippingLaws.{strip_volume}
use Rattle.placements.specs.declared.Pieces.{Pieces}
use Rattle.placements.specs.declared.stripping.StrippedRecord.{StrippedRecord}
use Rattle.placements.specs.Pieces.{no_record, records_of, lent_in, tray_in}
use Rattle.placements.specs.Stages.{grid_rows, lent_rows}
use Rattle.placements.specs.Counting.{Accepted9}
use Rattle.placements.specs.Stripping.{end_of, Before, StripsRecord, StripsPieces, StripsTray, with_grid, with_grids}
use Rattle.placements.proofs.RefusalLaws.{records_few, records_count}
use Rattle.placements.proofs.CountingLaws.{Lent, board_fits, grid_size, board_size}

-- ---- what ends before a place
part_kept : (start s v : ℕ) (old new : List ℕ) → take start new ≡ take start old → s + v ≤ start → take v (drop s new) ≡ take v (drop s old)
part_kept start s v old new e h = within new ∙ ap (λ (l : List ℕ). take v (drop s l)) e ∙ sym (within old)
  where
    within : (l : List ℕ) → take v (drop s l) ≡ take v (drop s (take start l))
    within l = sym (ap (take v) (drop_take s start l) ∙ take-take v (start - s) (drop s l) (omega arith))

piece_kept : {start : ℕ} {old new : List ℕ} → Before start old new → (r : Record) → end_of r ≤ start → piece_of new r ≡ piece_of old r
unfolding grid_of
piece_kept {start} {old} {new} b r h =
    ap {B = Piece} (λ (cells : List ℕ). record { grid = record { sides = sides_of r; cells = cells }; count = r.count; wood = r.wood })
    (part_kept start r.start (volume (sides_of r)) old new b.kept h)

before_all : {start : ℕ} {old new : List ℕ} → Before start old new → (n : ℕ) → n ≤ start → Before n old new
before_all {start} {old} {new} b n h =
    record { kept = sym (take-take n start new h) ∙ ap (take n) b.kept ∙ take-take n start old h; long = b.long }

before_twice : {n : ℕ} {a b c : List ℕ} → Before n a b → Before n b c → Before n a c
before_twice x y = record { kept = y.kept ∙ x.kept; long = y.long ∙ x.long }

-- ---- a list written into another
module _ (old xs : List ℕ) (start : ℕ) (fits : start + length xs ≤ length old) where
  abbrev new : List ℕ
  new = paste old start xs (length xs)

  front : take (start + length xs) new ≡ take start old ++ take (length xs) xs
  front = take-paste old start xs (length xs) (omega arith) (omega arith)

  start_long : length (take start old) ≡ start
  start_long = length-take-le start old (omega arith)

  paste_before : Before start old (paste old start xs (length xs))
  paste_before =
      record {
        kept = sym (take-take start (start + length xs) new (omega arith)) ∙ ap (take start) front ∙ take_at (take start old) (take (length xs) xs) start start_long;
        long = length-paste old start xs (length xs) fits (omega arith);
      }

  paste_part : take (length xs) (drop start (paste old start xs (length xs))) ≡ xs
  paste_part =
      let e : start + length xs - start ≡ length xs = omega arith in
      ap (λ (n : ℕ). take n (drop start new)) (sym e) ∙ sym (drop_take start (start + length xs) new)
      ∙ ap (drop start) front ∙ drop_at (take start old) (take (length xs) xs) start start_long ∙ take-length xs

-- grids written one after the other, and one more
grids_more : (qs : List Piece) (q : Piece) (old : List ℕ) (start : ℕ)
    → with_grids old start (qs ++ (q ∷ [])) ≡ with_grid (with_grids old start qs) (start + 512 * length qs) q.grid
unfolding with_grids
grids_more [] q old start = let e : start ≡ start + 512 * 0 = omega arith in ap (λ (n : ℕ). with_grid old n q.grid) e
grids_more (r ∷ qs) q old start =
    let e : start + 512 + 512 * length qs ≡ start + 512 * suc (length qs) = omega arith in
    grids_more qs q (with_grid old start r.grid) (start + 512) ∙ ap (λ (n : ℕ). with_grid (with_grids (with_grid old start r.grid) (start + 512) qs) n q.grid) e

-- ---- one record
module _ (bytes : List ℕ) (r : Record) (g : Grid) (is : g ≡ grid_of bytes r) (whole : length g.cells ≡ volume g.sides) (fit : T (sides_fit r)) where
  pub strips_record : (w : Window) (old new : List ℕ) (start : ℕ) → StripsInto g w old start new → start + 512 ≤ length old
      → StripsRecord bytes r
      (record { row = record { a = w.sides.0; b = w.sides.1; c = w.sides.2; count = r.count; wood = r.wood; start = start }; at = w.at }) old start new
  unfolding grid_of sides_of with_grid
  strips_record w old new start into room =
      record {
        piece = ap₂ {C = Piece} (λ (s : _) (cells : List ℕ). record { grid = record { sides = s; cells = cells }; count = r.count; wood = r.wood }) same_sides part;
        at = into.at ∙ ap corner is;
        ends = let e = ap volume into.sides in omega (arith, small);
        before = subst (Before start old) (sym into.cells) (paste_before old (strip g).cells start fits);
        filled = into.cells ∙ ap (λ (h : Grid). paste old start (strip h).cells (length (strip h).cells)) is;
      }
    where
      same_sides : as_sides w.sides ≡ (strip (grid_of bytes r)).sides
      same_sides = into.sides ∙ ap (λ (h : Grid). (strip h).sides) is

      long : length (strip g).cells ≡ volume (strip g).sides
      long = strip_whole g whole

      small : volume (strip g).sides ≤ 512
      small = let a = strip_volume g in let b = fit-volume r fit in let e = ap (λ (h : Grid). volume h.sides) is in omega arith

      fits : start + length (strip g).cells ≤ length old
      fits = omega (arith, long, small)

      part : take (volume (as_sides w.sides)) (drop start new) ≡ (strip (grid_of bytes r)).cells
      part =
          ap₂ (λ (n : ℕ) (l : List ℕ). take n (drop start l)) (ap volume into.sides ∙ sym long) into.cells
          ∙ paste_part old (strip g).cells start fits ∙ ap (λ (h : Grid). (strip h).cells) is

-- ---- the pieces, one after the other
pub record StrippedTo (t : Pieces) (bytes old : List ℕ) (i : ℕ) (made : Pieces) (out : List ℕ) : Type 0 where
  pub within : i ≤ t.count
  pub as_many : made.count ≡ t.count
  pub many : length made.records ≡ 16
  pub pieces : map (piece_of out) (take i made.records) ≡ map (λ r. strip_piece (piece_of bytes r)) (take i t.records)
  pub ends : T (all (λ q. leb (end_of q) (512 * i + 512)) (take i made.records))
  pub before : Before 512 old out
  pub filled : out ≡ with_grids old 512 (map (piece_of bytes) (take i t.records))

module _ (t : Pieces) (bytes old : List ℕ) (long : length t.records ≡ 16) where
  pub stripped_none : StrippedTo t bytes old 0 t old
  unfolding with_grids
  stripped_none = record { within = omega arith; as_many = refl; many = long; pieces = refl; ends = tt; before = record { kept = refl; long = refl }; filled = refl }

  -- one record more
  module _ (i : ℕ) (made : Pieces) (out : List ℕ) (s : StrippedTo t bytes old i made out) (few : t.count ≤ 16) (h : i < t.count) where
    start : ℕ
    start = 512 * i + 512

    ends_before : (q : Record) → Memᴰ q (take i made.records) → end_of q ≤ 512 * i + 512
    ends_before q m = leb→le (end_of q) (512 * i + 512) (all_at (λ (r : Record). leb (end_of r) (512 * i + 512)) (take i made.records) s.ends m)

    pub stripped_next : (p : Record) → p ≡ get_or t.records i no_record → (r : StrippedRecord) (new : List ℕ) → StripsRecord bytes p r out (512 * i + 512) new
        → (last : Pieces) → last ≡ record { records = set made.records i r.row; count = made.count } → StrippedTo t bytes old (i + 1) last new
    stripped_next p is r new one last e =
        subst (λ (x : Pieces). StrippedTo t bytes old (i + 1) x new) (sym e)
        (record {
          within = omega arith;
          as_many = s.as_many;
          many = length-set made.records i r.row ∙ s.many;
          pieces = ap (map (piece_of new)) rows_now ∙ map-append (piece_of new) (take i made.records) (r.row ∷ [])
              ∙ ap₂ (λ (xs ys : List Piece). xs ++ ys)
              (map_same (piece_of new) (piece_of out) (take i made.records) (λ q m. piece_kept one.before q (ends_before q m)) ∙ s.pieces)
              (ap (λ (q : Piece). q ∷ []) (one.piece ∙ ap (λ (q : Record). strip_piece (piece_of bytes q)) is))
              ∙ sym (ap (map f) lent_now ∙ map-append f (take i t.records) (get_or t.records i no_record ∷ []));
          ends = subst (λ (rs : List Record). T (all (λ q. leb (end_of q) (512 * (i + 1) + 512)) rs)) (sym rows_now)
              (all_of (λ q. leb (end_of q) (512 * (i + 1) + 512)) (take i made.records ++ (r.row ∷ [])) (λ q m. le→leb (end_of q) (512 * (i + 1) + 512) (ends_now q (Memᴰ.append_cases (take i made.records) m))));
          before = before_twice s.before (before_all one.before 512 (omega arith));
          filled = filled_now;
        })
      where
        f : Record → Piece
        f q = strip_piece (piece_of bytes q)

        rows_now : take (i + 1) (set made.records i r.row) ≡ take i made.records ++ (r.row ∷ [])
        rows_now = let m = s.many in ap (λ (n : ℕ). take n (set made.records i r.row)) (add-one i) ∙ take-suc-set made.records i r.row (omega arith)

        lent_now : take (i + 1) t.records ≡ take i t.records ++ (get_or t.records i no_record ∷ [])
        lent_now = ap (λ (n : ℕ). take n t.records) (add-one i) ∙ take-suc t.records i no_record (omega arith)

        passed : List Piece
        passed = map (piece_of bytes) (take i t.records)

        passed_long : length passed ≡ i
        passed_long = length-map (take i t.records) (piece_of bytes) ∙ length-take-le i t.records (omega arith)

        at_start : 512 * i + 512 ≡ 512 + 512 * length passed
        at_start = omega (arith, passed_long)

        filled_now : new ≡ with_grids old 512 (map (piece_of bytes) (take (i + 1) t.records))
        filled_now =
            one.filled ∙ ap₂ (λ (l : List ℕ) (n : ℕ). with_grid l n (grid_of bytes p)) s.filled at_start
            ∙ ap (λ (q : Record). with_grid (with_grids old 512 passed) (512 + 512 * length passed) (piece_of bytes q).grid) is
            ∙ sym (grids_more passed (piece_of bytes (get_or t.records i no_record)) old 512)
            ∙ ap (with_grids old 512) (sym (ap (map (piece_of bytes)) lent_now ∙ map-append (piece_of bytes) (take i t.records) (get_or t.records i no_record ∷ [])))

        ends_now : (q : Record) → Memᴰ q (take i made.records) ⊎ Memᴰ q (r.row ∷ []) → end_of q ≤ 512 * (i + 1) + 512
        ends_now q (inl m) = let a = ends_before q m in omega arith
        ends_now q (inr m) = let e = ap end_of (Memᴰ.eq_of_singleton m) in let a = one.ends in omega arith

  pub stripped_all : (i : ℕ) (made : Pieces) (out : List ℕ) → StrippedTo t bytes old i made out → t.count ≤ 16 → t.count ≤ i → StripsPieces t bytes made old out
  stripped_all i made out s few h =
      record {
        as_many = s.as_many;
        many = s.many;
        pieces = ap (map (piece_of out)) records ∙ s.pieces ∙ sym (ap (λ (rs : List Record). map strip_piece (map (piece_of bytes) rs)) lent ∙ map-map strip_piece (piece_of bytes) (take i t.records));
        ends = subst (λ (rs : List Record). T (all (λ q. leb (end_of q) 8704) rs)) (sym records)
            (all_of (λ q. leb (end_of q) 8704) (take i made.records) (λ q m. le→leb (end_of q) 8704 (let a = leb→le (end_of q) (512 * i + 512) (all_at (λ (r : Record). leb (end_of r) (512 * i + 512)) (take i made.records) s.ends m) in omega (arith, s.within))));
        before = s.before;
        filled = s.filled ∙ ap (λ (rs : List Record). with_grids old 512 (map (piece_of bytes) rs)) (sym lent);
      }
    where
      same : i ≡ t.count
      same = let w = s.within in omega arith

      records : records_of made ≡ take i made.records
      records = records_few made (let m = s.as_many in omega arith) ∙ ap (λ (n : ℕ). take n made.records) (s.as_many ∙ sym same)

      lent : records_of t ≡ take i t.records
      lent = records_few t few ∙ ap (λ (n : ℕ). take n t.records) (sym same)

-- ---- rows 2 to 9 let a stripped tray pass
-- where each fact holds no row applies
passes_lent : (rs : List Record) (board : Record) (bytes : List ℕ) → PassedLent rs board bytes (lent_in rs board bytes) → first_that_applies (lent_rows rs board bytes) ≡ 0
unfolding lent_rows grid_rows
passes_lent rs board bytes p =
    let t = lent_in rs board bytes in
    rw (
      le-ltb 16 (length rs) p.few_pieces,
      is_true (all sides_fit (board ∷ rs)) p.sides,
      is_true (all (cells_lie bytes) (board ∷ rs)) p.lie,
      is_true (are_bits t.board) p.board_bits,
      is_true (all (λ q. are_bits q.grid) t.pieces) p.bits,
      is_true (all (λ q. some_filled q.grid) t.pieces) p.filled,
      le-ltb 128 (copy_count t) p.few_copies,
      le-ltb 128 (board_cell_count t) p.few_cells,
    )

-- sides of 1 to 8 stay so
side_told : (n : ℕ) → T (is_side n) → (1 ≤ n) × (n ≤ 8)
unfolding is_side
side_told n h = (leb→le 1 n (and_left (leb 1 n) (leb n 8) h), leb→le n 8 (and_right (leb 1 n) (leb n 8) h))

side_tells : (n : ℕ) → 1 ≤ n → n ≤ 8 → T (is_side n)
unfolding is_side
side_tells n a b = and_both (leb 1 n) (leb n 8) (le→leb 1 n a) (le→leb n 8 b)

sides_stay : (g : Grid) (r q : Record) → g.sides ≡ sides_of r → sides_of q ≡ (strip g).sides → T (sides_fit r) → T (sides_fit q)
unfolding sides_fit sides_of frame_of
sides_stay g r q e f h =
    and_both (is_side q.a) (is_side q.b && is_side q.c) (side_tells q.a (omega (arith, k.0, x)) (omega (arith, w.along_x, a.1, x, u)))
    (and_both (is_side q.b) (is_side q.c) (side_tells q.b (omega (arith, k.1, y)) (omega (arith, w.along_y, b.1, y, v))) (side_tells q.c (omega (arith, k.2, z)) (omega (arith, w.along_z, c.1, z, o))))
  where
    rest : T (is_side r.b && is_side r.c)
    rest = and_right (is_side r.a) (is_side r.b && is_side r.c) h

    a : (1 ≤ r.a) × (r.a ≤ 8)
    a = side_told r.a (and_left (is_side r.a) (is_side r.b && is_side r.c) h)

    b : (1 ≤ r.b) × (r.b ≤ 8)
    b = side_told r.b (and_left (is_side r.b) (is_side r.c) rest)

    c : (1 ≤ r.c) × (r.c ≤ 8)
    c = side_told r.c (and_right (is_side r.b) (is_side r.c) rest)

    -- the sides of the lent and of the stripped grid
    u : g.sides.a ≡ r.a
    u = ap (λ (s : Sides). s.a) e

    v : g.sides.b ≡ r.b
    v = ap (λ (s : Sides). s.b) e

    o : g.sides.c ≡ r.c
    o = ap (λ (s : Sides). s.c) e

    x : q.a ≡ (strip g).sides.a
    x = ap (λ (s : Sides). s.a) f

    y : q.b ≡ (strip g).sides.b
    y = ap (λ (s : Sides). s.b) f

    z : q.c ≡ (strip g).sides.c
    z = ap (λ (s : Sides). s.c) f

    w : FitsIn (frame_of g) (strip g).sides
    w = strip_fits g

    k : (1 ≤ (strip g).sides.a) × (1 ≤ (strip g).sides.b) × (1 ≤ (strip g).sides.c)
    k = strip_some g (omega (arith, a.0, u), omega (arith, b.0, v), omega (arith, c.0, o))

-- the sides of the records, from what they stand for
piece_sides : (bytes new : List ℕ) (q r : Record) → piece_of new q ≡ strip_piece (piece_of bytes r) → sides_of q ≡ (strip (grid_of bytes r)).sides
unfolding grid_of
piece_sides bytes _ q r e = ap (λ (p : Piece). p.grid.sides) e

fit_all : (bytes new : List ℕ) (qs rs : List Record) → map (piece_of new) qs ≡ map strip_piece (map (piece_of bytes) rs) → T (all sides_fit rs) → T (all sides_fit qs)
fit_all bytes new [] rs e h = tt
fit_all bytes new (q ∷ qs) [] e h = absurd (let z = ap length e in omega arith)
fit_all bytes new (q ∷ qs) (r ∷ rs) e h =
    and_both (sides_fit q) (all sides_fit qs)
    (sides_stay (grid_of bytes r) r q grid_sides (piece_sides bytes new q r (head-eq_of_cons-eq e)) (and_left (sides_fit r) (all sides_fit rs) h))
    (fit_all bytes new qs rs (tail-eq_of_cons-eq e) (and_right (sides_fit r) (all sides_fit rs) h))
  where
    grid_sides : (grid_of bytes r).sides ≡ sides_of r
    grid_sides = unfold grid_of in refl

-- what is tested of the lent tray holds of the stripped one
module _ (t : Pieces) (board : Record) (bytes : List ℕ) (lent : Lent t board bytes) (long : length t.records ≡ 16) where
  abbrev tray : Tray
  tray = lent_in (records_of t) board bytes

  abbrev p : PassedLent (records_of t) board bytes (lent_in (records_of t) board bytes)
  p = lent.passed

  pub piece_whole : (q : Piece) → Memᴰ q (lent_in (records_of t) board bytes).pieces → length q.grid.cells ≡ volume q.grid.sides
  piece_whole q m =
      let r = Memᴰ.of_map (piece_of bytes) (records_of t) m in
      subst (λ (x : Piece). length x.grid.cells ≡ volume x.grid.sides) r.2
      (grid_size t board bytes lent r.0 (all_at (cells_lie bytes) (records_of t) (and_right (cells_lie bytes board) (all (cells_lie bytes) (records_of t)) p.lie) r.1))

  all_stripped : (f : Grid → Bool) → ((q : Piece) → Memᴰ q tray.pieces → T (f (strip q.grid))) → T (all (λ q. f q.grid) (map strip_piece tray.pieces))
  all_stripped f h = rw (all_map strip_piece (λ (q : Piece). f q.grid) tray.pieces) (all_of (λ q. f (strip q.grid)) tray.pieces h)

  module _ (made : Pieces) (first : Record) (cells : List ℕ) (board-is : piece_of cells first ≡ strip_piece (piece_of bytes board)) (board_ends : end_of first ≤ length cells)
      (as_many : made.count ≡ t.count) (many : length made.records ≡ 16) (pieces_are : map (piece_of cells) (records_of made) ≡ map strip_piece (map (piece_of bytes) (records_of t)))
      (ends : T (all (λ q. leb (end_of q) (length cells)) (records_of made))) where
    grid_is : grid_of cells first ≡ strip (grid_of bytes board)
    grid_is = ap (λ (q : Piece). q.grid) board-is

    -- the records lend the stripped tray
    pub tray_is : lent_in (records_of made) first cells ≡ unframed (tray_in (records_of t) board bytes)
    unfolding unframed strip_tray
    tray_is = λ i. record { board = grid_is i; pieces = pieces_are i; frame = own_frame (grid_is i) }

    passed : PassedLent (records_of made) first cells (unframed (tray_in (records_of t) board bytes))
    unfolding unframed strip_tray copy_count board_cell_count cells_lie
    passed =
        record {
          few_pieces = let a = records_count made many in let b = lent.few in omega arith;
          sides = and_both (sides_fit first) (all sides_fit (records_of made))
              (sides_stay (grid_of bytes board) board first (unfold grid_of in refl) (piece_sides bytes cells first board board-is) (board_fits t board bytes lent).0)
              (fit_all bytes cells (records_of made) (records_of t) pieces_are (and_right (sides_fit board) (all sides_fit (records_of t)) p.sides));
          lie = and_both (leb (end_of first) (length cells)) (all (cells_lie cells) (records_of made)) (le→leb (end_of first) (length cells) board_ends) ends;
          board_bits = strip_bits (grid_of bytes board) p.board_bits;
          bits = all_stripped are_bits (λ q m. strip_bits q.grid (all_at (λ (x : Piece). are_bits x.grid) tray.pieces p.bits m));
          filled = all_stripped some_filled (λ q m. strip_filled q.grid (all_at (λ (x : Piece). are_bits x.grid) tray.pieces p.bits m) (piece_whole q m)
              (all_at (λ (x : Piece). some_filled x.grid) tray.pieces p.filled m));
          few_copies = let e = ap sum (map-map {B = Piece} (λ q. q.count) strip_piece tray.pieces) in let h = p.few_copies in omega arith;
          few_cells = let e = strip_sum (grid_of bytes board) p.board_bits (board_size t board bytes lent) in let h = p.few_cells in omega arith;
        }

    pub stripped_accepted : Accepted9 made first cells
    stripped_accepted =
        passes_lent (records_of made) first cells (subst (PassedLent (records_of made) first cells) (sym tray_is) passed)

  -- the board first, then the pieces
  pub strips_tray : (b : StrippedRecord) (made : Pieces) (old mid cells : List ℕ) → StripsRecord bytes board b old 0 mid → StripsPieces t bytes made mid cells → 8704 ≤ length old
      → StripsTray t board bytes (record { pieces = made; board = b.row; at = b.at }) cells
  unfolding strip_tray frame_of
  strips_tray b made old mid cells one rest room =
      record {
        tray = tray_is made b.row cells board-is board_ends rest.as_many rest.many rest.pieces ends;
        accepted = stripped_accepted made b.row cells board-is board_ends rest.as_many rest.many rest.pieces ends;
        at = one.at;
      }
    where
      long_enough : 8704 ≤ length cells
      long_enough = omega (arith, rest.before.long, one.before.long)

      board-is : piece_of cells b.row ≡ strip_piece (piece_of bytes board)
      board-is = piece_kept rest.before b.row one.ends ∙ one.piece

      board_ends : end_of b.row ≤ length cells
      board_ends = omega (arith, one.ends, long_enough)

      ends : T (all (λ q. leb (end_of q) (length cells)) (records_of made))
      ends =
          all_of (λ q. leb (end_of q) (length cells)) (records_of made)
          (λ q m. le→leb (end_of q) (length cells) (omega (arith, long_enough, leb→le (end_of q) 8704 (all_at (λ (r : Record). leb (end_of r) 8704) (records_of made) rest.ends m))))

-- the board's grid and those of the pieces, one after the other
pub grids_written : (t : Pieces) (board : Record) (bytes : List ℕ) (b : StrippedRecord) (made : Pieces) (old mid cells : List ℕ)
    → StripsRecord bytes board b old 0 mid → StripsPieces t bytes made mid cells → cells ≡ with_grids old 0 (map (piece_of bytes) (board ∷ records_of t))
unfolding with_grids
grids_written t board bytes b made old mid cells one rest =
    rest.filled ∙ ap (λ (l : List ℕ). with_grids l 512 (map (piece_of bytes) (records_of t))) one.filled

-- ---- places put back into the lent box, one after the other
module _ (f : ℕ → ℕ) (xs : List ℕ) where
  abbrev pub put_to : ℕ → List ℕ
  put_to i = map f (take i xs) ++ drop i xs

  module _ (i : ℕ) (h : i < length xs) where
    front_long : length (map f (take i xs)) ≡ i
    front_long = length-map (take i xs) f ∙ length-take-le i xs (omega arith)

    here : put_to i ≡ map f (take i xs) ++ (get_or xs i 0 ∷ drop (suc i) xs)
    here = ap (λ (l : List ℕ). map f (take i xs) ++ l) (drop-cons xs i 0 h)

    pub put_at : get_or (map f (take i xs) ++ drop i xs) i 0 ≡ get_or xs i 0
    put_at = ap (λ (l : List ℕ). get_or l i 0) here ∙ get_or_at (map f (take i xs)) (get_or xs i 0) (drop (suc i) xs) 0 i front_long

    pub put_next : (n : ℕ) → n ≡ f (get_or xs i 0) → set (map f (take i xs) ++ drop i xs) i n ≡ map f (take (i + 1) xs) ++ drop (i + 1) xs
    put_next n e =
        ap₂ (λ (l : List ℕ) (k : ℕ). set l i k) here e ∙ set_at (map f (take i xs)) (get_or xs i 0) (drop (suc i) xs) (f (get_or xs i 0)) i front_long
        ∙ sym (append_snoc (map f (take i xs)) (f (get_or xs i 0)) (drop (suc i) xs))
        ∙ ap (λ (l : List ℕ). l ++ drop (suc i) xs) (sym (map-append f (take i xs) (get_or xs i 0 ∷ [])) ∙ ap (map f) (sym (take-suc xs i 0 h)))
        ∙ ap (λ (k : ℕ). map f (take k xs) ++ drop k xs) (sym (add-one i))

  pub put_all : (i : ℕ) → i ≡ length xs → put_to i ≡ map f xs
  put_all i e = subst (λ (k : ℕ). put_to k ≡ map f xs) (sym e) (rw (take-length xs, drop-length xs, append-nil))
