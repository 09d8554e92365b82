-- Rows written one behind the other, the cells of a row as a mask, and the rows of a kind as the loops write them. Assumes nothing.
use Prim.Native.Nat.{ℕ, suc, ◌+◌, ◌*◌, ◌-◌, ◌≤◌, ◌<◌}
use mathlib.Core.Bool.{Bool, true, false, ◌&&◌, ◌||◌}
use mathlib.Core.List.{List, [], ◌∷◌, ◌++◌, map, append_assoc, append-nil, Memᴰ, map-append, map-map}
use mathlib.Core.Path.{◌≡◌, refl, sym, ap, ap₂, ◌∙◌, subst, fun_ext}
use native.Mathlib.Numerals.{add-one}
use native.Mathlib.Omega.{arith}
use lib.Dec.{T, eqb, ltb, ltb→lt, lt→ltb}
use lib.ListN.{length, get_or, take, drop, set, length-append, length-map, length-take, drop_of_length-le, get_or-append, get_or-map}
use lib.Seq.{get_or-append-add, get_or-take, length-take-le, drop-cons, drop-set-lt, sets-eq}
use Rattle.lists.specs.Lists.{cons_if, keep, all, any, sort, from, below, member, joined, numbered_from}
use Rattle.lists.proofs.TestLaws.{or_no, or_assoc, and_left, and_right, and_both, tests_same}
use Rattle.lists.proofs.ListLaws.{drop_later, all_at, all_of, any_at, keep_same, map_same}
use Rattle.lists.proofs.RangeLaws.{below_at, below_of, length_below, member_at, member_of, from_append, from_start, from_next, from-end, get_or_of}
use Rattle.lists.proofs.SortLaws.{sort_at, sort_of}
use Rattle.definitions.specs.Grid.{Sides, Cell, Grid, InBox, box, volume, place_of, same_cell, filled_cells}
use Rattle.definitions.specs.Scan.{cell_ahead, scan, scan_number}
use Rattle.definitions.specs.Placements.{Placement, origin, lies, reaches, fits, placements_at}
use Rattle.theorems.proofs.MapLaws.{filled_at}
use Rattle.theorems.proofs.WellMadeLaws.{same_cell→eq, scan_ascending, number_below}
use Rattle.masks.specs.Masks.{has, nothing, only, either}
use Rattle.masks.specs.declared.Mask.{Mask}
use Rattle.shape.specs.Places.{cell_at}
use Rattle.shape.specs.Scans.{IsOrder}
use Rattle.shape.proofs.PlaceLaws.{place_lt, cell_at_place}
use Rattle.shape.proofs.GridLaws.{box_places}
use Rattle.shape.proofs.VariantLaws.{scan_has}
use Rattle.shape.proofs.ScanLaws.{cell_tied}
use Rattle.placements.specs.declared.poses.Pose.{Pose}
use Rattle.placements.specs.declared.poses.Poses.{Poses}
use Rattle.placements.specs.Poses.{cell_of, cells_in, variant_in, variants_in, no_pose}
use Rattle.placements.specs.Fitting.{fits_on}
use Rattle.placements.specs.Counting.{OnBoard}
use Rattle.placements.proofs.PoseLaws.{cells_numbered}
use Rattle.placements.proofs.CountingLaws.{cells_many}
use Rattle.rows.specs.Rows.{cells_of, mask_at, row_at, rows_in, spread, Appended}
use Rattle.rows.specs.Boards.{Numbered, lands}

-- ---- rows in front of a word do not see it
module _ (old new : List ℕ) where
  -- a row by its words
  row_same : (r : ℕ) → ((i : ℕ) → i < 8 * r + 8 → get_or new i 0 ≡ get_or old i 0) → row_at new r ≡ row_at old r
  unfolding row_at mask_at
  row_same r f =
      let a = f (8 * r) (omega arith) in
      let b = f (8 * r + 1) (omega arith) in
      let d = f (8 * r + 2) (omega arith) in
      let e = f (8 * r + 3) (omega arith) in
      let g = f (8 * r + 4) (omega arith) in
      rw (a, b, d, e, g)

  pub rows_same : (n : ℕ) → ((i : ℕ) → i < 8 * n → get_or new i 0 ≡ get_or old i 0) → rows_in new n ≡ rows_in old n
  unfolding rows_in
  rows_same n f = map_same (row_at new) (row_at old) (below n) (λ r m. let l = below_at n m in row_same r (λ i h. f i (omega arith)))

pub rows_snoc : (work : List ℕ) (n : ℕ) → rows_in work (n + 1) ≡ rows_in work n ++ (row_at work n ∷ [])
unfolding rows_in
rows_snoc work n = ap (map (row_at work)) (sym (from_append 0 n 1)) ∙ apart (below n)
  where
    apart : (xs : List ℕ) → map (row_at work) (xs ++ from (0 + n) 1) ≡ map (row_at work) xs ++ (row_at work n ∷ [])
    apart [] = ap (λ (k : ℕ). row_at work k ∷ []) (let e : 0 + n ≡ n = omega arith in e)
    apart (x ∷ xs) = ap (λ (l : List Placement). row_at work x ∷ l) (apart xs)

-- ---- a row written behind r rows
module _ (old : List ℕ) (r low high kind p j : ℕ) (room : 8 * r + 8 ≤ length old) where
  abbrev stored : List ℕ
  stored = set (set (set (set (set old (8 * r) low) (8 * r + 1) high) (8 * r + 2) kind) (8 * r + 3) p) (8 * r + 4) j

  abbrev words : List ℕ
  words = low ∷ high ∷ kind ∷ p ∷ j ∷ []

  stored_is : stored ≡ take (8 * r) old ++ (words ++ drop (8 * r + 5) old)
  stored_is =
      let a : 8 * r + 1 ≡ suc (8 * r) = omega arith in
      let b : 8 * r + 2 ≡ suc (suc (8 * r)) = omega arith in
      let d : 8 * r + 3 ≡ suc (suc (suc (8 * r))) = omega arith in
      let e : 8 * r + 4 ≡ suc (suc (suc (suc (8 * r)))) = omega arith in
      rw (a, b, d, e) (sets-eq words old (8 * r) (omega arith) ∙ append_assoc (take (8 * r) old) words (drop (8 * r + 5) old))

  in_front : (i : ℕ) → i < 8 * r → get_or stored i 0 ≡ get_or old i 0
  in_front i h =
      let e = length-take-le (8 * r) old (omega arith) in
      ap (λ (l : List ℕ). get_or l i 0) stored_is ∙ get_or-append (take (8 * r) old) (words ++ drop (8 * r + 5) old) 0 i (omega arith) ∙ get_or-take (8 * r) old i 0 h

  word_at : (k : ℕ) → get_or stored (8 * r + k) 0 ≡ get_or (words ++ drop (8 * r + 5) old) k 0
  word_at k =
      ap (λ (l : List ℕ). get_or l (8 * r + k) 0) stored_is
      ∙ ap (λ (n : ℕ). get_or (take (8 * r) old ++ (words ++ drop (8 * r + 5) old)) (n + k) 0) (sym (length-take-le (8 * r) old (omega arith)))
      ∙ get_or-append-add (take (8 * r) old) (words ++ drop (8 * r + 5) old) k 0

  row_is : row_at stored r ≡ record { kind = kind; p = p; j = j; cells = cells_of (record { low = low; high = high }) }
  unfolding row_at mask_at
  row_is =
      let z : 8 * r ≡ 8 * r + 0 = omega arith in
      let a : get_or stored (8 * r) 0 ≡ low = ap (λ (n : ℕ). get_or stored n 0) z ∙ word_at 0 in
      let b = word_at 1 in
      let d = word_at 2 in
      let e = word_at 3 in
      let f = word_at 4 in
      rw (a, b, d, e, f)

  behind_it : (n : ℕ) → 8 * r + 8 ≤ n → drop n stored ≡ drop n old
  behind_it n h =
      drop-set-lt n _ (8 * r + 4) j (omega arith) ∙ drop-set-lt n _ (8 * r + 3) p (omega arith) ∙ drop-set-lt n _ (8 * r + 2) kind (omega arith)
      ∙ drop-set-lt n _ (8 * r + 1) high (omega arith) ∙ drop-set-lt n old (8 * r) low (omega arith)

  pub written : Appended old r stored (r + 1) (record { kind = kind; p = p; j = j; cells = cells_of (record { low = low; high = high }) } ∷ [])
  written =
      record {
        count = refl;
        rows = rows_snoc stored r ∙ ap₂ (λ (qs : List Placement) (q : Placement). qs ++ (q ∷ [])) (rows_same old stored r in_front) row_is;
        behind = behind_it (8 * (r + 1)) (omega arith);
      }

-- ---- rows behind rows
pub append_none : (work : List ℕ) (n : ℕ) → Appended work n work n []
append_none work n = record { count = omega arith; rows = sym (append-nil (rows_in work n)); behind = refl }

pub append_then : {a b d : List ℕ} {n m k : ℕ} {qs rs : List Placement} → Appended a n b m qs → Appended b m d k rs → Appended a n d k (qs ++ rs)
append_then {a} {b} {d} {n} {m} {k} {qs} {rs} x y =
    record {
      count = (let e = length-append qs rs in let f = x.count in let g = y.count in omega arith);
      rows = y.rows ∙ ap (λ (l : List Placement). l ++ rs) x.rows ∙ append_assoc (rows_in a n) qs rs;
      behind = y.behind ∙ drop_later (8 * m) (8 * k) b a (let g = y.count in omega arith) x.behind;
    }

-- rows where none stood are all rows
pub append_first : {a b : List ℕ} {m : ℕ} {qs : List Placement} → Appended a 0 b m qs → rows_in b m ≡ qs
unfolding rows_in
append_first x = x.rows

-- ---- a loop that appends rows: what is done and what is left make all
pub record Reached (old : List ℕ) (n : ℕ) (new : List ℕ) (m : ℕ) (left all : List Placement) : Type 0 where
  pub done : List Placement
  pub appended : Appended old n new m (map spread done)
  pub makes : done ++ left ≡ all

pub reached_none : (work : List ℕ) (n : ℕ) (left all : List Placement) → left ≡ all → Reached work n work n left all
reached_none work n left all e = record { done = []; appended = append_none work n; makes = e }

pub reached_start : (work : List ℕ) (n : ℕ) (left all : List Placement) → left ≡ all → Reached work n work (n + 0) left all
reached_start work n left all e = let d : n ≡ n + 0 = omega arith in subst (λ (m : ℕ). Reached work n work m left all) d (reached_none work n left all e)

module _ {old new : List ℕ} {n m : ℕ} {left all : List Placement} (c : Reached old n new m left all) where
  pub reached_more : {later : List ℕ} {k : ℕ} (qs rest : List Placement) → left ≡ qs ++ rest → Appended new m later k (map spread qs) → Reached old n later k rest all
  reached_more {later} {k} qs rest e a =
      record {
        done = c.done ++ qs;
        appended = subst (λ (l : List Placement). Appended old n later k l) (sym (map-append spread c.done qs)) (append_then c.appended a);
        makes = append_assoc c.done qs rest ∙ ap (λ (l : List Placement). c.done ++ l) (sym e) ∙ c.makes;
      }

  pub reached_all : left ≡ [] → Appended old n new m (map spread all)
  reached_all e = subst (λ (l : List Placement). Appended old n new m (map spread l)) (sym (append-nil c.done) ∙ ap (λ (l : List Placement). c.done ++ l) (sym e) ∙ c.makes) c.appended

  -- there is room for what is left
  pub reached_room : (size : ℕ) → 8 * (n + length all) ≤ size → (qs rest : List Placement) → left ≡ qs ++ rest → 8 * (m + length qs) ≤ size
  reached_room size h qs rest e =
      let a = ap length c.makes in
      let b = length-append c.done left in
      let d = ap length e in
      let f = length-append qs rest in
      let g = c.appended.count in
      let i = length-map c.done spread in
      omega arith

-- a turn that writes one row, and one that writes none
module _ {old new : List ℕ} {r : ℕ} {left all : List Placement} (j : ℕ) (c : Reached old r new (r + j) left all) (f : ℕ → List Placement) (now : List ℕ) (k : ℕ) where
  pub reached_one : (q row : Placement) (later : List ℕ) → left ≡ (q ∷ []) ++ f (j + 1) → row ≡ spread q → Appended new (r + j) later (r + j + 1) (row ∷ []) → now ≡ later → k ≡ j + 1
      → Reached old r now (r + k) (f k) all
  reached_one q row later e s a d i =
      let t : r + j + 1 ≡ r + (j + 1) = omega arith in
      let more = reached_more c (q ∷ []) (f (j + 1)) e (subst (λ (x : Placement). Appended new (r + j) later (r + j + 1) (x ∷ [])) s a) in
      let there = subst (λ (m : ℕ). Reached old r later m (f (j + 1)) all) t more in
      subst (λ (l : List ℕ). Reached old r l (r + k) (f k) all) (sym d) (subst (λ (m : ℕ). Reached old r later (r + m) (f m) all) (sym i) there)

  pub reached_same : left ≡ f j → now ≡ new → k ≡ j → Reached old r now (r + k) (f k) all
  reached_same e d i =
      let there = subst (λ (qs : List Placement). Reached old r new (r + j) qs all) e c in
      subst (λ (l : List ℕ). Reached old r l (r + k) (f k) all) (sym d) (subst (λ (m : ℕ). Reached old r new (r + m) (f m) all) (sym i) there)

-- ---- the cells of a variant as a mask
-- what f has for the numbers from k on, n of them, as a set
abbrev pub numbers_from : (ℕ → ℕ) → ℕ → ℕ → ℕ → Bool
numbers_from f k n m = member m (map f (from k n))

pub mask_start : (number : Cell → ℕ) (pose : Pose) → pose.size ≤ length pose.codes → (m : ℕ → Bool) → m ≡ nothing
    → either m (numbers_from (λ k. number (cell_of (get_or pose.codes k 0))) 0 (pose.size - 0)) ≡ (λ n. member n (map number (cells_in pose)))
unfolding either nothing
mask_start number pose room m e =
    let f : ℕ → Cell = λ k. cell_of (get_or pose.codes k 0) in
    fun_ext λ n.
    ap (λ (p : ℕ → Bool). p n || numbers_from (λ k. number (f k)) 0 (pose.size - 0) n) e
    ∙ ap (member n)
    (ap (map (λ k. number (f k))) (from_start pose.size) ∙ sym (map-map number f (below pose.size)) ∙ ap (map number) (sym (cells_numbered pose room)))

module _ (f : ℕ → ℕ) (m : ℕ → Bool) (k n : ℕ) where
  pub mask_next : (w : ℕ → Bool) → k < n → w ≡ either m (only (f k)) → either w (numbers_from f (k + 1) (n - (k + 1))) ≡ either m (numbers_from f k (n - k))
  unfolding either only
  mask_next w l d =
      fun_ext λ i.
      ap (λ (p : ℕ → Bool). p i || numbers_from f (k + 1) (n - (k + 1)) i) d
      ∙ or_assoc (m i) (eqb i (f k)) (numbers_from f (k + 1) (n - (k + 1)) i)
      ∙ ap (λ (ks : List ℕ). m i || member i (map f ks)) (sym (from_next k n l))

  pub mask_end : n ≤ k → either m (numbers_from f k (n - k)) ≡ m
  unfolding either
  mask_end l = fun_ext λ i. ap (λ (ks : List ℕ). m i || member i (map f ks)) (from-end k n l) ∙ or_no (m i)

-- where a filled cell lies that lands
module _ (s : Sides) (scans : List ℕ) (v o : Cell) where
  lands_parts : (u : Cell) → T (lands s scans v o u) → InBox s (lies v o u) × (get_or scans (place_of s (lies v o u)) 0 < 128)
  unfolding lands
  lands_parts u t =
      let w = lies v o u in
      let n = get_or scans (place_of s w) 0 in
      let a = and_right (ltb w.x s.a) (ltb w.y s.b && (ltb w.z s.c && ltb n 128)) t in
      let b = and_right (ltb w.y s.b) (ltb w.z s.c && ltb n 128) a in (
        (
          ltb→lt w.x s.a (and_left (ltb w.x s.a) (ltb w.y s.b && (ltb w.z s.c && ltb n 128)) t),
          ltb→lt w.y s.b (and_left (ltb w.y s.b) (ltb w.z s.c && ltb n 128) a),
          ltb→lt w.z s.c (and_left (ltb w.z s.c) (ltb n 128) b),
        ),
        ltb→lt n 128 (and_right (ltb w.z s.c) (ltb n 128) b),
      )

  -- of cell k of a variant, by the cell and the origin that the code has
  pub landing : (pose : Pose) → pose.size ≤ length pose.codes → T (all (lands s scans v o) (cells_in pose)) → (k : ℕ) → k < pose.size
      → {w p u : Cell} → w ≡ lies v p u → p ≡ o → u ≡ cell_of (get_or pose.codes k 0)
      → InBox s w × (get_or scans (place_of s w) 0 < 128) × (w ≡ lies v o (cell_of (get_or pose.codes k 0)))
  landing pose room ok k l {w} d f e =
      let cell : ℕ → Cell = λ n. cell_of (get_or pose.codes n 0) in
      let is : w ≡ lies v o (cell k) = d ∙ ap₂ (lies v) f e in
      let m : Memᴰ (cell k) (cells_in pose) = subst (λ (us : List Cell). Memᴰ (cell k) us) (sym (cells_numbered pose room)) (mathlib.Core.List.Memᴰ.map cell (below_of pose.size l)) in
      let r = lands_parts (cell k) (all_at (lands s scans v o) (cells_in pose) ok m) in
      (subst (InBox s) (sym is) r.0, subst (λ (x : Cell). get_or scans (place_of s x) 0 < 128) (sym is) r.1, is)

-- ---- the scan numbers of a board
module _ (order : List ℕ) (g : Grid) (scans : List ℕ) (n : Numbered order g scans) where
  pub numbered_order : IsOrder order
  numbered_order = record { box = g.sides; is_its = n.is_order }

  pub numbered_long : volume g.sides ≤ length scans
  numbered_long =
      let a = ap length n.each in
      let b = length-take (volume g.sides) scans in
      let d = length-map (box g.sides) (scan_number (scan order g)) in
      let e = ap length (box_places g.sides) in
      let f = length-map (below (volume g.sides)) (cell_at g.sides) in
      let i = length_below (volume g.sides) in
      omega arith

  number_at : (w : Cell) → InBox g.sides w → get_or scans (place_of g.sides w) 0 ≡ scan_number (scan order g) w
  number_at w b =
      let v = volume g.sides in
      let i = place_of g.sides w in
      let z : 0 + i ≡ i = omega arith in
      let f : Cell → ℕ = scan_number (scan order g) in
      sym (get_or-take v scans i 0 (place_lt g.sides w b))
      ∙ ap (λ (l : List ℕ). get_or l i 0) (n.each ∙ ap (map f) (box_places g.sides) ∙ map-map f (cell_at g.sides) (below v))
      ∙ get_or_of (λ k. f (cell_at g.sides k)) 0 0 v i (place_lt g.sides w b)
      ∙ ap (λ (k : ℕ). f (cell_at g.sides k)) z ∙ ap f (cell_at_place g.sides w b)

  -- cells that fit with the cell o at v
  module _ (v o : Cell) (us : List Cell) (t : T (fits_on g v o us)) where
    pub fit_reaches : T (reaches v o)
    unfolding fits_on
    fit_reaches = and_left (reaches v o) (all (λ u. any (same_cell (lies v o u)) (filled_cells g)) us) t

    fit_on : (u : Cell) → Memᴰ u us → Memᴰ (lies v o u) (filled_cells g)
    unfolding fits_on
    fit_on u m =
        let p : Cell → Bool = λ w. any (same_cell (lies v o w)) (filled_cells g) in
        let r = any_at (same_cell (lies v o u)) (filled_cells g) (all_at p us (and_right (reaches v o) (all p us) t) m) in
        mathlib.Core.List.Memᴰ.cast (same_cell→eq (lies v o u) r.0 r.2) r.1

    fit_number : (u : Cell) → Memᴰ u us → get_or scans (place_of g.sides (lies v o u)) 0 ≡ scan_number (scan order g) (lies v o u)
    fit_number u m = number_at (lies v o u) (filled_at g (lies v o u) (fit_on u m)).0

    pub fit_lands : T (all (lands g.sides scans v o) us)
    unfolding lands
    fit_lands =
        all_of (lands g.sides scans v o) us
        (λ u m.
        let w = lies v o u in
        let s = g.sides in
        let k = get_or scans (place_of s w) 0 in
        let b = (filled_at g w (fit_on u m)).0 in
        let l = number_below order (scan order g) (scan_ascending order g) (scan_has order numbered_order g w (fit_on u m)) in
        let e = fit_number u m in
        let few = n.few in
        and_both (ltb w.x s.a) (ltb w.y s.b && (ltb w.z s.c && ltb k 128)) (lt→ltb w.x s.a b.0)
        (and_both (ltb w.y s.b) (ltb w.z s.c && ltb k 128) (lt→ltb w.y s.b b.1)
        (and_both (ltb w.z s.c) (ltb k 128) (lt→ltb w.z s.c b.2) (lt→ltb k 128 (omega arith)))))

    -- the row that stands for a placement
    pub spread_is : (mask : Mask) (kind p j : ℕ) → o ≡ origin (sort (cell_ahead order) us)
        → has mask ≡ (λ k. member k (map (λ u. get_or scans (place_of g.sides (lies v o u)) 0) us))
        → ◌≡◌ {A = Placement} (record { kind = kind; p = p; j = j; cells = cells_of mask })
        (spread (record { kind = kind; p = p; j = j; cells = map (λ u. scan_number (scan order g) (lies v (origin (sort (cell_ahead order) us)) u)) (sort (cell_ahead order) us) }))
    unfolding spread cells_of
    spread_is mask kind p j e d = ap (λ (ks : List ℕ). record { kind = kind; p = p; j = j; cells = ks }) (keep_same (has mask) (λ k. member k (map to (sort (cell_ahead order) us))) (below 128) (λ k _. same k))
      where
        to : Cell → ℕ
        to u = scan_number (scan order g) (lies v (origin (sort (cell_ahead order) us)) u)

        by : Cell → ℕ
        by u = get_or scans (place_of g.sides (lies v o u)) 0

        agree : (u : Cell) → Memᴰ u us → by u ≡ to u
        agree u m = fit_number u m ∙ ap (λ (x : Cell). scan_number (scan order g) (lies v x u)) e

        same : (k : ℕ) → has mask k ≡ member k (map to (sort (cell_ahead order) us))
        same k =
            ap (λ (f : ℕ → Bool). f k) d
            ∙ tests_same (member k (map by us)) (member k (map to (sort (cell_ahead order) us)))
            (λ t.
            let r = mathlib.Core.List.Memᴰ.of_map by us (member_at k (map by us) t) in
            member_of (map to (sort (cell_ahead order) us)) (mathlib.Core.List.Memᴰ.cast (sym r.2 ∙ agree r.0 r.1) (mathlib.Core.List.Memᴰ.map to (sort_of (cell_ahead order) (cell_tied order numbered_order) us r.1))))
            (λ t.
            let r = mathlib.Core.List.Memᴰ.of_map to (sort (cell_ahead order) us) (member_at k (map to (sort (cell_ahead order) us)) t) in
            let m = sort_at (cell_ahead order) us r.1 in
            member_of (map by us) (mathlib.Core.List.Memᴰ.cast (sym r.2 ∙ sym (agree r.0 m)) (mathlib.Core.List.Memᴰ.map by m)))

-- ---- the rows at a cell
module _ (order : List ℕ) (g : Grid) (kind p : ℕ) (v : Cell) where
  -- the j-th placement there, and what is left from variant i on, of n
  abbrev pub placed : ℕ → List Cell → Placement
  placed j us = record { kind = kind; p = p; j = j; cells = map (λ u. scan_number (scan order g) (lies v (origin us) u)) us }

  module _ (poses : List Pose) where
    abbrev pub left_at : ℕ → ℕ → List Placement
    left_at j i = numbered_from j (keep (fits (scan order g) v) (map (variant_in order) (drop i poses))) placed

    module _ (j i : ℕ) (pose : Pose) where
      left_more : i < length poses → pose ≡ get_or poses i no_pose → (b : Bool) → fits (scan order g) v (variant_in order pose) ≡ b
          → left_at j i ≡ numbered_from j (cons_if b (variant_in order pose) (keep (fits (scan order g) v) (map (variant_in order) (drop (i + 1) poses)))) placed
      left_more l is b e = rw (drop-cons poses i no_pose l, ← is, e, add-one i)

      pub left_hit : i < length poses → pose ≡ get_or poses i no_pose → fits (scan order g) v (variant_in order pose) ≡ true
          → left_at j i ≡ (placed j (variant_in order pose) ∷ []) ++ left_at (j + 1) (i + 1)
      left_hit l is e = left_more l is true e ∙ rw (add-one j)

      pub left_miss : i < length poses → pose ≡ get_or poses i no_pose → fits (scan order g) v (variant_in order pose) ≡ false → left_at j i ≡ left_at j (i + 1)
      left_miss l is e = left_more l is false e

    pub left_end : (j i : ℕ) → length poses ≤ i → left_at j i ≡ []
    left_end j i l = rw (drop_of_length-le poses {i = i} l)

  pub left_start : (poses : Poses) → left_at (take poses.count poses.list) 0 0 ≡ placements_at (scan order g) kind (variants_in order poses) p v
  unfolding placements_at variants_in
  left_start poses = refl

-- ---- the rows of a kind
module _ (order : List ℕ) (g : Grid) (places : List ℕ) (n : ℕ) (on : OnBoard order g places n) where
  on_at : (p : ℕ) → p < n → drop p (scan order g) ≡ cell_at g.sides (get_or places p 0) ∷ drop (p + 1) (scan order g)
  on_at p l =
      let m = cells_many order g places n on in
      let a = length-take-le n places on.within in
      let zero-cell : Cell = cell_at g.sides 0 in
      drop-cons (scan order g) p zero-cell (omega arith)
      ∙ ap₂ (λ (u : Cell) (i : ℕ). u ∷ drop i (scan order g))
      (ap (λ (us : List Cell). get_or us p zero-cell) (sym on.cells) ∙ get_or-map (cell_at g.sides) (take n places) p 0 ∙ ap (cell_at g.sides) (get_or-take n places p 0 l))
      (sym (add-one p))

  -- what is left from the p-th cell on
  module _ (kind : ℕ) (vs : List (List Cell)) where
    abbrev pub left_by : ℕ → List Placement
    left_by p = joined (numbered_from p (drop p (scan order g)) (placements_at (scan order g) kind vs))

    pub left_cell : (p : ℕ) (v : Cell) → p < n → v ≡ cell_at g.sides (get_or places p 0) → left_by p ≡ placements_at (scan order g) kind vs p v ++ left_by (p + 1)
    left_cell p v l e =
        ap (λ (us : List Cell). joined (numbered_from p us (placements_at (scan order g) kind vs))) (on_at p l)
        ∙ ap₂ (λ (u : Cell) (i : ℕ). placements_at (scan order g) kind vs p u ++ joined (numbered_from i (drop (p + 1) (scan order g)) (placements_at (scan order g) kind vs))) (sym e) (sym (add-one p))

    pub left_cells_end : (p : ℕ) → n ≤ p → left_by p ≡ []
    left_cells_end p l =
        let m = cells_many order g places n on in
        ap (λ (us : List Cell). joined (numbered_from p us (placements_at (scan order g) kind vs))) (drop_of_length-le (scan order g) {i = p} (omega arith))
