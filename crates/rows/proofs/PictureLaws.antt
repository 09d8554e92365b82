-- Images of cells under maps: a map's images written place by place are those of the board's cells, and the images of one more map stand behind those before.
-- Assumes nothing.
use Prim.Native.Nat.{ℕ, zero, suc, ◌+◌, ◌-◌, ◌*◌, ◌≤◌, ◌<◌}
use mathlib.Core.Bool.{Bool, true, false}
use mathlib.Core.List.{List, [], ◌∷◌, ◌++◌, map, map-append, append_assoc, append-nil, map-map}
use mathlib.Core.Path.{◌≡◌, refl, sym, ap, ap₂, ◌∙◌, subst}
use native.Mathlib.Numerals.{add-one}
use native.Mathlib.Omega.{arith}
use lib.Dec.{ltb, ltb→lt}
use lib.ListN.{length, get_or, take, drop, set, length-map, length-take, length-drop, get_or-append}
use lib.Seq.{paste, paste-suc, length-paste, drop-paste, length-take-le, length_paste_head, take_all, take_at, drop_at, drop-drop, get_or-take, get_or-drop, ext_get_or}
use Rattle.lists.specs.Lists.{cons_if, below, from}
use Rattle.lists.proofs.TestLaws.{holds}
use Rattle.lists.proofs.ListLaws.{all_at, map_same, get_or_map}
use Rattle.lists.proofs.RangeLaws.{map_entries, from_at, length_below, get_or_of}
use Rattle.definitions.specs.Grid.{Grid, Sides, Cell, InBox, volume, place_of, box, same_grid}
use Rattle.definitions.specs.Maps.{Map, map_of, map_sides, map_cell, map_grid}
use Rattle.definitions.specs.Scan.{scan, scan_number}
use Rattle.definitions.specs.Kept.{symmetries}
use Rattle.theorems.proofs.MapLaws.{mapped_sides}
use Rattle.theorems.proofs.GroupLaws.{same_grid→eq}
use Rattle.shape.specs.Coords.{ShortSides}
use Rattle.shape.specs.Places.{cell_at, image_place}
use Rattle.shape.proofs.PlaceLaws.{place_lt, cell_at_place, cell_in_box, image_in_box}
use Rattle.shape.proofs.GridLaws.{box_places}
use Rattle.placements.specs.Counting.{OnBoard}
use Rattle.rows.specs.Boards.{CanMove, Numbered, Pictured, board_images, place_images}
use Rattle.rows.specs.Systems.{images_in}

-- ---- a map's images, place by place
module _ (s : Sides) (m : Map) (places scans : List ℕ) (n : ℕ) (h : n ≤ length places) where
  pub images_length : length (place_images s m places scans n) ≡ n
  unfolding place_images
  images_length = length-map (take n places) (λ i. get_or scans (image_place m s i) 0) ∙ length-take-le n places h

  pub images_next : (d : List ℕ) (start i j : ℕ) → start + n ≤ length d → i < n → j ≡ image_place m s (get_or places i 0) → (l : List ℕ) → l ≡ paste d start (place_images s m places scans n) i
      → set l (start + i) (get_or scans j 0) ≡ paste d start (place_images s m places scans n) (i + 1)
  unfolding place_images
  images_next d start i j fits k e l is =
      let long = images_length in
      let same : get_or scans j 0 ≡ get_or (place_images s m places scans n) i 0
      = ap (λ (z : ℕ). get_or scans z 0) (e ∙ ap (image_place m s) (sym (get_or-take n places i 0 k)))
      ∙ sym (get_or_map 0 0 (λ z. get_or scans (image_place m s z) 0) (take n places) i (omega (arith, length-take-le n places h))) in
      ap₂ (λ (x : List ℕ) (v : ℕ). set x (start + i) v) is same ∙ paste-suc d start (place_images s m places scans n) i 0 (omega arith) (omega arith)
      ∙ ap (λ (z : ℕ). paste d start (place_images s m places scans n) z) (sym (add-one i))

-- ---- the images of a board's cells
module _ (order : List ℕ) (g : Grid) (places scans : List ℕ) (n : ℕ) (on : OnBoard order g places n) (num : Numbered order g scans) where
  -- the number at a place
  number_at : (w : Cell) → InBox g.sides w → get_or scans (place_of g.sides w) 0 ≡ scan_number (scan order g) w
  number_at w b =
      let s = g.sides in
      let l = place_lt s w b in
      let z : 0 + place_of s w ≡ place_of s w = omega arith in
      sym (get_or-take (volume s) scans (place_of s w) 0 l)
      ∙ ap (λ (xs : List ℕ). get_or xs (place_of s w) 0) (num.each ∙ ap (map (scan_number (scan order g))) (box_places s) ∙ map-map (scan_number (scan order g)) (cell_at s) (below (volume s)))
      ∙ get_or_of (λ i. scan_number (scan order g) (cell_at s i)) 0 0 (volume s) (place_of s w) l ∙ ap (scan_number (scan order g)) (ap (cell_at s) z ∙ cell_at_place s w b)

  module _ (k : ℕ) (keeps : same_grid (map_grid (map_of k) g) g ≡ true) where
    sides_kept : map_sides (map_of k) g.sides ≡ g.sides
    sides_kept = sym (mapped_sides (map_of k) g) ∙ ap (λ (x : Grid). x.sides) (same_grid→eq (map_grid (map_of k) g) g (holds _ keeps))

    image_number : (i : ℕ) → i < volume g.sides → get_or scans (image_place (map_of k) g.sides i) 0 ≡ scan_number (scan order g) (map_cell (map_of k) g.sides (cell_at g.sides i))
    unfolding image_place
    image_number i h =
        let s = g.sides in
        let w = map_cell (map_of k) s (cell_at s i) in
        ap (λ (x : Sides). get_or scans (place_of x w) 0) sides_kept ∙ number_at w (subst (λ (x : Sides). InBox x w) sides_kept (image_in_box k s (cell_at s i) (cell_in_box s i h)))

    pub board-images : place_images g.sides (map_of k) places scans n ≡ board_images order g (map_of k)
    unfolding place_images board_images
    board-images =
        let s = g.sides in
        let f : Cell → ℕ = λ u. scan_number (scan order g) (map_cell (map_of k) s u) in
        map_same (λ i. get_or scans (image_place (map_of k) s i) 0) (λ i. f (cell_at s i)) (take n places)
        (λ i m. image_number i (ltb→lt i (volume s) (all_at (λ (j : ℕ). ltb j (volume s)) (take n places) on.in_box m)))
        ∙ sym (map-map f (cell_at s) (take n places)) ∙ ap (map f) on.cells ∙ sym (map_entries f (record { x = 0; y = 0; z = 0 }) (scan order g))

-- each place of the board's box has a number, and its filled cells can be moved
pub can_move : (order : List ℕ) (g : Grid) (places scans : List ℕ) (n : ℕ) → OnBoard order g places n → Numbered order g scans → ShortSides g.sides
    → CanMove g.sides places scans n
can_move order g places scans n on num short =
    record {
      short = short;
      within = on.within;
      in_box = on.in_box;
      enough = (let v = volume g.sides in
          let a = ap length num.each ∙ length-map (box g.sides) (scan_number (scan order g)) ∙ ap length (box_places g.sides) ∙ length-map (below v) (cell_at g.sides) ∙ length_below v in
          omega (arith, length-take v scans));
    }

-- ---- the images of one more map
from-end : (i n : ℕ) → from i (n + 1) ≡ from i n ++ ((i + n) ∷ [])
from-end i n = ap (from i) (add-one n) ∙ go i n
  where
    go : (i n : ℕ) → from i (suc n) ≡ from i n ++ ((i + n) ∷ [])
    go i zero = let e : i ≡ i + 0 = omega arith in ap (λ (j : ℕ). j ∷ []) e
    go i (suc n) = let e : suc i + n ≡ i + suc n = omega arith in ap (λ (l : List ℕ). i ∷ l) (go (suc i) n ∙ ap (λ (j : ℕ). from (suc i) n ++ (j ∷ [])) e)

module _ (old f : List ℕ) (r size : ℕ) (long : length f ≡ size) (few : size ≤ 128) (fits : 128 * r + 128 ≤ length old) where
  abbrev new : List ℕ
  new = paste old (128 * r) f size

  before_at : (j : ℕ) → j < 128 * r → get_or new j 0 ≡ get_or old j 0
  before_at j h =
      let a = length_paste_head old (128 * r) f size (omega arith) (omega arith) in
      let b = length-take-le (128 * r) old (omega arith) in
      get_or-append (take (128 * r) old ++ take size f) (drop (128 * r + size) old) 0 j (omega arith)
      ∙ get_or-append (take (128 * r) old) (take size f) 0 j (omega arith) ∙ get_or-take (128 * r) old j 0 h

  part_length : (xs : List ℕ) → length xs ≡ length old → (m : ℕ) → m < r → length (take size (drop (128 * m) xs)) ≡ size
  part_length xs e m h = length-take-le size (drop (128 * m) xs) (simp length-drop (omega arith))

  kept_at : (m : ℕ) → m < r → take size (drop (128 * m) new) ≡ take size (drop (128 * m) old)
  kept_at m h =
      let e = part_length new (length-paste old (128 * r) f size (omega arith) (omega arith)) m h in
      let d = part_length old refl m h in
      ext_get_or 0 (take size (drop (128 * m) new)) (take size (drop (128 * m) old)) (e ∙ sym d)
      (λ i l. get_or-take size (drop (128 * m) new) i 0 (omega arith) ∙ get_or-drop (128 * m) new i 0 ∙ before_at (128 * m + i) (omega arith)
      ∙ sym (get_or-take size (drop (128 * m) old) i 0 (omega arith) ∙ get_or-drop (128 * m) old i 0))

  added_at : take size (drop (128 * r) new) ≡ f
  added_at =
      ap (λ (l : List ℕ). take size (drop (128 * r) l)) (append_assoc (take (128 * r) old) (take size f) (drop (128 * r + size) old))
      ∙ ap (take size) (drop_at (take (128 * r) old) (take size f ++ drop (128 * r + size) old) (128 * r) (length-take-le (128 * r) old (omega arith)))
      ∙ take_at (take size f) (drop (128 * r + size) old) size (length-take-le size f (omega arith)) ∙ take_all size f (omega arith)

  pub one_more : Pictured old r (paste old (128 * r) f size) (r + 1) size (f ∷ [])
  unfolding images_in
  one_more =
      record {
        count = refl;
        images = (let z : 0 + r ≡ r = omega arith in
            ap (map (λ (m : ℕ). take size (drop (128 * m) new))) (from-end 0 r) ∙ map-append (λ (m : ℕ). take size (drop (128 * m) new)) (from 0 r) ((0 + r) ∷ [])
            ∙ ap₂ (λ (a : List (List ℕ)) (b : List ℕ). a ++ (b ∷ []))
            (map_same (λ m. take size (drop (128 * m) new)) (λ m. take size (drop (128 * m) old)) (from 0 r) (λ m k. let x = from_at 0 r k in kept_at m (omega arith)))
            (ap (λ (m : ℕ). take size (drop (128 * m) new)) z ∙ added_at));
        behind = (let e : 128 * r + size + (128 - size) ≡ 128 * (r + 1) = omega arith in
            ap (λ (k : ℕ). drop k new) (sym e) ∙ sym (drop-drop (128 - size) (128 * r + size) new) ∙ ap (drop (128 - size)) (drop-paste old (128 * r) f size (omega arith) (omega arith))
            ∙ drop-drop (128 - size) (128 * r + size) old ∙ ap (λ (k : ℕ). drop k old) e);
      }

pub then_more : (old mid new : List ℕ) (r j k size : ℕ) (f : List ℕ) (fs : List (List ℕ)) → Pictured old r mid j size (f ∷ []) → Pictured mid j new k size fs → Pictured old r new k size (f ∷ fs)
then_more old mid new r j k size f fs p q =
    record {
      count = (let a = p.count in let b = q.count in omega arith);
      images = q.images ∙ ap (λ (l : List (List ℕ)). l ++ fs) p.images ∙ append_assoc (images_in old size 0 r) (f ∷ []) fs;
      behind = (let e : 128 * j + (128 * k - 128 * j) ≡ 128 * k = let b = q.count in omega arith in
          q.behind ∙ ap (λ (z : ℕ). drop z mid) (sym e) ∙ sym (drop-drop (128 * k - 128 * j) (128 * j) mid) ∙ ap (drop (128 * k - 128 * j)) p.behind
          ∙ drop-drop (128 * k - 128 * j) (128 * j) old ∙ ap (λ (z : ℕ). drop z old) e);
    }

pub none_more : (old : List ℕ) (r size : ℕ) → Pictured old r old r size []
none_more old r size = record { count = omega arith; images = sym (append-nil (images_in old size 0 r)); behind = refl }

-- ---- map by map
-- the images of a board's cells under those of n maps, from number m on, that bring it onto itself
abbrev pub pictures_from : List ℕ → Grid → ℕ → ℕ → List (List ℕ)
pictures_from order g m n = map (board_images order g) (symmetries g (map map_of (from m n)))

module _ (order : List ℕ) (g : Grid) (size : ℕ) (old : List ℕ) (n start end : ℕ) where
  -- where the maps from m on are done too, all are
  unfoldable pub DoneTo : List ℕ → ℕ → ℕ → Type 0
  DoneTo now r m = (new : List ℕ) (k : ℕ) → Pictured now r new k size (pictures_from order g m (end - m)) → Pictured old n new k size (pictures_from order g start (end - start))

  pub done_none : DoneTo old n start
  unfolding DoneTo
  done_none _ _ p = p

  pub done_all : (now : List ℕ) (r m : ℕ) → end ≤ m → DoneTo now r m → Pictured old n now r size (pictures_from order g start (end - start))
  unfolding DoneTo symmetries
  done_all now r m h d =
      let e : 0 ≡ end - m = omega arith in
      d now r (subst (λ (z : ℕ). Pictured now r now r size (pictures_from order g m z)) e (none_more now r size))

  module _ (now : List ℕ) (r m : ℕ) (h : m < end) (d : DoneTo now r m) where
    next_maps : (b : Bool) → same_grid (map_grid (map_of m) g) g ≡ b → map (board_images order g) (cons_if b (map_of m) (symmetries g (map map_of (from (m + 1) (end - (m + 1)))))) ≡ pictures_from order g m (end - m)
    unfolding symmetries
    next_maps b e = let z : end - m ≡ suc (end - (m + 1)) = omega arith in rw (z, add-one m, e)

    pub done_miss : same_grid (map_grid (map_of m) g) g ≡ false → (after : List ℕ) → after ≡ now → (t : ℕ) → t ≡ r → DoneTo after t (m + 1)
    unfolding DoneTo
    done_miss e after same t is =
        subst (λ (l : List ℕ). DoneTo l t (m + 1)) (sym same)
        (subst (λ (j : ℕ). DoneTo now j (m + 1)) (sym is) (λ new k p. d new k (subst (λ (fs : List (List ℕ)). Pictured now r new k size fs) (next_maps false e) p)))

    pub done_hit : same_grid (map_grid (map_of m) g) g ≡ true → (places scans : List ℕ) → OnBoard order g places size → Numbered order g scans → 128 * r + 128 ≤ length now
        → (after : List ℕ) → after ≡ paste now (128 * r) (place_images g.sides (map_of m) places scans size) size → (t : ℕ) → t ≡ r + 1 → DoneTo after t (m + 1)
    unfolding DoneTo
    done_hit e places scans on num fits after is t next =
        subst (λ (j : ℕ). DoneTo after j (m + 1)) (sym next) λ new k p.
        d new k (subst (λ (fs : List (List ℕ)). Pictured now r new k size fs) (ap (λ (f : List ℕ). f ∷ pictures_from order g (m + 1) (end - (m + 1))) same ∙ next_maps true e)
        (then_more now after new r (r + 1) k size f (pictures_from order g (m + 1) (end - (m + 1)))
        (subst (λ (l : List ℕ). Pictured now r l (r + 1) size (f ∷ [])) (sym is) (one_more now f r size (images_length g.sides (map_of m) places scans size on.within) on.few fits)) p))
      where
        f : List ℕ
        f = place_images g.sides (map_of m) places scans size

        same : f ≡ board_images order g (map_of m)
        same = board-images order g places scans size on num m e
