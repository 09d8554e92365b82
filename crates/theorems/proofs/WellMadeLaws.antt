-- A compiled tray is well made, given that each variant of a kind has as many filled cells as the kind's shape, and some. Assumes nothing.
use Prim.Native.Nat.{ℕ, zero, suc, ◌+◌, ◌-◌, ◌≤◌, ◌<◌}
use mathlib.Core.Bool.{Bool, true, false, cond, ◌&&◌, ◌||◌}
use mathlib.Core.List.Memᴰ
use mathlib.Core.List.{List, [], ◌∷◌, map, Memᴰ}
use mathlib.Core.Path.{◌≡◌, refl, sym, ap, ◌∙◌, subst}
use mathlib.Core.Logic.{◌⊎◌, inl, inr}
use native.Mathlib.Omega.{arith}
use lib.Dec.{T, ltb, leb, eqb, eqb→eq, ltb→lt, lt→ltb, leb→le, eqb_refl}
use lib.ListN.{length, get_or, length-map}
use Rattle.lists.specs.Lists.{all, any, keep, before, ascending, joined, numbered, head_or, less, sum}
use Rattle.lists.proofs.TestLaws.{and_left, and_right, and_both, or_left, or_right, or_cases, eqb_of, is_true, is_false}
use Rattle.lists.proofs.ListLaws.{joined_at, all_at, any_at, keep_at}
use Rattle.lists.proofs.SortLaws.{less_irrefl, less_trans, sort_ascending, first_ahead, not_again, map_ascending}
use Rattle.lists.proofs.NthLaws.{nth_ahead, joined_ascending, numbered_ascending, numbered_at, get_or_nth, nth_get_or, nth_below, nth_mem, Nth}
use Rattle.definitions.specs.Grid.{Grid, Cell, same_cell, filled_cells}
use Rattle.definitions.specs.Maps.{coordinate}
use Rattle.definitions.specs.Scan.{axes, cell_ahead, scan, scan_number}
use Rattle.definitions.specs.Kinds.{Tray, Kind, kinds_of, variants}
use Rattle.definitions.specs.Placements.{origin, lies, reaches, fits, Placement, placements_at, placements_of, compile}
use Rattle.definitions.specs.Packing.{rank, ahead}
use Rattle.definitions.specs.Orders.{sizes}
use Rattle.theorems.proofs.SearchLaws.{WellMade}

-- ---- the order of placements
ahead_kind : (q r : Placement) → q.kind < r.kind → T (ahead q r)
unfolding ahead rank
ahead_kind q r h = or_left (ltb q.kind r.kind) (eqb q.kind r.kind && less (q.p ∷ q.j ∷ []) (r.p ∷ r.j ∷ [])) (lt→ltb q.kind r.kind h)

ahead_p : (q r : Placement) → q.kind ≡ r.kind → q.p < r.p → T (ahead q r)
unfolding ahead rank
ahead_p q r e h =
    or_right (ltb q.kind r.kind) (eqb q.kind r.kind && less (q.p ∷ q.j ∷ []) (r.p ∷ r.j ∷ []))
    (and_both (eqb q.kind r.kind) (less (q.p ∷ q.j ∷ []) (r.p ∷ r.j ∷ [])) (eqb_of e) (or_left (ltb q.p r.p) (eqb q.p r.p && less (q.j ∷ []) (r.j ∷ [])) (lt→ltb q.p r.p h)))

ahead_j : (q r : Placement) → q.kind ≡ r.kind → q.p ≡ r.p → q.j < r.j → T (ahead q r)
unfolding ahead rank
ahead_j q r e f h =
    or_right (ltb q.kind r.kind) (eqb q.kind r.kind && less (q.p ∷ q.j ∷ []) (r.p ∷ r.j ∷ []))
    (and_both (eqb q.kind r.kind) (less (q.p ∷ q.j ∷ []) (r.p ∷ r.j ∷ [])) (eqb_of e)
    (or_right (ltb q.p r.p) (eqb q.p r.p && less (q.j ∷ []) (r.j ∷ []))
    (and_both (eqb q.p r.p) (less (q.j ∷ []) (r.j ∷ [])) (eqb_of f) (or_left (ltb q.j r.j) (eqb q.j r.j && less [] []) (lt→ltb q.j r.j h)))))

-- ---- placements, taken apart
make : List Cell → ℕ → ℕ → Cell → ℕ → List Cell → Placement
make board k n v i us = record { kind = k; p = n; j = i; cells = map (λ u. scan_number board (lies v (origin us) u)) us }

module _ (board : List Cell) (k : ℕ) where
  at_ascending : (vs : List (List Cell)) (n : ℕ) (v : Cell) → T (ascending ahead (placements_at board k vs n v))
  unfolding placements_at make
  at_ascending vs n v = numbered_ascending (make board k n v) ahead (λ a b x y h. ahead_j (make board k n v a x) (make board k n v b y) refl refl h) 0 (keep (fits board v) vs)

  at_parts : (vs : List (List Cell)) (n : ℕ) (v : Cell) (q : Placement) → Memᴰ q (placements_at board k vs n v)
      → (i : ℕ) × (us : List Cell) × Memᴰ us vs × T (fits board v us) × (q ≡ make board k n v i us) × Nth (keep (fits board v) vs) i us
  unfolding placements_at make
  at_parts vs n v q m =
      let r = numbered_at (make board k n v) 0 (keep (fits board v) vs) m in
      let x = keep_at (fits board v) vs (nth_mem (keep (fits board v) vs) r.0 r.2) in
      let e : r.0 + 0 ≡ r.0 = omega arith in
      (r.0 + 0, r.1, x.0, x.1, r.3, subst (λ (i : ℕ). Nth (keep (fits board v) vs) i r.1) (sym e) r.2)

module _ (order : List ℕ) (board : List Cell) where
  -- how a placement was made
  pub record Made (ks : List Kind) (q : Placement) : Type 0 where
    pub kind : Kind
    pub is_kind : Nth ks q.kind kind
    pub on : Cell
    pub is_on : Nth board q.p on
    pub variant : List Cell
    pub is_variant : Memᴰ variant (map (scan order) (variants kind.shape))
    pub fitting : T (fits board on variant)
    pub is_j : Nth (keep (fits board on) (map (scan order) (variants kind.shape))) q.j variant
    pub cells_are : q.cells ≡ map (λ u. scan_number board (lies on (origin variant) u)) variant

  of_parts : (k : ℕ) (d : Kind) (q : Placement) → Memᴰ q (placements_of order board k d)
      → (n : ℕ) × (v : Cell) × Nth board n v × (i : ℕ) × (us : List Cell) × Memᴰ us (map (scan order) (variants d.shape)) × T (fits board v us) × (q ≡ make board k n v i us) × Nth (keep (fits board v) (map (scan order) (variants d.shape))) i us
  unfolding placements_of
  of_parts k d q m =
      let vs = map (scan order) (variants d.shape) in
      let r = joined_at (numbered board (placements_at board k vs)) m in
      let x = numbered_at (placements_at board k vs) 0 board r.1 in
      let y = at_parts board k vs (x.0 + 0) x.1 q (subst (λ (l : List Placement). Memᴰ q l) x.3 r.2) in
      let e : x.0 + 0 ≡ x.0 = omega arith in
      (x.0 + 0, x.1, subst (λ (n : ℕ). Nth board n x.1) (sym e) x.2, y.0, y.1, y.2, y.3, y.4, y.5)

  of_ascending : (k : ℕ) (d : Kind) → T (ascending ahead (placements_of order board k d))
  unfolding placements_of make
  of_ascending k d =
      let vs = map (scan order) (variants d.shape) in
      joined_ascending (placements_at board k vs) ahead (at_ascending board k vs)
      (λ n m x y h z w a b.
      let r = at_parts board k vs n x z a in
      let s = at_parts board k vs m y w b in
      ahead_p z w (ap (λ (q : Placement). q.kind) r.4 ∙ sym (ap (λ (q : Placement). q.kind) s.4))
      (subst (λ (i : ℕ). i < w.p) (sym (ap (λ (q : Placement). q.p) r.4)) (subst (λ (i : ℕ). n < i) (sym (ap (λ (q : Placement). q.p) s.4)) h))) 0 board

  of-kind : (k : ℕ) (d : Kind) (q : Placement) → Memᴰ q (placements_of order board k d) → q.kind ≡ k
  unfolding make
  of-kind k d q m = ap (λ (z : Placement). z.kind) (of_parts k d q m).7

  all_ascending : (ks : List Kind) → T (ascending ahead (joined (numbered ks (placements_of order board))))
  all_ascending ks =
      joined_ascending (placements_of order board) ahead of_ascending
      (λ n m x y h z w a b. ahead_kind z w (subst (λ (i : ℕ). i < w.kind) (sym (of-kind n x z a)) (subst (λ (i : ℕ). n < i) (sym (of-kind m y w b)) h))) 0 ks

  made : (ks : List Kind) (q : Placement) → Memᴰ q (joined (numbered ks (placements_of order board))) → Made ks q
  unfolding make
  made ks q m =
      let r = joined_at (numbered ks (placements_of order board)) m in
      let x = numbered_at (placements_of order board) 0 ks r.1 in
      let y = of_parts (x.0 + 0) x.1 q (subst (λ (l : List Placement). Memᴰ q l) x.3 r.2) in
      let e : x.0 + 0 ≡ x.0 = omega arith in
      let k : q.kind ≡ x.0 + 0 = ap (λ (z : Placement). z.kind) y.7 in
      let n : q.p ≡ y.0 = ap (λ (z : Placement). z.p) y.7 in
      record {
        kind = x.1;
        is_kind = subst (λ (i : ℕ). Nth ks i x.1) (sym (k ∙ e)) x.2;
        on = y.1;
        is_on = subst (λ (i : ℕ). Nth board i y.1) (sym n) y.2;
        variant = y.4;
        is_variant = y.5;
        fitting = y.6;
        is_j = subst (λ (i : ℕ). Nth (keep (fits board y.1) (map (scan order) (variants x.1.shape))) i y.4) (sym (ap (λ (z : Placement). z.j) y.7)) y.8;
        cells_are = ap (λ (z : Placement). z.cells) y.7;
      }

-- ---- cells in scan order
pub same_cell→eq : (u v : Cell) → T (same_cell u v) → u ≡ v
unfolding same_cell
same_cell→eq u v t = λ i. record { x = ex i; y = ey i; z = ez i }
  where
    t₁ : T (eqb u.x v.x && eqb u.y v.y)
    t₁ = and_left (eqb u.x v.x && eqb u.y v.y) (eqb u.z v.z) t

    ex : u.x ≡ v.x
    ex = eqb→eq u.x v.x (and_left (eqb u.x v.x) (eqb u.y v.y) t₁)

    ey : u.y ≡ v.y
    ey = eqb→eq u.y v.y (and_right (eqb u.x v.x) (eqb u.y v.y) t₁)

    ez : u.z ≡ v.z
    ez = eqb→eq u.z v.z (and_right (eqb u.x v.x && eqb u.y v.y) (eqb u.z v.z) t)

pub same_cell_refl : (u : Cell) → T (same_cell u u)
unfolding same_cell
same_cell_refl u =
    and_both (eqb u.x u.x && eqb u.y u.y) (eqb u.z u.z) (and_both (eqb u.x u.x) (eqb u.y u.y) (eqb_refl u.x) (eqb_refl u.y)) (eqb_refl u.z)

module _ (order : List ℕ) where
  pub cell_trans : (u v w : Cell) → T (cell_ahead order u v) → T (cell_ahead order v w) → T (cell_ahead order u w)
  unfolding cell_ahead
  cell_trans u v w s t = less_trans (map (coordinate u) order) (map (coordinate v) order) (map (coordinate w) order) s t

  pub cell_irrefl : (u : Cell) → T (cell_ahead order u u) → ⊥
  unfolding cell_ahead
  cell_irrefl u t = less_irrefl (map (coordinate u) order) t

  pub scan_ascending : (g : Grid) → T (ascending (cell_ahead order) (scan order g))
  unfolding scan
  scan_ascending g = sort_ascending (cell_ahead order) cell_trans (filled_cells g)

  module _ (cells : List Cell) (asc : T (ascending (cell_ahead order) cells)) where
    -- the n-th of them has the scan number n
    pub nth_number : (n : ℕ) (v : Cell) → Nth cells n v → scan_number cells v ≡ n
    unfolding scan_number
    nth_number n v h = go cells asc n h
      where
        go : (xs : List Cell) → T (ascending (cell_ahead order) xs) → (m : ℕ) → Nth xs m v → before (same_cell v) xs ≡ m
        go [] t m k = absurd k
        go (y ∷ ys) t zero k = ap {B = ℕ} (λ (b : Bool). cond b 0 (suc (before (same_cell v) ys))) (is_true (same_cell v y) (subst (λ (w : Cell). T (same_cell v w)) k (same_cell_refl v)))
        go (y ∷ ys) t (suc m) k =
            ap {B = ℕ} (λ (b : Bool). cond b 0 (suc (before (same_cell v) ys))) (is_false (same_cell v y) (λ s. not_again (cell_ahead order) cell_trans cell_irrefl y ys t (nth_mem ys m k) (same_cell→eq v y s)))
            ∙ ap suc (go ys (and_right (all (cell_ahead order y) ys) (ascending (cell_ahead order) ys) t) m k)

    pub mem_nth : {v : Cell} → Memᴰ v cells → (n : ℕ) × Nth cells n v
    mem_nth {v} m = go cells m
      where
        go : (xs : List Cell) → Memᴰ v xs → (n : ℕ) × Nth xs n v
        go [] k = absurd (Memᴰ.not-nil k)
        go (y ∷ ys) k = at (Memᴰ.cases_cons k) (λ (l : Memᴰ v ys). go ys l)
          where
            at : (v ≡ y) ⊎ Memᴰ v ys → (Memᴰ v ys → (n : ℕ) × Nth ys n v) → (n : ℕ) × Nth (y ∷ ys) n v
            at (inl e) f = (zero, e)
            at (inr l) f = let r = f l in (suc r.0, r.1)

    pub number_below : {v : Cell} → Memᴰ v cells → scan_number cells v < length cells
    number_below {v} m = let r = mem_nth m in let e = nth_number r.0 v r.1 in let b = nth_below cells r.0 v r.1 in omega arith

    -- numbers go by scan order
    number_ahead : {u v : Cell} → Memᴰ u cells → Memᴰ v cells → T (cell_ahead order u v) → scan_number cells u < scan_number cells v
    number_ahead {u} {v} a b t =
        let r = mem_nth a in
        let s = mem_nth b in
        let h = nth_ahead (cell_ahead order) cell_trans cell_irrefl cells asc r.0 s.0 u v r.1 s.1 t in
        let e = nth_number r.0 u r.1 in
        let f = nth_number s.0 v s.1 in
        omega arith

-- a shift keeps scan order
pub lies_coordinate : (v o u : Cell) (i : ℕ) → coordinate (lies v o u) i ≡ coordinate v i - coordinate o i + coordinate u i
unfolding coordinate lies
lies_coordinate v o u i = go (eqb i 0) (eqb i 1)
  where
    go : (a b : Bool)
        → cond a (v.x - o.x + u.x) (cond b (v.y - o.y + u.y) (v.z - o.z + u.z))
        ≡ cond a v.x (cond b v.y v.z) - cond a o.x (cond b o.y o.z) + cond a u.x (cond b u.y u.z)
    go true b = refl
    go false true = refl
    go false false = refl

lies_ahead : (order : List ℕ) (v o u w : Cell) → T (cell_ahead order u w) → T (cell_ahead order (lies v o u) (lies v o w))
unfolding cell_ahead
lies_ahead [] v o u w t = t
lies_ahead (i ∷ is) v o u w t = go (or_cases (ltb (coordinate u i) (coordinate w i)) (eqb (coordinate u i) (coordinate w i) && less (map (coordinate u) is) (map (coordinate w) is)) t) (λ (k : T (less (map (coordinate u) is) (map (coordinate w) is))). lies_ahead is v o u w k)
  where
    A : ℕ
    A = coordinate (lies v o u) i

    B : ℕ
    B = coordinate (lies v o w) i

    go : T (ltb (coordinate u i) (coordinate w i)) ⊎ T (eqb (coordinate u i) (coordinate w i) && less (map (coordinate u) is) (map (coordinate w) is))
        → (T (less (map (coordinate u) is) (map (coordinate w) is)) → T (less (map (coordinate (lies v o u)) is) (map (coordinate (lies v o w)) is)))
        → T (ltb A B || (eqb A B && less (map (coordinate (lies v o u)) is) (map (coordinate (lies v o w)) is)))
    go (inl s) f =
        let h = ltb→lt (coordinate u i) (coordinate w i) s in
        let a = lies_coordinate v o u i in
        let b = lies_coordinate v o w i in
        or_left (ltb A B) (eqb A B && less (map (coordinate (lies v o u)) is) (map (coordinate (lies v o w)) is)) (lt→ltb A B (omega arith))
    go (inr s) f =
        let h = eqb→eq (coordinate u i) (coordinate w i) (and_left (eqb (coordinate u i) (coordinate w i)) (less (map (coordinate u) is) (map (coordinate w) is)) s) in
        let a = lies_coordinate v o u i in
        let b = lies_coordinate v o w i in
        let e : coordinate (lies v o u) i ≡ coordinate (lies v o w) i = omega arith in
        or_right (ltb A B) (eqb A B && less (map (coordinate (lies v o u)) is) (map (coordinate (lies v o w)) is))
        (and_both (eqb A B) (less (map (coordinate (lies v o u)) is) (map (coordinate (lies v o w)) is)) (eqb_of e) (f (and_right (eqb (coordinate u i) (coordinate w i)) (less (map (coordinate u) is) (map (coordinate w) is)) s)))

-- ---- a placement's cells
module _ (order : List ℕ) (board : List Cell) (asc : T (ascending (cell_ahead order) board)) (ks : List Kind) (q : Placement) (m : Made order board ks q)
    (some : 0 < length m.variant) (up : T (ascending (cell_ahead order) m.variant)) where
  abbrev pub us : List Cell
  us = m.variant

  abbrev pub o : Cell
  o = origin us

  abbrev to : Cell → ℕ
  to u = scan_number board (lies m.on o u)

  pub lies_on : (u : Cell) → Memᴰ u us → Memᴰ (lies m.on o u) board
  unfolding fits
  lies_on u k =
      let r = any_at (same_cell (lies m.on o u)) board (all_at (λ (w : Cell). any (same_cell (lies m.on o w)) board) us (and_right (reaches m.on o) (all (λ w. any (same_cell (lies m.on o w)) board) us) m.fitting) k) in
      Memᴰ.cast (same_cell→eq (lies m.on o u) r.0 r.2) r.1

  origin-in : Memᴰ o us
  unfolding origin
  origin-in = go us some
    where
      go : (xs : List Cell) → 0 < length xs → Memᴰ (head_or (record { x = 0; y = 0; z = 0 }) xs) xs
      go [] h = absurd (omega arith)
      go (y ∷ ys) h = Memᴰ.head refl

  origin_lies : lies m.on o o ≡ m.on
  unfolding fits reaches lies
  origin_lies = λ i. record { x = ex i; y = ey i; z = ez i }
    where
      t : T (leb o.x m.on.x && leb o.y m.on.y && leb o.z m.on.z)
      t = and_left (reaches m.on o) (all (λ w. any (same_cell (lies m.on o w)) board) us) m.fitting

      t₁ : T (leb o.x m.on.x && leb o.y m.on.y)
      t₁ = and_left (leb o.x m.on.x && leb o.y m.on.y) (leb o.z m.on.z) t

      ex : m.on.x - o.x + o.x ≡ m.on.x
      ex = let h = leb→le o.x m.on.x (and_left (leb o.x m.on.x) (leb o.y m.on.y) t₁) in omega arith

      ey : m.on.y - o.y + o.y ≡ m.on.y
      ey = let h = leb→le o.y m.on.y (and_right (leb o.x m.on.x) (leb o.y m.on.y) t₁) in omega arith

      ez : m.on.z - o.z + o.z ≡ m.on.z
      ez = let h = leb→le o.z m.on.z (and_right (leb o.x m.on.x && leb o.y m.on.y) (leb o.z m.on.z) t) in omega arith

  to_origin : to o ≡ q.p
  to_origin = ap (λ (u : Cell). scan_number board u) origin_lies ∙ nth_number order board asc q.p m.on m.is_on

  cell-at : (n : ℕ) → Memᴰ n q.cells → (u : Cell) × Memᴰ u us × (to u ≡ n)
  cell-at n k = Memᴰ.of_map to us (subst (λ (l : List ℕ). Memᴰ n l) m.cells_are k)

  made_on : (n : ℕ) → Memᴰ n q.cells → n < length board
  made_on n k = let r = cell-at n k in subst (λ (i : ℕ). i < length board) r.2 (number_below order board asc (lies_on r.0 r.1))

  made_covers : Memᴰ q.p q.cells
  made_covers = subst (λ (l : List ℕ). Memᴰ q.p l) (sym m.cells_are) (Memᴰ.cast (sym to_origin) (Memᴰ.map to origin-in))

  to_ahead : (u w : Cell) → Memᴰ u us → Memᴰ w us → T (cell_ahead order u w) → to u < to w
  to_ahead u w a b t = number_ahead order board asc (lies_on u a) (lies_on w b) (lies_ahead order m.on o u w t)

  made_ascends : T (ascending ltb q.cells)
  made_ascends = subst (λ (l : List ℕ). T (ascending ltb l)) (sym m.cells_are) (map_ascending (cell_ahead order) ltb to us up (λ x y a b s. lt→ltb (to x) (to y) (to_ahead x y a b s)))

  -- the origin comes first
  origin-first : (u : Cell) → Memᴰ u us → (u ≡ o) ⊎ T (cell_ahead order o u)
  unfolding origin
  origin-first u k = go us up k
    where
      go : (xs : List Cell) → T (ascending (cell_ahead order) xs) → Memᴰ u xs → (u ≡ head_or (record { x = 0; y = 0; z = 0 }) xs) ⊎ T (cell_ahead order (head_or (record { x = 0; y = 0; z = 0 }) xs) u)
      go [] t l = absurd (Memᴰ.not-nil l)
      go (y ∷ ys) t l = at (Memᴰ.cases_cons l)
        where
          at : (u ≡ y) ⊎ Memᴰ u ys → (u ≡ y) ⊎ T (cell_ahead order y u)
          at (inl e) = inl e
          at (inr l) = inr (first_ahead (cell_ahead order) (cell_trans order) (cell_irrefl order) y ys t l)

  made_from : (n : ℕ) → Memᴰ n q.cells → q.p ≤ n
  made_from n k = go (origin-first r.0 r.1)
    where
      r : (u : Cell) × Memᴰ u us × (to u ≡ n)
      r = cell-at n k

      go : (r.0 ≡ o) ⊎ T (cell_ahead order o r.0) → q.p ≤ n
      go (inl e) = let a = ap to e in omega (arith, to_origin, r.2)
      go (inr t) = omega (arith, to_origin, r.2, to_ahead o r.0 origin-in r.1 t)

-- ---- well made
pub record ShapeFacts (t : Tray) : Type 0 where
  pub sized : (d : Kind) → Memᴰ d (kinds_of t) → (v : Grid) → Memᴰ v (variants d.shape) → length (scan (axes t.board.sides) v) ≡ sum d.shape.cells
  pub some : (d : Kind) → Memᴰ d (kinds_of t) → 0 < sum d.shape.cells

module _ (t : Tray) (facts : ShapeFacts t) where
  abbrev pub ord : List ℕ
  ord = axes t.board.sides

  abbrev pub cs : List Cell
  cs = scan ord t.board

  pub up_board : T (ascending (cell_ahead ord) cs)
  up_board = scan_ascending ord t.board

  pub from_made : (q : Placement) → Memᴰ q (compile t).placements → Made ord cs (kinds_of t) q
  unfolding compile
  from_made q m = made ord cs (kinds_of t) q m

  module _ (q : Placement) (m : Made ord cs (kinds_of t) q) where
    pub the_variant : (v : Grid) × Memᴰ v (variants m.kind.shape) × (scan ord v ≡ m.variant)
    the_variant = Memᴰ.of_map (scan ord) (variants m.kind.shape) m.is_variant

    pub kind_in : Memᴰ m.kind (kinds_of t)
    kind_in = nth_mem (kinds_of t) q.kind m.is_kind

    size : length m.variant ≡ sum m.kind.shape.cells
    size = ap length (sym the_variant.2) ∙ facts.sized m.kind kind_in the_variant.0 the_variant.1

    pub some-cells : 0 < length m.variant
    some-cells = let a = facts.some m.kind kind_in in omega (arith, size)

    pub up_variant : T (ascending (cell_ahead ord) m.variant)
    up_variant = subst (λ (l : List Cell). T (ascending (cell_ahead ord) l)) the_variant.2 (scan_ascending ord the_variant.0)

    size_q : length q.cells ≡ get_or (map (λ d. sum d.shape.cells) (kinds_of t)) q.kind 0
    size_q =
        ap length m.cells_are ∙ length-map m.variant (λ u. scan_number cs (lies m.on (origin m.variant) u)) ∙ size
        ∙ sym (nth_get_or (λ (d : Kind). sum d.shape.cells) 0 (kinds_of t) q.kind m.is_kind)

  pub well_made : WellMade (compile t)
  unfolding compile sizes
  well_made =
      record {
        in_order = all_ascending ord cs (kinds_of t);
        on_board = λ q k. let m = from_made q k in made_on ord cs up_board (kinds_of t) q m (some-cells q m) (up_variant q m);
        covers_p = λ q k. let m = from_made q k in made_covers ord cs up_board (kinds_of t) q m (some-cells q m) (up_variant q m);
        of_kinds = λ q k. let m = from_made q k in nth_below (kinds_of t) q.kind m.kind m.is_kind;
        from_p = λ q k. let m = from_made q k in made_from ord cs up_board (kinds_of t) q m (some-cells q m) (up_variant q m);
        cells_ascend = λ q k. let m = from_made q k in made_ascends ord cs up_board (kinds_of t) q m (some-cells q m) (up_variant q m);
        sized = λ q k. size_q q (from_made q k);
        some_cells = λ k h.
            let r = get_or_nth (kinds_of t) k h in
            subst (λ (n : ℕ). 0 < n) (sym (nth_get_or (λ (d : Kind). sum d.shape.cells) 0 (kinds_of t) k r.1)) (facts.some r.0 (nth_mem (kinds_of t) k r.1));
      }
