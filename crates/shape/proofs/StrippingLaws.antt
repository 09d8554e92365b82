-- The box that a grid's filled cells span, as a loop over the places finds it; and a part of a grid's box, byte by byte. Assumes nothing.
use Prim.Native.Nat.{ℕ, ◌+◌, ◌-◌, ◌≤◌, ◌<◌, min, max}
use mathlib.Core.Bool.{Bool, true, false, cond, not}
use mathlib.Core.List.{List, [], ◌∷◌, Memᴰ}
use Rattle.std.proofs.Common.{Option, None, Some}
use mathlib.Core.Path.{◌≡◌, refl, sym, ap, ap₂, ◌∙◌}
use mathlib.Core.Logic.{◌⊎◌, inl, inr}
use native.Mathlib.Nat.{mul-le-mul}
use native.Mathlib.Numerals.{add-one}
use native.Mathlib.Omega.{arith}
use borrow.Author.Count.{below_none, below_more}
use lib.Dec.{T, leb, eqb, leb→le, nleb→lt}
use lib.ListN.{length, get_or, set, length-map}
use lib.Seq.{paste, paste-suc}
use Rattle.lists.specs.Lists.{is_empty}
use Rattle.lists.proofs.TestLaws.{decide}
use Rattle.lists.proofs.ListLaws.{map_same}
use Rattle.definitions.specs.Grid.{Sides, Cell, Grid, box, volume, place_of, byte_at, grid_with, set_down, filled_cells, InBox}
use Rattle.definitions.specs.Maps.{side, coordinate}
use Rattle.definitions.specs.Stripping.{corner, strip, FitsIn, frame_of}
use Rattle.theorems.proofs.MapLaws.{byte_with, cell_path, filled_at, filled_of}
use Rattle.theorems.proofs.GroupLaws.{bytes_whole, coordinate_below}
use Rattle.theorems.proofs.GridLaws.{length_box, set_down_none}
use Rattle.theorems.proofs.StrippingLaws.{strip_is, strip_empty, strip_fits, some_or_none, corner_none}
use Rattle.theorems.proofs.StrippedLaws.{Bounds, corner_by, strip_by}
use Rattle.shape.specs.Coords.{ShortSides, as_cell}
use Rattle.shape.specs.Places.{cell_at}
use Rattle.shape.specs.declared.stripping.Span.{Span}
use Rattle.shape.specs.Stripping.{both, sides_between, part_of}
use Rattle.shape.proofs.PlaceLaws.{place_lt, cell_at_place, cell_in_box, place_of_cell, side_short}

-- ---- a number for each axis
abbrev zeros : Cell
zeros = record { x = 0; y = 0; z = 0 }

both_at : (f : ℕ → ℕ → ℕ) (u v : Cell) (a : ℕ) → coordinate (both f u v) a ≡ f (coordinate u a) (coordinate v a)
unfolding coordinate
both_at f u v a = go (eqb a 0) (eqb a 1)
  where
    go : (b c : Bool)
        → cond b (f u.x v.x) (cond c (f u.y v.y) (f u.z v.z)) ≡ f (cond b u.x (cond c u.y u.z)) (cond b v.x (cond c v.y v.z))
    go true c = refl
    go false true = refl
    go false false = refl

sides_between_at : (low high : Cell) (a : ℕ) → side (sides_between low high) a ≡ coordinate high a - coordinate low a
unfolding coordinate side
sides_between_at low high a = both_at (λ m n. m - n) high low a

same_at : (n a : ℕ) → coordinate (record { x = n; y = n; z = n }) a ≡ n
unfolding coordinate
same_at n a = both_at (λ i j. n) zeros zeros a

-- ---- what a loop over the places has met below place i
-- a filled place at which f is n
pub record OneOf (f : ℕ → ℕ) (cells : List ℕ) (i n : ℕ) : Type 0 where
  pub at : ℕ
  pub below : at < i
  pub filled : get_or cells at 0 ≡ 1
  pub is : f at ≡ n

-- filled places at which f is lo, and one less than hi; or no bounds yet
abbrev pub Ends : (ℕ → ℕ) → List ℕ → ℕ → ℕ → ℕ → Type 0
Ends f cells i lo hi = OneOf f cells i lo × OneOf (λ k. f k + 1) cells i hi

abbrev pub NoneOrEnds : (ℕ → ℕ) → List ℕ → ℕ → ℕ → ℕ → Type 0
NoneOrEnds f cells i lo hi = ((lo ≡ 8) × (hi ≡ 0)) ⊎ Ends f cells i lo hi

-- along one axis: lo is the least coordinate f of a filled place, and hi is one past the largest; 8 and 0 where none is filled
pub record Met (f : ℕ → ℕ) (cells : List ℕ) (i lo hi : ℕ) : Type 0 where
  pub from : (k : ℕ) → k < i → get_or cells k 0 ≡ 1 → lo ≤ f k
  pub to : (k : ℕ) → k < i → get_or cells k 0 ≡ 1 → f k < hi
  pub ends : NoneOrEnds f cells i lo hi

module _ (f : ℕ → ℕ) (cells : List ℕ) where
  met_none : Met f cells 0 8 0
  met_none = record { from = below_none _; to = below_none _; ends = inl (refl, refl) }

  module _ (i : ℕ) {lo hi : ℕ} (m : Met f cells i lo hi) where
    later : {g : ℕ → ℕ} {n k : ℕ} → OneOf g cells i n → n ≡ k → OneOf g cells (i + 1) k
    later o e = record { at = o.at; below = omega (arith, o.below); filled = o.filled; is = o.is ∙ e }

    met_same : (get_or cells i 0 ≡ 1 → ⊥) → Met f cells (i + 1) lo hi
    met_same not-one =
        record { from = below_more _ i m.from (λ e. absurd (not-one e)); to = below_more _ i m.to (λ e. absurd (not-one e)); ends = go m.ends }
      where
        go : NoneOrEnds f cells i lo hi → NoneOrEnds f cells (i + 1) lo hi
        go (inl r) = inl r
        go (inr r) = inr (later r.0 refl, later r.1 refl)

    -- place i is filled, and its coordinate is at most 7
    met_more : get_or cells i 0 ≡ 1 → f i < 8 → Met f cells (i + 1) (min lo (f i)) (max hi (f i + 1))
    met_more one small = record {
      from = below_more _ i (λ k h e. omega (arith, m.from k h e)) (λ e. omega arith);
      to = below_more _ i (λ k h e. omega (arith, m.to k h e)) (λ e. omega arith);
      ends = inr (go m.ends);
    }
      where
        here : {g : ℕ → ℕ} {n : ℕ} → g i ≡ n → OneOf g cells (i + 1) n
        here e = record { at = i; below = omega arith; filled = one; is = e }

        low : OneOf f cells i lo → T (leb lo (f i)) ⊎ T (not (leb lo (f i))) → OneOf f cells (i + 1) (min lo (f i))
        low o (inl t) = let h = leb→le lo (f i) t in later o (omega arith)
        low o (inr t) = let h = nleb→lt lo (f i) t in here (omega arith)

        high : OneOf (λ k. f k + 1) cells i hi → T (leb hi (f i)) ⊎ T (not (leb hi (f i))) → OneOf (λ k. f k + 1) cells (i + 1) (max hi (f i + 1))
        high o (inl t) = let h = leb→le hi (f i) t in here (omega arith)
        high o (inr t) = let h = nleb→lt hi (f i) t in later o (omega arith)

        go : NoneOrEnds f cells i lo hi → Ends f cells (i + 1) (min lo (f i)) (max hi (f i + 1))
        go (inl r) = (here (omega (arith, r.0, r.1)), here (omega (arith, r.0, r.1)))
        go (inr r) = (low r.0 (decide (leb lo (f i))), high r.1 (decide (leb hi (f i))))

-- along each axis of a box
abbrev pub on_axis : Sides → ℕ → ℕ → ℕ
on_axis s a k = coordinate (cell_at s k) a

pub record AllMet (s : Sides) (cells : List ℕ) (i : ℕ) (low high : Cell) : Type 0 where
  pub within : i ≤ length cells
  pub on : (a : ℕ) → Met (on_axis s a) cells i (coordinate low a) (coordinate high a)

pub all_none : (s : Sides) (cells : List ℕ) → AllMet s cells 0 (record { x = 8; y = 8; z = 8 }) zeros
all_none s cells = record { within = omega arith; on = λ a. rw (same_at 8 a, same_at 0 a) (met_none (on_axis s a) cells) }

module _ {s : Sides} {cells : List ℕ} {i : ℕ} {low high : Cell} (m : AllMet s cells i low high) (h : i < length cells) where
  pub all_same : (get_or cells i 0 ≡ 1 → ⊥) → AllMet s cells (i + 1) low high
  all_same not-one = record { within = omega arith; on = λ a. met_same (on_axis s a) cells i (m.on a) not-one }

  pub all_more : get_or cells i 0 ≡ 1 → ShortSides s → length cells ≡ volume s → (u : Cell) → u ≡ cell_at s i → {low' high' : Cell} → low' ≡ both min low u
      → high' ≡ both (λ m n. max m (n + 1)) high u → AllMet s cells (i + 1) low' high'
  all_more one fit whole u e p q = record {
    within = omega arith;
    on = λ a.
        let c : coordinate u a ≡ on_axis s a i = ap (λ (v : Cell). coordinate v a) e in
        let b = coordinate_below s (cell_at s i) (cell_in_box s i (omega arith)) a in
        rw (p, q, both_at min low u a, both_at (λ m n. max m (n + 1)) high u a, c)
        (met_more (on_axis s a) cells i (m.on a) one (omega (arith, side_short s fit a)));
  }

-- the bounds that a span gives: 8 and 0 where there is none yet
abbrev pub low_of : Option Span → Cell
low_of None = record { x = 8; y = 8; z = 8 }
low_of (Some span) = as_cell span.low

abbrev pub high_of : Option Span → Cell
high_of None = zeros
high_of (Some span) = as_cell span.high

-- the first filled cell widens these to its own
pub first_low : {s : Sides} (u : Cell) → ShortSides s → InBox s u → u ≡ both min (low_of None) u
first_low u f b = cell_path (omega arith) (omega arith) (omega arith)

pub first_high : (u : Cell) → both (λ m n. n + 1) u u ≡ both (λ m n. max m (n + 1)) (high_of None) u
first_high u = cell_path (omega arith) (omega arith) (omega arith)

-- ---- at the end: the box that the filled cells span
module _ {s : Sides} {cells : List ℕ} {i : ℕ} {low high : Cell} (m : AllMet s cells i low high) (whole : length cells ≡ volume s)
    (end : length cells ≤ i) where
  abbrev g : Grid
  g = record { sides = s; cells = cells }

  -- a filled cell, by its place; and the other way round
  place-of : (u : Cell) → Memᴰ u (filled_cells g) → (k : ℕ) × (k < i) × (get_or cells k 0 ≡ 1) × (cell_at s k ≡ u)
  unfolding byte_at
  place-of u k = let r = filled_at g u k in (place_of s u, omega (arith, place_lt s u r.0), r.1, cell_at_place s u r.0)

  cell-of : {f : ℕ → ℕ} {n : ℕ} (o : OneOf f cells i n) → Memᴰ (cell_at s o.at) (filled_cells g)
  unfolding byte_at
  cell-of o =
      filled_of g (cell_at s o.at) (cell_in_box s o.at (omega (arith, m.within, o.below)))
      (ap (λ (k : ℕ). get_or cells k 0) (place_of_cell s o.at) ∙ o.filled)

  met_empty : high.x ≡ 0 → filled_cells g ≡ []
  unfolding coordinate
  met_empty e = go (filled_cells g) (λ u k. let p = place-of u k in omega (arith, (m.on 0).to p.0 p.1 p.2))
    where
      go : (us : List Cell) → ((u : Cell) → Memᴰ u us → ⊥) → us ≡ []
      go [] none = refl
      go (u ∷ us) none = absurd (none u (Memᴰ.head refl))

  met_bounds : (coordinate high 0 ≡ 0 → ⊥) → Bounds g low (sides_between low high)
  met_bounds some = record {
    low = λ a. let o = (ends a).0 in (cell_at s o.at, cell-of o, o.is);
    high = λ a. let o = (ends a).1 in
        (cell_at s o.at, cell-of o, omega (arith, o.is, (m.on a).from o.at o.below o.filled, sides_between_at low high a));
    from = from;
    to = λ a u k. let p = place-of u k in
        omega (arith, from a u k, ap (λ (v : Cell). coordinate v a) p.3, (m.on a).to p.0 p.1 p.2, sides_between_at low high a);
  }
    where
      first : NoneOrEnds (on_axis s 0) cells i (coordinate low 0) (coordinate high 0) → OneOf (on_axis s 0) cells i (coordinate low 0)
      first (inl r) = absurd (some r.1)
      first (inr r) = r.0

      ends : (a : ℕ) → Ends (on_axis s a) cells i (coordinate low a) (coordinate high a)
      ends a = go (m.on a).ends
        where
          go : NoneOrEnds (on_axis s a) cells i (coordinate low a) (coordinate high a) → Ends (on_axis s a) cells i (coordinate low a) (coordinate high a)
          go (inl r) = let o = first (m.on 0).ends in absurd (omega (arith, r.1, (m.on a).to o.at o.below o.filled))
          go (inr r) = r

      from : (a : ℕ) (u : Cell) → Memᴰ u (filled_cells g) → coordinate low a ≤ coordinate u a
      from a u k = let p = place-of u k in omega (arith, ap (λ (v : Cell). coordinate v a) p.3, (m.on a).from p.0 p.1 p.2)

  -- what is found: no filled cell, or the corner and the sides
  pub found_none : high.x ≡ 0 → (zeros ≡ corner g) × (s ≡ (strip g).sides)
  found_none e = let none = met_empty e in (sym (corner_none g none), sym (ap (λ (h : Grid). h.sides) (strip_empty g none)))

  pub found_some : (high.x ≡ 0 → ⊥) → {t : Sides} → t ≡ sides_between low high → (low ≡ corner g) × (t ≡ (strip g).sides)
  unfolding grid_with coordinate
  found_some some e = let b = met_bounds some in (sym (corner_by b), e ∙ sym (ap (λ (h : Grid). h.sides) (strip_by b)))

-- ---- a part of a grid's box, byte by byte
pub part_short : {s t : Sides} {at : Cell} → ShortSides s → FitsIn (record { lent = s; at = at }) t → ShortSides t
part_short f w = record { a = omega (arith, f.a, w.along_x); b = omega (arith, f.b, w.along_y); c = omega (arith, f.c, w.along_z) }

pub part_in_box : (s t : Sides) (at u : Cell) → FitsIn (record { lent = s; at = at }) t → InBox t u → InBox s (set_down at u)
unfolding set_down
part_in_box s t at u w b = (omega (arith, w.along_x, b.0), omega (arith, w.along_y, b.1), omega (arith, w.along_z, b.2))

module _ (g : Grid) (at : Cell) (t : Sides) where
  pub part_length : length (part_of g at t) ≡ volume t
  unfolding part_of
  part_length = length-map (box t) (λ u. byte_at g (set_down at u)) ∙ length_box t

  part_at : (j : ℕ) → j < volume t → get_or (part_of g at t) j 0 ≡ byte_at g (set_down at (cell_at t j))
  unfolding part_of byte_at grid_with
  part_at j h =
      ap (λ (k : ℕ). get_or (part_of g at t) k 0) (sym (place_of_cell t j)) ∙ byte_with t (λ u. byte_at g (set_down at u)) (cell_at t j) (cell_in_box t j h)

  -- one more byte
  pub part_next : (d l : List ℕ) (start j b : ℕ) → start + volume t ≤ length d → j < volume t → l ≡ paste d start (part_of g at t) j
      → b ≡ byte_at g (set_down at (cell_at t j)) → set l (start + j) b ≡ paste d start (part_of g at t) (j + 1)
  part_next d l start j b fits h is e =
      let long = part_length in
      ap₂ (λ (x : List ℕ) (v : ℕ). set x (start + j) v) is (e ∙ sym (part_at j h))
      ∙ paste-suc d start (part_of g at t) j 0 (omega arith) (omega arith) ∙ ap (paste d start (part_of g at t)) (sym (add-one j))

-- ---- the stripped grid is such a part
module _ (g : Grid) where
  strip_part : length g.cells ≡ volume g.sides → part_of g (corner g) (strip g).sides ≡ (strip g).cells
  unfolding part_of grid_with
  strip_part whole = go (some_or_none g)
    where
      go : T (not (is_empty (filled_cells g))) ⊎ (filled_cells g ≡ []) → part_of g (corner g) (strip g).sides ≡ (strip g).cells
      go (inl some) = rw (strip_is g some)
      go (inr none) =
          rw (strip_empty g none, corner_none g none)
          (map_same (λ u. byte_at g (set_down zeros u)) (byte_at g) (box g.sides) (λ u k. ap (byte_at g) (set_down_none u)) ∙ bytes_whole g whole)

  pub strip_volume : volume (strip g).sides ≤ volume g.sides
  unfolding volume frame_of
  strip_volume =
      let w = strip_fits g in
      mul-le-mul (mul-le-mul (omega (arith, w.along_x)) (omega (arith, w.along_y))) (omega (arith, w.along_z))

  -- the part that a window gives: it lies in the box and is no larger, and its bytes are the stripped grid's
  module _ {at : Cell} {t : Sides} (e : at ≡ corner g) (f : t ≡ (strip g).sides) where
    pub part_within : FitsIn (record { lent = g.sides; at = at }) t
    unfolding frame_of
    part_within = rw (e, f) (strip_fits g)

    pub part_volume : volume t ≤ volume g.sides
    part_volume = rw f strip_volume

    pub part_bytes : length g.cells ≡ volume g.sides → (old : List ℕ) (start : ℕ) {new : List ℕ}
        → new ≡ paste old start (part_of g at t) (volume t) → new ≡ paste old start (strip g).cells (length (strip g).cells)
    part_bytes whole old start is = is ∙ ap₂ (paste old start) same (sym (part_length g at t) ∙ ap length same)
      where
        same : part_of g at t ≡ (strip g).cells
        same = ap₂ (part_of g) e f ∙ strip_part whole
