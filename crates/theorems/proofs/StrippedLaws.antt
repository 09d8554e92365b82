-- The stripped form of a grid is the only one; what is tight stays; the stripped grid from
-- bounds that were found. Assumes nothing.
use Prim.Native.Nat.{ℕ, ◌+◌, ◌≤◌, ◌<◌}
use mathlib.Core.Bool.{Bool, true, false, cond, not}
use mathlib.Core.List.Memᴰ
use mathlib.Core.List.{List, [], ◌∷◌, map, Memᴰ}
use mathlib.Core.Path.{◌≡◌, refl, sym, ap, ap₂, ◌∙◌, subst}
use mathlib.Core.Logic.{◌⊎◌, inl, inr}
use native.Mathlib.Nat.{le_antisymm}
use native.Mathlib.Omega.{arith}
use lib.Dec.{T, eqb}
use lib.ListN.{length}
use Rattle.lists.specs.Lists.{is_empty}
use Rattle.lists.proofs.TestLaws.{eqb_of}
use Rattle.lists.proofs.ListLaws.{any_of}
use Rattle.definitions.specs.Grid.{set_down, Sides, Cell, Grid, volume, byte_at, grid_with, filled_cells}
use Rattle.definitions.specs.Maps.{side, coordinate}
use Rattle.theorems.proofs.MapLaws.{cell_path, box_of, filled_at}
use Rattle.theorems.proofs.GroupLaws.{bytes_whole}
use Rattle.theorems.proofs.GridLaws.{all_set_down_none}
use Rattle.theorems.proofs.CellLaws.{tight_of, same_filled, cell_by}
use Rattle.definitions.specs.Refusals.{are_bits, some_filled, is_tight}
use Rattle.definitions.specs.EmptyLayers.{OneForm, Stripped}
use Rattle.definitions.specs.Stripping.{least_of, along, corner, span, spanned, strip}
use Rattle.theorems.proofs.StrippingLaws.{least_in, least_le, largest_in, largest_ge, strip_is, some_or_none, stripped_of, strip_right}

-- ---- nothing else is such a grid
set_coordinate : (at u : Cell) (i : ℕ) → coordinate (set_down at u) i ≡ coordinate at i + coordinate u i
unfolding set_down coordinate
set_coordinate at u i = go (eqb i 0) (eqb i 1)
  where
    go : (b c : Bool) → cond b (at.x + u.x) (cond c (at.y + u.y) (at.z + u.z)) ≡ cond b at.x (cond c at.y at.z) + cond b u.x (cond c u.y u.z)
    go true c = refl
    go false true = refl
    go false false = refl

pub set_down_one : (at u v : Cell) → set_down at u ≡ set_down at v → u ≡ v
set_down_one at u v e = cell_by u v (λ i. let a = set_coordinate at u i in let b = set_coordinate at v i in let k = ap (λ (w : Cell). coordinate w i) e in omega arith)

pub strip_only : {g h h' : Grid} {u u' : Cell} → Stripped g h u → Stripped g h' u' → (h ≡ h') × (u ≡ u')
strip_only {g} {h} {h'} {u} {u'} r r' = (same_filled h h' (tight_of h r.tight) (tight_of h' r'.tight) r.bits r'.bits r.whole r'.whole (over r r' corners) (over r' r (sym corners)), corners)
  where
    moved : {k k' : Grid} {v v' : Cell} → Stripped g k v → Stripped g k' v' → (w : Cell) → Memᴰ w (filled_cells k) → (x : Cell) × Memᴰ x (filled_cells k') × (set_down v' x ≡ set_down v w)
    moved {k} {k'} {v} {v'} s s' w m = Memᴰ.of_map (set_down v') (filled_cells k') (subst (λ (l : List Cell). Memᴰ (set_down v w) l) (sym s.cells ∙ s'.cells) (Memᴰ.map (set_down v) m))

    least : {k k' : Grid} {v v' : Cell} → Stripped g k v → Stripped g k' v' → (i : ℕ) → coordinate v' i ≤ coordinate v i
    least {k} {k'} {v} {v'} s s' i =
        let l = (tight_of k s.tight).low i in
        let m = moved s s' l.0 l.1 in
        let a = set_coordinate v l.0 i in
        let b = set_coordinate v' m.0 i in
        let e = ap (λ (w : Cell). coordinate w i) m.2 in
        let z = l.2 in
        omega arith

    corners : u ≡ u'
    corners = cell_by u u' (λ i. le_antisymm (least r' r i) (least r r' i))

    over : {k k' : Grid} {v v' : Cell} → Stripped g k v → Stripped g k' v' → v ≡ v' → (w : Cell) → Memᴰ w (filled_cells k) → Memᴰ w (filled_cells k')
    over {k} {k'} {v} {v'} s s' e w m = let x = moved s s' w m in Memᴰ.cast (set_down_one v' w x.0 (ap (λ (c : Cell). set_down c w) (sym e) ∙ sym x.2)) x.1

-- ---- what follows
none_is : (g : Grid) → T (is_tight g) → filled_cells g ≡ [] → ⊥
none_is g t e = Memᴰ.not-nil (subst (λ (l : List Cell). Memᴰ ((tight_of g t).low 0).0 l) e ((tight_of g t).low 0).1)

-- a tight grid is as it was, with its corner at the corner of its box
tight_itself : (g : Grid) → T (are_bits g) → length g.cells ≡ volume g.sides → T (is_tight g) → Stripped g g (record { x = 0; y = 0; z = 0 })
tight_itself g bits whole tight = record { cells = sym (all_set_down_none (filled_cells g)); tight = tight; bits = bits; whole = whole }

pub strip_tight : (g : Grid) → T (are_bits g) → length g.cells ≡ volume g.sides → T (is_tight g) → (strip g ≡ g) × (corner g ≡ record { x = 0; y = 0; z = 0 })
strip_tight g bits whole tight = go (some_or_none g)
  where
    go : T (not (is_empty (filled_cells g))) ⊎ (filled_cells g ≡ []) → (strip g ≡ g) × (corner g ≡ record { x = 0; y = 0; z = 0 })
    go (inl some) = strip_only (stripped_of g bits some) (tight_itself g bits whole tight)
    go (inr e) = absurd (none_is g tight e)

-- grids with the same filled cells, one moved as a whole, have the same stripped form: "to us the shape is what is filled"
pub strip_moved : OneForm
unfolding OneForm set_down
strip_moved g h by bg bh some e =
    let r = stripped_of h bh other in
    strip_only (stripped_of g bg some) (record { cells = e ∙ ap (map (set_down by)) r.cells ∙ twice (filled_cells (strip h)); tight = r.tight; bits = r.bits; whole = r.whole })
  where
    other : T (not (is_empty (filled_cells h)))
    other = go (filled_cells h) (subst (λ (l : List Cell). T (not (is_empty l))) e some)
      where
        go : (xs : List Cell) → T (not (is_empty (map (set_down by) xs))) → T (not (is_empty xs))
        go [] t = t
        go (x ∷ xs) t = tt

    twice : (xs : List Cell) → map (set_down by) (map (set_down (corner h)) xs) ≡ map (set_down (set_down by (corner h))) xs
    twice [] = refl
    twice (u ∷ xs) = ap₂ (λ (v : Cell) (l : List Cell). v ∷ l) (cell_path (omega arith) (omega arith) (omega arith)) (twice xs)

-- ---- bounds that were found, as code finds them: a filled cell at both ends of each axis, and none outside
pub record Bounds (g : Grid) (at : Cell) (s : Sides) : Type 0 where
  pub low : (i : ℕ) → (u : Cell) × Memᴰ u (filled_cells g) × (coordinate u i ≡ coordinate at i)
  pub high : (i : ℕ) → (u : Cell) × Memᴰ u (filled_cells g) × (coordinate u i + 1 ≡ coordinate at i + side s i)
  pub from : (i : ℕ) (u : Cell) → Memᴰ u (filled_cells g) → coordinate at i ≤ coordinate u i
  pub to : (i : ℕ) (u : Cell) → Memᴰ u (filled_cells g) → coordinate u i < coordinate at i + side s i

module _ (us : List Cell) (f : Cell → ℕ) (lo n : ℕ) (low : (u : Cell) × Memᴰ u us × (f u ≡ lo)) (high : (u : Cell) × Memᴰ u us × (f u + 1 ≡ lo + n))
    (from : (u : Cell) → Memᴰ u us → lo ≤ f u) (to : (u : Cell) → Memᴰ u us → f u < lo + n) where
  some_in : T (not (is_empty (map f us)))
  some_in = go (map f us) (Memᴰ.map f low.1)
    where
      go : (xs : List ℕ) {x : ℕ} → Memᴰ x xs → T (not (is_empty xs))
      go [] m = absurd (Memᴰ.not-nil m)
      go (x ∷ xs) m = tt

  least_is : least_of (map f us) ≡ lo
  least_is =
      let a = least_le (map f us) (Memᴰ.map f low.1) in
      let e = low.2 in
      let r = Memᴰ.of_map f us (least_in (map f us) some_in) in
      let b = from r.0 r.1 in
      let k = r.2 in
      omega arith

  span_is : span (map f us) ≡ n
  unfolding span
  span_is =
      let a = largest_ge (map f us) (Memᴰ.map f high.1) in
      let e = high.2 in
      let r = Memᴰ.of_map f us (largest_in (map f us) some_in) in
      let b = to r.0 r.1 in
      let k = r.2 in
      let l = least_is in
      let z = from high.0 high.1 in
      omega arith

pub corner_by : {g : Grid} {at : Cell} {s : Sides} → Bounds g at s → corner g ≡ at
unfolding corner along coordinate side
corner_by {g} {at} {s} b =
    cell_path (least_is (filled_cells g) (λ u. u.x) at.x s.a (b.low 0) (b.high 0) (b.from 0) (b.to 0)) (least_is (filled_cells g) (λ u. u.y) at.y s.b (b.low 1) (b.high 1) (b.from 1) (b.to 1))
    (least_is (filled_cells g) (λ u. u.z) at.z s.c (b.low 2) (b.high 2) (b.from 2) (b.to 2))

pub spanned_by : {g : Grid} {at : Cell} {s : Sides} → Bounds g at s → spanned g ≡ s
unfolding spanned along coordinate side
spanned_by {g} {at} {s} b = λ i. record { a = x i; b = y i; c = z i }
  where
    x : span (map (λ u. u.x) (filled_cells g)) ≡ s.a
    x = span_is (filled_cells g) (λ u. u.x) at.x s.a (b.low 0) (b.high 0) (b.from 0) (b.to 0)

    y : span (map (λ u. u.y) (filled_cells g)) ≡ s.b
    y = span_is (filled_cells g) (λ u. u.y) at.y s.b (b.low 1) (b.high 1) (b.from 1) (b.to 1)

    z : span (map (λ u. u.z) (filled_cells g)) ≡ s.c
    z = span_is (filled_cells g) (λ u. u.z) at.z s.c (b.low 2) (b.high 2) (b.from 2) (b.to 2)

pub strip_by : {g : Grid} {at : Cell} {s : Sides} → Bounds g at s → strip g ≡ grid_with s (λ u. byte_at g (set_down at u))
strip_by {g} {at} {s} b = strip_is g some ∙ ap₂ (λ (r : Sides) (v : Cell). grid_with r (λ u. byte_at g (set_down v u))) (spanned_by b) (corner_by b)
  where
    some : T (not (is_empty (filled_cells g)))
    some = go (filled_cells g) (b.low 0).1
      where
        go : (xs : List Cell) {x : Cell} → Memᴰ x xs → T (not (is_empty xs))
        go [] m = absurd (Memᴰ.not-nil m)
        go (x ∷ xs) m = tt

-- ---- what the table tests passes after stripping where it passed before: a filled byte
filled_byte : (g : Grid) (u : Cell) → length g.cells ≡ volume g.sides → Memᴰ u (filled_cells g) → T (some_filled g)
unfolding some_filled
filled_byte g u whole m =
    let r = filled_at g u m in
    any_of (eqb 1) g.cells (subst (λ (l : List ℕ). Memᴰ (byte_at g u) l) (bytes_whole g whole) (Memᴰ.map (byte_at g) (box_of g.sides u r.0))) (eqb_of (sym r.1))

pub strip_filled : (g : Grid) → T (are_bits g) → length g.cells ≡ volume g.sides → T (some_filled g) → T (some_filled (strip g))
strip_filled g bits whole t = let r = strip_right g bits whole t in let k = (tight_of (strip g) r.tight).low 0 in filled_byte (strip g) k.0 r.whole k.1
