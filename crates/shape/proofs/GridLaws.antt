-- Grids: how numbers, sides and grids compare, and the cells of a box by their places. Assumes nothing.
use Prim.Native.Nat.{ℕ, ◌+◌, ◌<◌}
use mathlib.Core.Bool.{Bool, true, false, cond, not, ◌&&◌, ◌||◌}
use mathlib.Core.List.{List, [], ◌∷◌, map, Memᴰ, map-id, map-map}
use mathlib.Core.Path.{◌≡◌, refl, sym, ap, ap₂, ◌∙◌, subst}
use mathlib.Core.Logic.{◌≢◌, ◌⊎◌, inl, inr}
use native.Mathlib.Omega.{arith}
use borrow.Author.Tests.{lt-ltb, le-ltb, eq-eqb, ne_eqb}
use lib.Dec.{T, ltb, eqb}
use lib.ListN.{length}
use Rattle.std.proofs.lemmas.List.Recursion.{is_count_by}
use Rattle.std.specs.List.{list_all, count_by}
use Rattle.lists.specs.Lists.{all, how_many, less, same, below}
use Rattle.lists.proofs.TestLaws.{holds, decide}
use Rattle.lists.proofs.ListLaws.{map_same}
use Rattle.lists.proofs.RangeLaws.{length_below, get_or_number}
use Rattle.lists.proofs.NameLaws.{StrictOrder, ahead_other}
use Rattle.definitions.specs.Grid.{Sides, Cell, Grid, box, volume, place_of, byte_at, sides_then_cells, same_grid, grid_ahead}
use Rattle.definitions.specs.Maps.{map_of, map_sides, map_grid}
use Rattle.theorems.proofs.PartnerLaws.{grids_ordered}
use Rattle.theorems.proofs.MapLaws.{box_at, mapped_sides}
use Rattle.theorems.proofs.MoveLaws.{mapped_whole}
use Rattle.theorems.proofs.GroupLaws.{bytes_whole, identity_grid}
use Rattle.shape.specs.Coords.{as_sides}
use Rattle.shape.specs.Places.{cell_at}
use Rattle.shape.specs.Grids.{order_by, list_order, number_order, sides_order, grid_order}
use Rattle.shape.specs.declared.Coord.{Coord}
use Rattle.std.specs.declared.cmp.Ordering.{Ordering}
use Rattle.std.specs.declared.cmp.Ordering.TheVariants.{Less, Equal, Greater}
use Rattle.std.specs.Ordering.{nat_cmp, ordering_then, is_eq}
use Rattle.std.specs.Cmp.Lexicographic.{slice_cmp}
use Rattle.shape.proofs.MapTableLaws.{zero_identity}
use Rattle.shape.proofs.PlaceLaws.{cell_at_place, place_lt, map_volume}

-- ---- orders: those of std
then_assoc : (o p q : Ordering) → ordering_then (ordering_then o p) q ≡ ordering_then o (ordering_then p q)
then_assoc Less p q = refl
then_assoc Equal p q = refl
then_assoc Greater p q = refl

then_equal : (o : Ordering) → ordering_then o Equal ≡ o
then_equal Less = refl
then_equal Equal = refl
then_equal Greater = refl

pub then_decides : (o p : Ordering) → o ≢ Equal → ordering_then o p ≡ o
then_decides Less p n = refl
then_decides Equal p n = absurd (n refl)
then_decides Greater p n = refl

order_bits : (x y l e : Bool) → order_by (x || (y && l)) (y && e) ≡ ordering_then (order_by x y) (order_by l e)
order_bits true y l e = refl
order_bits false true l e = refl
order_bits false false l e = refl

order_cons : (a b : ℕ) (xs ys : List ℕ) → list_order (a ∷ xs) (b ∷ ys) ≡ ordering_then (number_order a b) (list_order xs ys)
unfolding number_order
order_cons a b xs ys = order_bits (ltb a b) (eqb a b) (less xs ys) (same xs ys)

pub number_cmp : (a b : ℕ) → nat_cmp a b ≡ number_order a b
unfolding number_order
number_cmp a b = go (ltb a b) (eqb a b)
  where
    go : (x y : Bool) → cond x Less (cond y Equal Greater) ≡ order_by x y
    go true y = refl
    go false true = refl
    go false false = refl

pub list_cmp : (xs ys : List ℕ) → slice_cmp nat_cmp xs ys ≡ list_order xs ys
list_cmp [] [] = refl
list_cmp [] (y ∷ ys) = refl
list_cmp (x ∷ xs) [] = refl
list_cmp (x ∷ xs) (y ∷ ys) = ap₂ ordering_then (number_cmp x y) (list_cmp xs ys) ∙ sym (order_cons x y xs ys)

-- numbers
pub number_less : {a b : ℕ} → a < b → number_order a b ≡ Less
unfolding number_order
number_less {a} {b} h = ap (λ (x : Bool). order_by x (eqb a b)) (lt-ltb a b h)

pub number_greater : {a b : ℕ} → b < a → number_order a b ≡ Greater
unfolding number_order
number_greater {a} {b} h = ap₂ order_by (le-ltb a b (omega arith)) (ne_eqb a b (λ e. omega arith))

pub number_equal : {a b : ℕ} → a ≡ b → number_order a b ≡ Equal
unfolding number_order
number_equal {a} {b} h = ap₂ order_by (le-ltb a b (omega arith)) (eq-eqb a b h)

-- sides, and grids: by sides, then cells
pub sides-order : (s t : Sides) → sides_order s t ≡ ordering_then (number_order s.a t.a) (ordering_then (number_order s.b t.b) (number_order s.c t.c))
unfolding sides_order
sides-order s t =
    order_cons s.a t.a (s.b ∷ s.c ∷ []) (t.b ∷ t.c ∷ [])
    ∙ ap (ordering_then (number_order s.a t.a))
    (order_cons s.b t.b (s.c ∷ []) (t.c ∷ []) ∙ ap (ordering_then (number_order s.b t.b)) (order_cons s.c t.c [] [] ∙ then_equal (number_order s.c t.c)))

-- as std's `cmp` derived on `Coord` answers
abbrev pub coord_order : Coord → Coord → Ordering
coord_order s t = ordering_then (nat_cmp s.0 t.0) (ordering_then (nat_cmp s.1 t.1) (nat_cmp s.2 t.2))

pub coord_cmp : (s t : Coord) → coord_order s t ≡ sides_order (as_sides s) (as_sides t)
coord_cmp s t = ap₂ ordering_then (number_cmp s.0 t.0) (ap₂ ordering_then (number_cmp s.1 t.1) (number_cmp s.2 t.2)) ∙ sym (sides-order (as_sides s) (as_sides t))

pub grid-order : (g h : Grid) → grid_order g h ≡ ordering_then (sides_order g.sides h.sides) (list_order g.cells h.cells)
unfolding grid_order same_grid grid_ahead sides_then_cells
grid-order g h =
    order_cons s.a t.a (s.b ∷ s.c ∷ g.cells) (t.b ∷ t.c ∷ h.cells)
    ∙ ap (ordering_then x) (order_cons s.b t.b (s.c ∷ g.cells) (t.c ∷ h.cells) ∙ ap (ordering_then y) (order_cons s.c t.c g.cells h.cells))
    ∙ sym (ap (λ (o : Ordering). ordering_then o r) (sides-order s t) ∙ then_assoc x (ordering_then y z) r ∙ ap (ordering_then x) (then_assoc y z r))
  where
    s : Sides
    s = g.sides

    t : Sides
    t = h.sides

    x : Ordering
    x = number_order s.a t.a

    y : Ordering
    y = number_order s.b t.b

    z : Ordering
    z = number_order s.c t.c

    r : Ordering
    r = list_order g.cells h.cells

sides_same : (s : Sides) → sides_order s s ≡ Equal
sides_same s =
    sides-order s s ∙ ap₂ ordering_then (number_equal {a = s.a} refl) (ap₂ ordering_then (number_equal {a = s.b} refl) (number_equal {a = s.c} refl))

-- grids with equal sides, by their cells
pub cells_order : (g h : Grid) → g.sides ≡ h.sides → grid_order g h ≡ list_order g.cells h.cells
cells_order g h e =
    grid-order g h
    ∙ ap (λ (o : Ordering). ordering_then o (list_order g.cells h.cells)) (ap (λ (t : Sides). sides_order g.sides t) (sym e) ∙ sides_same g.sides)

-- what an order tells of being the same
order_less : (x y : Bool) → order_by x y ≡ Less → x ≡ true
order_less true y e = refl
order_less false true e = let z : ◌≡◌ {A = ℕ} 0 1 = cc in absurd (omega arith)
order_less false false e = let z : ◌≡◌ {A = ℕ} 0 1 = cc in absurd (omega arith)

order_equal : (x y : Bool) → order_by x y ≡ Equal → y ≡ true
order_equal true y e = let z : ◌≡◌ {A = ℕ} 0 1 = cc in absurd (omega arith)
order_equal false true e = refl
order_equal false false e = let z : ◌≡◌ {A = ℕ} 0 1 = cc in absurd (omega arith)

order_greater : (x y : Bool) → order_by x y ≡ Greater → y ≡ false
order_greater true y e = let z : ◌≡◌ {A = ℕ} 0 1 = cc in absurd (omega arith)
order_greater false true e = let z : ◌≡◌ {A = ℕ} 0 1 = cc in absurd (omega arith)
order_greater false false e = refl

less_not_greater : (x y : Bool) → T x → order_by x y ≡ Greater → ⊥
less_not_greater true y t e = let z : ◌≡◌ {A = ℕ} 0 1 = cc in absurd (omega arith)
less_not_greater false y t e = absurd t

-- what it tells of two entries, for any order that is strict
module _ {A : Type 0} (ahead same : A → A → Bool) (o : StrictOrder A ahead same) (x y : A) where
  pub told_less : order_by (ahead x y) (same x y) ≡ Less → T (ahead x y)
  told_less e = holds (ahead x y) (order_less (ahead x y) (same x y) e)

  pub told_equal : order_by (ahead x y) (same x y) ≡ Equal → x ≡ y
  told_equal e = o.equal x y (holds (same x y) (order_equal (ahead x y) (same x y) e))

  pub told_greater : order_by (ahead x y) (same x y) ≡ Greater → T (ahead y x)
  told_greater e = go (decide (ahead y x)) (decide (ahead x y))
    where
      apart : x ≡ y → ⊥
      apart i = absurd (subst T (order_greater (ahead x y) (same x y) e) (o.alike x y i))

      go : T (ahead y x) ⊎ T (not (ahead y x)) → T (ahead x y) ⊎ T (not (ahead x y)) → T (ahead y x)
      go (inl t) s = t
      go (inr t) (inl s) = absurd (less_not_greater (ahead x y) (same x y) s e)
      go (inr t) (inr s) = absurd (apart (o.tied x y s t))

  pub other_less : order_by (ahead x y) (same x y) ≡ Less → same x y ≡ false
  other_less e = ahead_other ahead same o x y (told_less e)

  pub other_greater : order_by (ahead x y) (same x y) ≡ Greater → same x y ≡ false
  other_greater e = order_greater (ahead x y) (same x y) e

-- the order of mapped grids, by the mapped sides
pub turned_order : (m n : ℕ) (g h : Grid) (o : Ordering) → sides_order (map_sides (map_of m) g.sides) (map_sides (map_of n) h.sides) ≡ o
    → grid_order (map_grid (map_of m) g) (map_grid (map_of n) h) ≡ ordering_then o (list_order (map_grid (map_of m) g).cells (map_grid (map_of n) h).cells)
turned_order m n g h o e =
    grid-order (map_grid (map_of m) g) (map_grid (map_of n) h)
    ∙ ap (λ (o : Ordering). ordering_then o (list_order (map_grid (map_of m) g).cells (map_grid (map_of n) h).cells))
    (ap₂ sides_order (mapped_sides (map_of m) g) (mapped_sides (map_of n) h) ∙ e)

module _ (g h : Grid) where
  pub same_less : grid_order g h ≡ Less → same_grid g h ≡ false
  unfolding grid_order
  same_less e = other_less grid_ahead same_grid grids_ordered g h e

  pub same_equal : grid_order g h ≡ Equal → same_grid g h ≡ true
  unfolding grid_order
  same_equal e = order_equal (grid_ahead g h) (same_grid g h) e

  pub same_greater : grid_order g h ≡ Greater → same_grid g h ≡ false
  unfolding grid_order
  same_greater e = order_greater (grid_ahead g h) (same_grid g h) e

  pub is_same : is_eq (grid_order g h) ≡ same_grid g h
  is_same = go (grid_order g h) refl
    where
      go : (o : Ordering) → grid_order g h ≡ o → is_eq o ≡ same_grid g h
      go Less e = sym (same_less e)
      go Equal e = sym (same_equal e)
      go Greater e = sym (same_greater e)

-- map 0 moves nothing
pub map_zero : (g : Grid) → length g.cells ≡ volume g.sides → map_grid (map_of 0) g ≡ g
map_zero g e = ap (λ m. map_grid m g) zero_identity ∙ identity_grid g e

-- a mapped grid has as many cells
pub turned_length : (n : ℕ) (g : Grid) → length (map_grid (map_of n) g).cells ≡ volume g.sides
turned_length n g = mapped_whole (map_of n) g ∙ ap volume (mapped_sides (map_of n) g) ∙ map_volume n g.sides

pub same_volume : (m n : ℕ) (s t : Sides) → map_sides (map_of m) s ≡ map_sides (map_of n) t → volume s ≡ volume t
same_volume m n s t e = sym (map_volume m s) ∙ ap volume e ∙ map_volume n t

-- ---- tests and counts of entries are those of std
pub all_is : (p : ℕ → Bool) (xs : List ℕ) → all p xs ≡ list_all p xs
all_is p [] = refl
all_is p (x ∷ xs) = ap (λ (b : Bool). p x && b) (all_is p xs)

pub how_many_is : {A : Type 0} (p : A → Bool) (xs : List A) → how_many p xs ≡ count_by p xs
how_many_is p = is_count_by (how_many p) p refl (λ x xs. counted (p x) (how_many p xs))
  where
    counted : (b : Bool) (n : ℕ) → cond b 1 0 + n ≡ cond b (1 + n) n
    counted true n = refl
    counted false n = omega arith

-- ---- the cells of a box by their places
pub box_places : (s : Sides) → box s ≡ map (cell_at s) (below (volume s))
unfolding byte_at
box_places s =
    sym (map-id (box s)) ∙ map_same (λ u. u) (λ u. cell_at s (byte_at g u)) (box s) back ∙ sym (map-map (cell_at s) (byte_at g) (box s))
    ∙ ap (map (cell_at s)) (bytes_whole g (length_below (volume s)))
  where
    g : Grid
    g = record { sides = s; cells = below (volume s) }

    back : (u : Cell) → Memᴰ u (box s) → u ≡ cell_at s (byte_at g u)
    back u m =
        let b = box_at s u m in
        sym (cell_at_place s u b) ∙ ap (cell_at s) (sym (get_or_number 0 (volume s) (place_of s u) 0 (place_lt s u b) ∙ omega arith))
