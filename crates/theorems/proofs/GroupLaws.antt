-- The 48 maps are a group: products, tested over the whole table, and what they do to cells and grids. Assumes nothing.
use Prim.Native.Nat.{ℕ, zero, suc, ◌+◌, ◌*◌, ◌%◌, ◌≤◌, ◌<◌}
use mathlib.Core.Bool.{Bool, true, false, cond, ◌&&◌}
use mathlib.Core.List.Memᴰ
use mathlib.Core.List.{List, [], ◌∷◌, map, Memᴰ, head-eq_of_cons-eq, tail-eq_of_cons-eq, map-map}
use mathlib.Core.Path.{◌≡◌, refl, sym, ap, ap₂, ◌∙◌, subst}
use native.Mathlib.Nat.{zero-mul, mul_assoc}
use native.Mathlib.Omega.{arith}
use lib.Dec.{T, leb, eqb, leb→le}
use lib.ListN.{length, get_or}
use Rattle.lists.specs.Lists.{all, any, each, how_many, below, from, same}
use Rattle.lists.proofs.TestLaws.{and_left, and_right, eqb_flip}
use Rattle.lists.proofs.ListLaws.{map_same, all_at, any_at, map_each, each_same, how_many_map, how_many_same}
use Rattle.lists.proofs.CountLaws.{how_many_length}
use Rattle.lists.proofs.SortLaws.{same→eq, same_refl}
use Rattle.lists.proofs.RangeLaws.{each_shift, from_shift, from_blocks, by_number}
use Rattle.definitions.specs.Grid.{Sides, Cell, Grid, box, volume, byte_at, grid_with, filled_cells, sides_then_cells, same_grid, InBox}
use Rattle.definitions.specs.Maps.{Map, side, coordinate, from_end, map_sides, map_cell, axis_of, flip_of, inverse, map_grid, permutations, transform, parity, turns, mirrorings, identity, product, axis_at, flip_at}
use Rattle.theorems.proofs.MapLaws.{box_at, Fits, mapped_byte, mapped_sides}

unfoldable pub code_of : Map → List ℕ
code_of m = m.axis_x ∷ m.axis_y ∷ m.axis_z ∷ m.flip_x ∷ m.flip_y ∷ m.flip_z ∷ []

unfoldable pub same_map : Map → Map → Bool
same_map m n = same (code_of m) (code_of n)

pub same_map→eq : (m n : Map) → T (same_map m n) → m ≡ n
unfolding same_map code_of
same_map→eq m n t = λ i. record { axis_x = a i; axis_y = b i; axis_z = c i; flip_x = d i; flip_y = e i; flip_z = k i }
  where
    x : ◌≡◌ {A = List ℕ} (m.axis_x ∷ m.axis_y ∷ m.axis_z ∷ m.flip_x ∷ m.flip_y ∷ m.flip_z ∷ []) (n.axis_x ∷ n.axis_y ∷ n.axis_z ∷ n.flip_x ∷ n.flip_y ∷ n.flip_z ∷ [])
    x = same→eq (code_of m) (code_of n) t

    a : m.axis_x ≡ n.axis_x
    a = head-eq_of_cons-eq x

    b : m.axis_y ≡ n.axis_y
    b = head-eq_of_cons-eq (tail-eq_of_cons-eq x)

    c : m.axis_z ≡ n.axis_z
    c = head-eq_of_cons-eq (tail-eq_of_cons-eq (tail-eq_of_cons-eq x))

    d : m.flip_x ≡ n.flip_x
    d = head-eq_of_cons-eq (tail-eq_of_cons-eq (tail-eq_of_cons-eq (tail-eq_of_cons-eq x)))

    e : m.flip_y ≡ n.flip_y
    e = head-eq_of_cons-eq (tail-eq_of_cons-eq (tail-eq_of_cons-eq (tail-eq_of_cons-eq (tail-eq_of_cons-eq x))))

    k : m.flip_z ≡ n.flip_z
    k = head-eq_of_cons-eq (tail-eq_of_cons-eq (tail-eq_of_cons-eq (tail-eq_of_cons-eq (tail-eq_of_cons-eq (tail-eq_of_cons-eq x)))))

-- the flips of a map are 0 or 1
unfoldable pub is_flips : Map → Bool
is_flips m = leb m.flip_x 1 && (leb m.flip_y 1 && leb m.flip_z 1)

pub turns_flips : T (all is_flips turns)
unfolding is_flips turns transform permutations parity
turns_flips = tt

pub mirrorings_flips : T (all is_flips mirrorings)
unfolding is_flips mirrorings transform permutations parity
mirrorings_flips = tt

unfoldable pub in_maps : List Map → Map → Bool
in_maps ms m = any (same_map m) ms

pub in-maps : (ms : List Map) (m : Map) → T (in_maps ms m) → Memᴰ m ms
unfolding in_maps
in-maps ms m t = let r = any_at (same_map m) ms t in Memᴰ.cast (same_map→eq m r.0 r.2) r.1

unfoldable pub closed : List Map → List Map → List Map → Bool
closed ms ns rs = all (λ m. all (λ n. in_maps rs (product m n)) ns) ms

pub closed_at : (ms ns rs : List Map) → T (closed ms ns rs) → (m n : Map) → Memᴰ m ms → Memᴰ n ns → Memᴰ (product m n) rs
unfolding closed
closed_at ms ns rs t m n a b = in-maps rs (product m n) (all_at (λ (k : Map). in_maps rs (product m k)) ns (all_at (λ (j : Map). all (λ (k : Map). in_maps rs (product j k)) ns) ms t a) b)

pub turn_turn_test : T (closed turns turns turns)
unfolding closed in_maps same_map code_of product axis_at flip_at turns transform permutations parity
turn_turn_test = tt

pub mirror_mirror_test : T (closed mirrorings mirrorings turns)
unfolding closed in_maps same_map code_of product axis_at flip_at turns mirrorings transform permutations parity
mirror_mirror_test = tt

pub turn_mirror_test : T (closed turns mirrorings mirrorings)
unfolding closed in_maps same_map code_of product axis_at flip_at turns mirrorings transform permutations parity
turn_mirror_test = tt

pub mirror_turn_test : T (closed mirrorings turns mirrorings)
unfolding closed in_maps same_map code_of product axis_at flip_at turns mirrorings transform permutations parity
mirror_turn_test = tt

-- each has one that takes it back, on either side
unfoldable pub takes_back : List Map → Bool
takes_back ms = all (λ m. any (λ n. same_map (product n m) identity && same_map (product m n) identity) ms) ms

pub turns_back_test : T (takes_back turns)
unfolding takes_back same_map code_of product axis_at flip_at identity turns transform permutations parity
turns_back_test = tt

pub mirrorings_back_test : T (takes_back mirrorings)
unfolding takes_back same_map code_of product axis_at flip_at identity mirrorings transform permutations parity
mirrorings_back_test = tt

pub back_at : (ms : List Map) → T (takes_back ms) → (m : Map) → Memᴰ m ms → (n : Map) × Memᴰ n ms × (product n m ≡ identity) × (product m n ≡ identity)
unfolding takes_back
back_at ms t m k =
    let r = any_at (λ (n : Map). same_map (product n m) identity && same_map (product m n) identity) ms (all_at (λ (j : Map). any (λ (n : Map). same_map (product n j) identity && same_map (product j n) identity) ms) ms t k) in (
      r.0,
      r.1,
      same_map→eq (product r.0 m) identity (and_left (same_map (product r.0 m) identity) (same_map (product m r.0) identity) r.2),
      same_map→eq (product m r.0) identity (and_right (same_map (product r.0 m) identity) (same_map (product m r.0) identity) r.2),
    )

pub identity_turn : Memᴰ identity turns
unfolding identity turns transform permutations parity
identity_turn = Memᴰ.head refl

-- ---- what a product does
pub identity_cell : (s : Sides) (u : Cell) → map_cell identity s u ≡ u
unfolding map_cell identity from_end coordinate
identity_cell s u = refl

pub identity_sides : (s : Sides) → map_sides identity s ≡ s
unfolding map_sides identity side
identity_sides s = refl

pub side_at : (m : Map) (s : Sides) (i : ℕ) → side (map_sides m s) i ≡ side s (axis_at m i)
unfolding side map_sides axis_at
side_at m s i = go (eqb i 0) (eqb i 1)
  where
    at : ℕ → ℕ
    at k = cond (eqb k 0) s.a (cond (eqb k 1) s.b s.c)

    go : (x y : Bool) → cond x (at m.axis_x) (cond y (at m.axis_y) (at m.axis_z)) ≡ at (cond x m.axis_x (cond y m.axis_y m.axis_z))
    go true y = refl
    go false true = refl
    go false false = refl

pub coordinate_at : (m : Map) (s : Sides) (u : Cell) (i : ℕ) → coordinate (map_cell m s u) i ≡ from_end (flip_at m i) (side s (axis_at m i)) (coordinate u (axis_at m i))
unfolding coordinate map_cell axis_at flip_at
coordinate_at m s u i = go (eqb i 0) (eqb i 1)
  where
    at : ℕ → ℕ
    at k = cond (eqb k 0) u.x (cond (eqb k 1) u.y u.z)

    go : (x y : Bool)
        → cond x (from_end m.flip_x (side s m.axis_x) (at m.axis_x)) (cond y (from_end m.flip_y (side s m.axis_y) (at m.axis_y)) (from_end m.flip_z (side s m.axis_z) (at m.axis_z)))
        ≡ from_end (cond x m.flip_x (cond y m.flip_y m.flip_z)) (side s (cond x m.axis_x (cond y m.axis_y m.axis_z))) (at (cond x m.axis_x (cond y m.axis_y m.axis_z)))
    go true y = refl
    go false true = refl
    go false false = refl

pub coordinate_below : (s : Sides) (u : Cell) → InBox s u → (i : ℕ) → coordinate u i < side s i
unfolding coordinate side
coordinate_below s u h i = go (eqb i 0) (eqb i 1)
  where
    go : (x y : Bool) → cond x u.x (cond y u.y u.z) < cond x s.a (cond y s.b s.c)
    go true y = h.0
    go false true = h.1
    go false false = h.2

fe_product : (f g n i : ℕ) → f ≤ 1 → g ≤ 1 → i < n → from_end f n (from_end g n i) ≡ from_end ((f + g) % 2) n i
unfolding from_end
fe_product zero zero n i a b h = refl
fe_product zero (suc zero) n i a b h = refl
fe_product zero (suc (suc g)) n i a b h = absurd (omega arith)
fe_product (suc zero) zero n i a b h = refl
fe_product (suc zero) (suc zero) n i a b h = omega arith
fe_product (suc zero) (suc (suc g)) n i a b h = absurd (omega arith)
fe_product (suc (suc f)) g n i a b h = absurd (omega arith)

flips_at : (m : Map) → T (is_flips m) → (i : ℕ) → flip_at m i ≤ 1
unfolding is_flips flip_at
flips_at m t i = go (eqb i 0) (eqb i 1)
  where
    t₁ : T (leb m.flip_y 1 && leb m.flip_z 1)
    t₁ = and_right (leb m.flip_x 1) (leb m.flip_y 1 && leb m.flip_z 1) t

    go : (x y : Bool) → cond x m.flip_x (cond y m.flip_y m.flip_z) ≤ 1
    go true y = leb→le m.flip_x 1 (and_left (leb m.flip_x 1) (leb m.flip_y 1 && leb m.flip_z 1) t)
    go false true = leb→le m.flip_y 1 (and_left (leb m.flip_y 1) (leb m.flip_z 1) t₁)
    go false false = leb→le m.flip_z 1 (and_right (leb m.flip_y 1) (leb m.flip_z 1) t₁)

module _ (m n : Map) (tm : T (is_flips m)) (tn : T (is_flips n)) (s : Sides) where
  pub product_sides : map_sides m (map_sides n s) ≡ map_sides (product m n) s
  unfolding product
  product_sides = three_sides (side_at n s m.axis_x) (side_at n s m.axis_y) (side_at n s m.axis_z)
    where
      three_sides : side (map_sides n s) m.axis_x ≡ side s (axis_at n m.axis_x) → side (map_sides n s) m.axis_y ≡ side s (axis_at n m.axis_y) → side (map_sides n s) m.axis_z ≡ side s (axis_at n m.axis_z)
          → map_sides m (map_sides n s) ≡ map_sides (product m n) s
      three_sides x y z = unfold map_sides in (λ i. record { a = x i; b = y i; c = z i })

  module _ (u : Cell) (h : InBox s u) where
    at_axis : (f i : ℕ) → f ≤ 1 → from_end f (side (map_sides n s) i) (coordinate (map_cell n s u) i) ≡ from_end ((f + flip_at n i) % 2) (side s (axis_at n i)) (coordinate u (axis_at n i))
    at_axis f i k =
        ap₂ (λ (a b : ℕ). from_end f a b) (side_at n s i) (coordinate_at n s u i)
        ∙ fe_product f (flip_at n i) (side s (axis_at n i)) (coordinate u (axis_at n i)) k (flips_at n tn i) (coordinate_below s u h (axis_at n i))

    pub product_cell : map_cell m (map_sides n s) (map_cell n s u) ≡ map_cell (product m n) s u
    unfolding product flip_at
    product_cell = three (at_axis m.flip_x m.axis_x kf) (at_axis m.flip_y m.axis_y kg) (at_axis m.flip_z m.axis_z kh)
      where
        kf : m.flip_x ≤ 1
        kf = flips_at m tm 0

        kg : m.flip_y ≤ 1
        kg = flips_at m tm 1

        kh : m.flip_z ≤ 1
        kh = flips_at m tm 2

        three : from_end m.flip_x (side (map_sides n s) m.axis_x) (coordinate (map_cell n s u) m.axis_x) ≡ from_end ((m.flip_x + flip_at n m.axis_x) % 2) (side s (axis_at n m.axis_x)) (coordinate u (axis_at n m.axis_x))
            → from_end m.flip_y (side (map_sides n s) m.axis_y) (coordinate (map_cell n s u) m.axis_y) ≡ from_end ((m.flip_y + flip_at n m.axis_y) % 2) (side s (axis_at n m.axis_y)) (coordinate u (axis_at n m.axis_y))
            → from_end m.flip_z (side (map_sides n s) m.axis_z) (coordinate (map_cell n s u) m.axis_z) ≡ from_end ((m.flip_z + flip_at n m.axis_z) % 2) (side s (axis_at n m.axis_z)) (coordinate u (axis_at n m.axis_z))
            → map_cell m (map_sides n s) (map_cell n s u) ≡ map_cell (product m n) s u
        three x y z = unfold map_cell in (λ i. record { x = x i; y = y i; z = z i })

-- ---- grids
pub grid_path : {g h : Grid} → g.sides ≡ h.sides → g.cells ≡ h.cells → g ≡ h
grid_path a b = λ i. record { sides = a i; cells = b i }

pub same_grid→eq : (g h : Grid) → T (same_grid g h) → g ≡ h
unfolding same_grid sides_then_cells
same_grid→eq g h t = grid_path (λ i. record { a = a i; b = b i; c = c i }) (tail-eq_of_cons-eq (tail-eq_of_cons-eq (tail-eq_of_cons-eq x)))
  where
    x : ◌≡◌ {A = List ℕ} (g.sides.a ∷ g.sides.b ∷ g.sides.c ∷ g.cells) (h.sides.a ∷ h.sides.b ∷ h.sides.c ∷ h.cells)
    x = same→eq (sides_then_cells g) (sides_then_cells h) t

    a : g.sides.a ≡ h.sides.a
    a = head-eq_of_cons-eq x

    b : g.sides.b ≡ h.sides.b
    b = head-eq_of_cons-eq (tail-eq_of_cons-eq x)

    c : g.sides.c ≡ h.sides.c
    c = head-eq_of_cons-eq (tail-eq_of_cons-eq (tail-eq_of_cons-eq x))

pub same_grid_of : {g h : Grid} → g ≡ h → T (same_grid g h)
unfolding same_grid
same_grid_of {g} {h} e = subst (λ (k : Grid). T (same (sides_then_cells g) (sides_then_cells k))) e (same_refl (sides_then_cells g))

pub grid_with_same : (s : Sides) (f g : Cell → ℕ) → ((u : Cell) → InBox s u → f u ≡ g u) → grid_with s f ≡ grid_with s g
unfolding grid_with
grid_with_same s f g h = grid_path refl (map_same f g (box s) (λ u m. h u (box_at s u m)))

-- a mapped grid, by the sides of what is mapped
unfolded_form : (m : Map) (g : Grid) (s : Sides) → g.sides ≡ s → map_grid m g ≡ grid_with (map_sides m s) (λ u. byte_at g (map_cell (inverse m) (map_sides m s) u))
unfolding map_grid
unfolded_form m g s e = ap (λ (t : Sides). grid_with (map_sides m t) (λ u. byte_at g (map_cell (inverse m) (map_sides m t) u))) e

module _ (m n : Map) (tm : T (is_flips m)) (tn : T (is_flips n)) (fm : Fits m) (fn : Fits n) (fp : Fits (product m n)) (g : Grid) where
  abbrev s₁ : Sides
  s₁ = map_sides n g.sides

  abbrev s₂ : Sides
  s₂ = map_sides m s₁

  from_where : (u : Cell) → InBox s₂ u → map_cell (inverse n) s₁ (map_cell (inverse m) s₂ u) ≡ map_cell (inverse (product m n)) s₂ u
  from_where u b = sym (fp.back_there g.sides v vb) ∙ ap₂ (λ (s : Sides) (x : Cell). map_cell (inverse (product m n)) s x) (sym (product_sides m n tm tn g.sides)) goes
    where
      v : Cell
      v = map_cell (inverse n) s₁ (map_cell (inverse m) s₂ u)

      wb : InBox s₁ (map_cell (inverse m) s₂ u)
      wb = fm.back s₁ u b

      vb : InBox g.sides v
      vb = fn.back g.sides (map_cell (inverse m) s₂ u) wb

      goes : map_cell (product m n) g.sides v ≡ u
      goes = sym (product_cell m n tm tn g.sides v vb) ∙ ap (map_cell m s₁) (fn.there_back g.sides (map_cell (inverse m) s₂ u) wb) ∙ fm.there_back s₁ u b

  pub product_grid : map_grid m (map_grid n g) ≡ map_grid (product m n) g
  product_grid = first_form ∙ grid_with_same s₂ (λ u. byte_at (map_grid n g) (map_cell (inverse m) s₂ u)) (λ u. byte_at g (map_cell (inverse (product m n)) s₂ u)) (λ u b. mapped_byte n g (map_cell (inverse m) s₂ u) (fm.back s₁ u b) ∙ ap (byte_at g) (from_where u b)) ∙ last_form
    where
      first_form : map_grid m (map_grid n g) ≡ grid_with s₂ (λ u. byte_at (map_grid n g) (map_cell (inverse m) s₂ u))
      first_form = unfolded_form m (map_grid n g) s₁ (mapped_sides n g)

      last_form : grid_with s₂ (λ u. byte_at g (map_cell (inverse (product m n)) s₂ u)) ≡ map_grid (product m n) g
      last_form = ap (λ (s : Sides). grid_with s (λ u. byte_at g (map_cell (inverse (product m n)) s u))) (product_sides m n tm tn g.sides) ∙ sym (unfolded_form (product m n) g g.sides refl)

-- ---- a grid with as many cells as its box has
plus_zero : (n : ℕ) → n + 0 ≡ n
plus_zero n = omega arith

pub bytes_whole : (g : Grid) → length g.cells ≡ volume g.sides → map (byte_at g) (box g.sides) ≡ g.cells
unfolding byte_at box volume
bytes_whole g e =
    sym (map-map (λ k. get_or g.cells k 0) (λ (u : Cell). (u.x * b + u.y) * c + u.z) (box g.sides))
    ∙ ap (map (λ k. get_or g.cells k 0)) indexes ∙ by_number 0 g.cells
  where
    a : ℕ
    a = g.sides.a

    b : ℕ
    b = g.sides.b

    c : ℕ
    c = g.sides.c

    line : (i j : ℕ) → map (λ (u : Cell). (u.x * b + u.y) * c + u.z) (map (λ k. record { x = i; y = j; z = k }) (below c)) ≡ from ((i * b + j) * c) c
    line i j = map-map (λ (u : Cell). (u.x * b + u.y) * c + u.z) (λ k. record { x = i; y = j; z = k }) (below c) ∙ from_shift ((i * b + j) * c) 0 c ∙ ap (λ (k : ℕ). from k c) (plus_zero ((i * b + j) * c))

    row : (i : ℕ) → map (λ (u : Cell). (u.x * b + u.y) * c + u.z) (each (below b) (λ j. map (λ k. record { x = i; y = j; z = k }) (below c))) ≡ from (i * (b * c)) (b * c)
    row i =
        map_each (λ (u : Cell). (u.x * b + u.y) * c + u.z) (λ j. map (λ k. record { x = i; y = j; z = k }) (below c)) (below b)
        ∙ each_same (λ j. map (λ (u : Cell). (u.x * b + u.y) * c + u.z) (map (λ k. record { x = i; y = j; z = k }) (below c))) (λ j. from ((i * b + j) * c) c) (below b) (line i)
        ∙ each_shift (λ k. from (k * c) c) (i * b) 0 b ∙ ap (λ (k : ℕ). each (from k b) (λ t. from (t * c) c)) (plus_zero (i * b)) ∙ from_blocks c (i * b) b ∙ ap (λ (k : ℕ). from k (b * c)) (mul_assoc i b c)

    indexes : map (λ (u : Cell). (u.x * b + u.y) * c + u.z) (box g.sides) ≡ from 0 (length g.cells)
    indexes =
        map_each (λ (u : Cell). (u.x * b + u.y) * c + u.z) (λ i. each (below b) (λ j. map (λ k. record { x = i; y = j; z = k }) (below c))) (below a)
        ∙ each_same (λ i. map (λ (u : Cell). (u.x * b + u.y) * c + u.z) (each (below b) (λ j. map (λ k. record { x = i; y = j; z = k }) (below c)))) (λ i. from (i * (b * c)) (b * c)) (below a) row
        ∙ from_blocks (b * c) 0 a ∙ ap₂ (λ (x y : ℕ). from x y) (zero-mul (b * c)) (sym (mul_assoc a b c) ∙ sym e)

-- a whole grid's filled cells are its bytes that are 1
pub filled_bytes : (g : Grid) → length g.cells ≡ volume g.sides → length (filled_cells g) ≡ how_many (eqb 1) g.cells
unfolding filled_cells
filled_bytes g e =
    sym (how_many_length (λ u. eqb (byte_at g u) 1) (box g.sides))
    ∙ how_many_same (λ u. eqb (byte_at g u) 1) (λ u. eqb 1 (byte_at g u)) (box g.sides) (λ u. eqb_flip (byte_at g u) 1)
    ∙ sym (how_many_map (eqb 1) (byte_at g) (box g.sides)) ∙ ap (how_many (eqb 1)) (bytes_whole g e)

pub identity_grid : (g : Grid) → length g.cells ≡ volume g.sides → map_grid identity g ≡ g
unfolding map_grid grid_with map_sides identity side inverse axis_of flip_of map_cell from_end coordinate
identity_grid g e = grid_path refl (bytes_whole g e)
