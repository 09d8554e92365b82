-- Tests of sides, grids and cells: they tell what the code's tests decide, so what is read is the byte, or 0. Assumes nothing.
use Prim.Native.Nat.{ℕ}
use mathlib.Core.Bool.{Bool, true, false, cond, ◌&&◌}
use mathlib.Core.List.{List}
use mathlib.Core.Path.{◌≡◌, refl, sym, ap, ap₂, ◌∙◌}
use borrow.Author.Tests.{ltb-true, lt-ltb, leb-true, le-leb, eqb-true, eq-eqb}
use denote.Ref.{Bor}
use lib.Dec.{ltb, leb}
use lib.ListN.{length}
use Rattle.lists.proofs.TestLaws.{and_true_right, and_true_left, not_true}
use Rattle.definitions.specs.Grid.{Sides, Cell, volume, InBox}
use Rattle.shape.specs.Coords.{as_sides, ShortSides, are_short, lies_in}
use Rattle.shape.specs.Grids.{as_grid, Whole, is_whole}
use Rattle.shape.specs.CubicGrids.{grid_of}
use Rattle.shape.specs.declared.Coord.{Coord}
use Rattle.shape.specs.declared.cubic_grid.CubicGrid.{CubicGrid}

-- ---- sides
short_told : (s : Sides) → are_short s ≡ true → ShortSides s
unfolding are_short
short_told s e =
    let f = and_true_right (leb s.a 8) _ e in
    record { a = leb-true s.a 8 (and_true_left _ _ e); b = leb-true s.b 8 (and_true_left _ _ f); c = leb-true s.c 8 (and_true_right (leb s.b 8) _ f) }

short_yes : (s : Sides) → ShortSides s → are_short s ≡ true
unfolding are_short
short_yes s f = ap₂ ◌&&◌ (le-leb s.a 8 f.a) (ap₂ ◌&&◌ (le-leb s.b 8 f.b) (le-leb s.c 8 f.c))

pub short_cells : (s : Sides) → ShortSides s → cond (are_short s) (volume s) 0 ≡ volume s
short_cells s f = ap (λ (b : Bool). cond b (volume s) 0) (short_yes s f)

pub no_cells : (s : Sides) → (ShortSides s → ⊥) → 0 ≡ cond (are_short s) (volume s) 0
no_cells s n = sym (ap (λ (b : Bool). cond b (volume s) 0) (not_true (are_short s) (λ e. n (short_told s e))))

-- ---- cells in a box
lies_told : (s : Sides) (u : Cell) → lies_in s u ≡ true → InBox s u
unfolding lies_in
lies_told s u e =
    let f = and_true_right (ltb u.x s.a) _ e in
    (ltb-true u.x s.a (and_true_left _ _ e), ltb-true u.y s.b (and_true_left _ _ f), ltb-true u.z s.c (and_true_right (ltb u.y s.b) _ f))

pub lies_yes : (s : Sides) (u : Cell) → InBox s u → lies_in s u ≡ true
unfolding lies_in
lies_yes s u w = ap₂ ◌&&◌ (lt-ltb u.x s.a w.0) (ap₂ ◌&&◌ (lt-ltb u.y s.b w.1) (lt-ltb u.z s.c w.2))

pub lies_no : (s : Sides) (u : Cell) → (InBox s u → ⊥) → lies_in s u ≡ false
lies_no s u n = not_true (lies_in s u) (λ e. n (lies_told s u e))

-- ---- grids
whole_told : (s : Coord) (cells : List ℕ) → is_whole (as_grid s cells) ≡ true → Whole s cells
unfolding is_whole
whole_told s cells e = record {
  short = short_told (as_sides s) (and_true_left _ _ e);
  size = eqb-true (length cells) (volume (as_sides s)) (and_true_right (are_short (as_sides s)) _ e);
}

whole_yes : (s : Coord) (cells : List ℕ) → Whole s cells → is_whole (as_grid s cells) ≡ true
unfolding is_whole
whole_yes s cells w = ap₂ ◌&&◌ (short_yes (as_sides s) w.short) (eq-eqb (length cells) (volume (as_sides s)) w.size)

whole_no : (s : Coord) (cells : List ℕ) → (Whole s cells → ⊥) → is_whole (as_grid s cells) ≡ false
whole_no s cells n = not_true (is_whole (as_grid s cells)) (λ e. n (whole_told s cells e))

-- what is read of a cell that the box has
pub seen : {t : Sides} {u : Cell} {n r : ℕ} → InBox t u → r ≡ cond (lies_in t u) n 0 → r ≡ n
seen {t} {u} {n} i e = e ∙ ap (λ (b : Bool). cond b n 0) (lies_yes t u i)

-- the grid that is lent is that of the cells and sides that it was made of
pub lent_grid : (grid : CubicGrid) {cells : Bor (List ℕ)} {s : Coord} → (grid.cells ≡ cells) × (grid.sides ≡ s) → grid_of grid ≡ as_grid s cells.now
lent_grid grid f = λ i. as_grid (f.1 i) (f.0 i).now

-- what is told of a grid that is whole, and of one that is not
module _ (s : Coord) (cells : List ℕ) where
  module _ (whole : Whole s cells) where
    pub whole_reads : (n : ℕ) → cond (is_whole (as_grid s cells)) n 0 ≡ n
    whole_reads n = ap (λ (b : Bool). cond b n 0) (whole_yes s cells whole)

    pub whole_tells : (b : Bool) → (is_whole (as_grid s cells) && b) ≡ b
    whole_tells b = ap (λ (a : Bool). a && b) (whole_yes s cells whole)

    pub whole_cell : (b : Bool) (n : ℕ) → cond (is_whole (as_grid s cells) && b) n 0 ≡ cond b n 0
    whole_cell b n = ap (λ (a : Bool). cond (a && b) n 0) (whole_yes s cells whole)

    pub cell_reads : (t : Sides) (u : Cell) (n : ℕ) → InBox t u → cond (is_whole (as_grid s cells) && lies_in t u) n 0 ≡ n
    cell_reads t u n i = ap₂ (λ (a b : Bool). cond (a && b) n 0) (whole_yes s cells whole) (lies_yes t u i)

  module _ (broken : Whole s cells → ⊥) where
    pub broken_reads : (n : ℕ) → 0 ≡ cond (is_whole (as_grid s cells)) n 0
    broken_reads n = sym (ap (λ (b : Bool). cond b n 0) (whole_no s cells broken))

    pub broken_tells : (b : Bool) → false ≡ is_whole (as_grid s cells) && b
    broken_tells b = sym (ap (λ (a : Bool). a && b) (whole_no s cells broken))

    pub broken_cell : (b : Bool) (n : ℕ) → 0 ≡ cond (is_whole (as_grid s cells) && b) n 0
    broken_cell b n = sym (ap (λ (a : Bool). cond (a && b) n 0) (whole_no s cells broken))

  pub no_cell : (t : Sides) (u : Cell) (n : ℕ) → (InBox t u → ⊥) → 0 ≡ cond (is_whole (as_grid s cells) && lies_in t u) n 0
  no_cell t u n o = go (is_whole (as_grid s cells))
    where
      go : (a : Bool) → 0 ≡ cond (a && lies_in t u) n 0
      go true = sym (ap (λ (b : Bool). cond b n 0) (lies_no t u o))
      go false = refl
