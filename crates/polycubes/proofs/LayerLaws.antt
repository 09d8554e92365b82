-- Layers of a grid, place by place. Assumes nothing.
use Prim.Native.Nat.{ℕ, ◌+◌, ◌-◌, ◌<◌}
use mathlib.Core.Bool.{Bool, true, false, ◌&&◌}
use mathlib.Core.Path.{◌≡◌, refl, sym, ap, ◌∙◌}
use native.Mathlib.Omega.{arith}
use lib.Dec.{eqb, eqb→eq}
use Rattle.lists.specs.Lists.{any, below}
use Rattle.lists.proofs.TestLaws.{holds, eqb_same}
use Rattle.lists.proofs.ListLaws.{any_at, any_same}
use Rattle.definitions.specs.Grid.{Cell, Grid, volume, filled_cells}
use Rattle.definitions.specs.Maps.{coordinate, side}
use Rattle.definitions.specs.Refusals.{filled_where, is_tight}
use Rattle.theorems.proofs.MapLaws.{filled_at}
use Rattle.theorems.proofs.GroupLaws.{coordinate_below}
use Rattle.shape.specs.Places.{cell_at}
use Rattle.polycubes.specs.Hanging.{is_filled_at}
use Rattle.polycubes.proofs.HangingLaws.{filled_cells_of, any_cells}

-- the cell at a place is filled, and lies so far along an axis
abbrev pub in_layer : Grid → ℕ → ℕ → ℕ → Bool
in_layer g axis at i = is_filled_at g i && eqb (coordinate (cell_at g.sides i) axis) at

pub layer_filled : (g : Grid) (axis at : ℕ) → any (in_layer g axis at) (below (volume g.sides)) ≡ filled_where g (λ u. eqb (coordinate u axis) at)
unfolding filled_where
layer_filled g axis at =
    sym (ap (any (λ u. eqb (coordinate u axis) at)) (filled_cells_of g) ∙ any_cells g.sides (is_filled_at g) (λ u. eqb (coordinate u axis) at))

-- a grid with a filled cell in its first layer has a layer
pub some_layer : (g : Grid) (axis : ℕ) → filled_where g (λ u. eqb (coordinate u axis) 0) ≡ true → 0 < side g.sides axis
unfolding filled_where
some_layer g axis e =
    let r = any_at (λ u. eqb (coordinate u axis) 0) (filled_cells g) (holds _ e) in
    let l = coordinate_below g.sides r.0 (filled_at g r.0 r.1).0 axis in
    let o = eqb→eq (coordinate r.0 axis) 0 r.2 in
    omega arith

-- the last layer, by its number
pub last_layer : (g : Grid) (axis : ℕ) → 0 < side g.sides axis
    → filled_where g (λ u. eqb (coordinate u axis) (side g.sides axis - 1)) ≡ filled_where g (λ u. eqb (coordinate u axis + 1) (side g.sides axis))
unfolding filled_where
last_layer g axis h =
    any_same (λ u. eqb (coordinate u axis) (side g.sides axis - 1)) (λ u. eqb (coordinate u axis + 1) (side g.sides axis)) (filled_cells g)
    (λ u m. eqb_same (coordinate u axis) (side g.sides axis - 1) (coordinate u axis + 1) (side g.sides axis) (λ e. omega arith) (λ e. omega arith))

-- both outer layers across an axis; and across each axis
abbrev pub tight_along : Grid → ℕ → Bool
tight_along g axis = filled_where g (λ u. eqb (coordinate u axis) 0) && filled_where g (λ u. eqb (coordinate u axis + 1) (side g.sides axis))

pub tight_by : (g : Grid) → is_tight g ≡ (tight_along g 0 && (tight_along g 1 && tight_along g 2))
unfolding is_tight coordinate side
tight_by g =
    regroup (first (λ u. u.x)) (last (λ u. u.x) g.sides.a) (first (λ u. u.y)) (last (λ u. u.y) g.sides.b) (first (λ u. u.z) && last (λ u. u.z) g.sides.c)
  where
    first : (Cell → ℕ) → Bool
    first f = filled_where g (λ u. eqb (f u) 0)

    last : (Cell → ℕ) → ℕ → Bool
    last f n = filled_where g (λ u. eqb (f u + 1) n)

    regroup : (a b c d e : Bool) → (a && (b && (c && (d && e)))) ≡ ((a && b) && ((c && d) && e))
    regroup true true true d e = refl
    regroup true true false d e = refl
    regroup true false c d e = refl
    regroup false b c d e = refl
