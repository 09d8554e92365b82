-- No turn makes a grid that stands ahead of the smallest turned grid; so no side of that one is shorter than the side before it. Assumes nothing.
use Prim.Native.Nat.{◌<◌, ◌≤◌}
use mathlib.Core.List.{[], ◌∷◌, Memᴰ}
use mathlib.Core.Path.{◌≡◌, refl, sym, subst}
use mathlib.Core.Logic.{⊎_elim}
use lib.Dec.{T}
use lib.ListN.{length}
use Rattle.lists.proofs.TestLaws.{holds, lt_or_ge}
use Rattle.lists.proofs.SortLaws.{head_first, less_after, less_under}
use Rattle.definitions.specs.Grid.{Grid, volume, grid_with, grid_ahead, sides_then_cells}
use Rattle.definitions.specs.Kinds.{variants, smallest}
use Rattle.definitions.specs.Moves.{Quarter, move_grid, move_sides, quarter_sides}
use Rattle.definitions.specs.Moves.Move.{turn}
use Rattle.definitions.specs.Moves.Quarter.{about_x, about_z}
use Rattle.definitions.specs.Refusals.{are_bits}
use Rattle.definitions.specs.PlacementsRight.{TurnsOnto}
use Rattle.theorems.proofs.CellLaws.{grid_trans, grid_irrefl}
use Rattle.theorems.proofs.PartnerLaws.{variants_up}
use Rattle.theorems.proofs.SetDownLaws.{turned_variant}

module _ (g : Grid) (bits : T (are_bits g)) (whole : length g.cells ≡ volume g.sides) (small : smallest g ≡ g) where
  pub none_ahead : (h : Grid) → TurnsOnto g h → T (grid_ahead h g) → ⊥
  unfolding smallest
  none_ahead h r t =
      head_first grid_ahead grid_trans grid_irrefl g (variants g) (variants_up g)
      (subst (λ (k : Grid). Memᴰ k (variants g)) r.equal (turned_variant g bits whole r.moves r.by_turns)) (subst (λ (k : Grid). T (grid_ahead h k)) (sym small) t)

  not_turned : (q : Quarter) → T (grid_ahead (move_grid (turn q) g) g) → ⊥
  not_turned q t = none_ahead (move_grid (turn q) g) (record { moves = turn q ∷ []; by_turns = tt; equal = refl }) t

  -- a quarter turn about z exchanges the first two sides, one about x the last two
  about_z_ahead : g.sides.b < g.sides.a → T (grid_ahead (move_grid (turn about_z) g) g)
  unfolding move_grid grid_with move_sides quarter_sides grid_ahead sides_then_cells
  about_z_ahead h = holds _ (less_under g.sides.b g.sides.a (g.sides.a ∷ g.sides.c ∷ (move_grid (turn about_z) g).cells) (g.sides.b ∷ g.sides.c ∷ g.cells) h)

  about_x_ahead : g.sides.c < g.sides.b → T (grid_ahead (move_grid (turn about_x) g) g)
  unfolding move_grid grid_with move_sides quarter_sides grid_ahead sides_then_cells
  about_x_ahead h =
      less_after (g.sides.a ∷ []) (g.sides.c ∷ g.sides.b ∷ (move_grid (turn about_x) g).cells) (g.sides.b ∷ g.sides.c ∷ g.cells)
      (holds _ (less_under g.sides.c g.sides.b (g.sides.b ∷ (move_grid (turn about_x) g).cells) (g.sides.c ∷ g.cells) h))

  pub sides_sorted : (g.sides.a ≤ g.sides.b) × (g.sides.b ≤ g.sides.c)
  sides_sorted = (
    ⊎_elim (λ h. absurd (not_turned about_z (about_z_ahead h))) (λ h. h) (lt_or_ge g.sides.b g.sides.a),
    ⊎_elim (λ h. absurd (not_turned about_x (about_x_ahead h))) (λ h. h) (lt_or_ge g.sides.c g.sides.b),
  )
