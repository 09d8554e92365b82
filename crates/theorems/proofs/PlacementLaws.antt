-- The placements of an accepted tray are exactly the pieces' turned grids set down on filled board cells, and its copies exactly those lent. Assumes nothing.
use Prim.Native.Nat.{ℕ, ◌<◌}
use mathlib.Core.List.{List, Memᴰ}
use mathlib.Core.Path.{◌≡◌, sym, ap, ◌∙◌}
use lib.ListN.{length}
use Rattle.lists.proofs.NthLaws.{nth_mem}
use Rattle.definitions.specs.Placements.{Placement, compile}
use Rattle.definitions.specs.Refusals.{Call, tray_of, refusal}
use Rattle.definitions.specs.PlacementsRight.{piece_at, kind_at, SetDown, PlacementsRight}
use Rattle.theorems.proofs.ShapeLaws.{bits, tight}
use Rattle.theorems.proofs.GeometryLaws.{piece_whole}
use Rattle.theorems.proofs.KindLaws.{kind_number, cells-filled, cells-in-order, is-kind, some-lent, one_kind_turns, shape-turned, shape-smallest, kinds-in-order, partner_mirrors, copies-lent, copies-in-order, kind_shape, kind_wood, piece_nth}
use Rattle.theorems.proofs.SetDownLaws.{of-kind, placement_sound, placement_complete, placement_once, placements_in_order, origin-first}
use Rattle.theorems.proofs.PlacementNumberLaws.{j-in-order, j-from-zero}

module _ (l : Call) (ok : refusal l ≡ 0) where
  piece-in : (n : ℕ) → n < length (tray_of l).pieces → Memᴰ (piece_at (tray_of l) n) (tray_of l).pieces
  piece-in n h = nth_mem (tray_of l).pieces n (piece_nth l ok n h)

  sound : (r : Placement) → Memᴰ r (compile (tray_of l)).placements → (n : ℕ) → n < length (tray_of l).pieces → kind_number l ok n ≡ r.kind
      → SetDown (compile (tray_of l)) (piece_at (tray_of l) n).grid r.cells
  sound r m n h e =
      let q = piece_at (tray_of l) n in
      placement_sound l ok r m q.grid (bits l ok q (piece-in n h)) (piece_whole l ok q (piece-in n h)) (ap (λ (k : ℕ). (kind_at (compile (tray_of l)) k).shape) (sym e) ∙ kind_shape l ok n h)

  complete : (n : ℕ) → n < length (tray_of l).pieces → (cells : List ℕ) → SetDown (compile (tray_of l)) (piece_at (tray_of l) n).grid cells
      → (r : Placement) × Memᴰ r (compile (tray_of l)).placements × (r.kind ≡ kind_number l ok n) × (r.cells ≡ cells)
  complete n h cells s =
      let q = piece_at (tray_of l) n in
      placement_complete l ok (kind_number l ok n) (is-kind l ok n h) q.grid (bits l ok q (piece-in n h)) (piece_whole l ok q (piece-in n h)) (tight l ok q (piece-in n h)) (kind_shape l ok n h) cells s

pub placements_right_holds : PlacementsRight
unfolding PlacementsRight
placements_right_holds l ok =
    record {
      cells_filled = cells-filled l ok;
      cells_in_order = cells-in-order l ok;
      kind_of = kind_number l ok;
      is_kind = is-kind l ok;
      some_lent = some-lent l ok;
      one_kind = one_kind_turns l ok;
      wood_lent = kind_wood l ok;
      shape_turned = shape-turned l ok;
      shape_smallest = shape-smallest l ok;
      kinds_in_order = kinds-in-order l ok;
      partner = partner_mirrors l ok;
      copies_lent = copies-lent l ok;
      copies_in_order = copies-in-order l ok;
      of_kind = of-kind l ok;
      sound = sound l ok;
      complete = complete l ok;
      once = placement_once l ok;
      in_order = placements_in_order l ok;
      origin_first = origin-first l ok;
      j_in_order = j-in-order l ok;
      j_from_zero = j-from-zero l ok;
    }
