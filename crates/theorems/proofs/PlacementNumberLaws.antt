-- A placement's j is the number of its turned grid among the kind's that fit with their origin on its p, ascending from 0. Assumes nothing.
use Prim.Native.Nat.{ℕ, ◌<◌}
use mathlib.Core.List.{List, map, Memᴰ}
use mathlib.Core.Logic.{◌↔◌}
use mathlib.Core.Path.{◌≡◌, ◌∙◌, subst}
use native.Mathlib.Omega.{arith}
use lib.Dec.{T}
use lib.ListN.{length}
use Rattle.lists.specs.Lists.{keep, ascending}
use Rattle.lists.proofs.SortLaws.{keep_ascending}
use Rattle.lists.proofs.NthLaws.{Nth, nth_mem, nth_below, get_or_nth, nth_up, nth_ahead, nth_unique}
use Rattle.definitions.specs.Grid.{Cell, Grid, grid_ahead}
use Rattle.definitions.specs.Scan.{axes, scan}
use Rattle.definitions.specs.Kinds.{Tray, kinds_of, variants}
use Rattle.definitions.specs.Placements.{fits, Placement, Compiled, compile}
use Rattle.definitions.specs.Moves.{grid_after}
use Rattle.definitions.specs.Refusals.{Call, tray_of, refusal}
use Rattle.definitions.specs.PlacementsRight.{SetDown, piece_at}
use Rattle.theorems.proofs.WellMadeLaws.{from_made}
use Rattle.theorems.proofs.ShapeLaws.{tight, shape_facts}
use Rattle.theorems.proofs.CellLaws.{grid_trans, grid_irrefl}
use Rattle.theorems.proofs.PartnerLaws.{variants_up}
use Rattle.theorems.proofs.KindLaws.{kind_number, piece_nth, grid_bits, grid_all, is-kind, kind_shape}
use Rattle.theorems.proofs.SetDownLaws.{fitting, Stands, placed_nth, placement_stands, placement_once}

fitting_up : (order : List ℕ) (board : List Cell) (g : Grid) (on : Cell) → T (ascending grid_ahead (fitting order board g on))
fitting_up order board g on = keep_ascending grid_ahead (λ h. fits board on (scan order h)) (variants g) (variants_up g)

module _ (l : Call) (ok : refusal l ≡ 0) where
  abbrev t : Tray
  t = tray_of l

  abbrev c : Compiled
  c = compile (tray_of l)

  abbrev order : List ℕ
  order = axes t.board.sides

  abbrev cs : List Cell
  cs = scan order t.board

  abbrev grid_at : ℕ → Grid
  grid_at n = (piece_at (tray_of l) n).grid

  -- however a piece's turned grid is set down on a placement's cells, the placement is that variant: setting it down makes one with this kind and these cells
  stands : (r : Placement) → Memᴰ r c.placements → (n : ℕ) → n < length t.pieces → kind_number l ok n ≡ r.kind → (R : SetDown c (grid_at n) r.cells)
      → Stands order cs (grid_at n) (grid_after R.moves (grid_at n)) r
  stands r m n h e R =
      let g = grid_at n in
      let close = tight l ok (piece_at t n) (nth_mem t.pieces n (piece_nth l ok n h)) in
      let x = placement_stands l ok (kind_number l ok n) (is-kind l ok n h) g (grid_bits l ok n h) (grid_all l ok n h) close (kind_shape l ok n h) r.cells R in
      subst (Stands order cs g (grid_after R.moves g)) (placement_once l ok x.0 r x.1 m (x.2 ∙ e) x.3) x.4

  pub j-in-order : (r s : Placement) → Memᴰ r c.placements → Memᴰ s c.placements → r.kind ≡ s.kind → r.p ≡ s.p
      → (n : ℕ) → n < length t.pieces → kind_number l ok n ≡ r.kind → (R : SetDown c (grid_at n) r.cells) (S : SetDown c (grid_at n) s.cells)
      → (r.j < s.j) ↔ T (grid_ahead (grid_after R.moves (grid_at n)) (grid_after S.moves (grid_at n)))
  j-in-order r s a b k p n h e R S =
      let g = grid_at n in
      let v = grid_after R.moves g in
      let w = grid_after S.moves g in
      let x = stands r a n h e R in
      let y = stands s b n h (e ∙ k) S in
      let on = nth_unique cs s.p y.on x.on y.is_on (subst (λ (i : ℕ). Nth cs i x.on) p x.is_on) in
      let vs = fitting order cs g x.on in
      let up = fitting_up order cs g x.on in
      let i : Nth vs s.j w = subst (λ (u : Cell). Nth (fitting order cs g u) s.j w) on y.is_j in
      (nth_up grid_ahead vs up r.j s.j v w x.is_j i, nth_ahead grid_ahead grid_trans grid_irrefl vs up r.j s.j v w x.is_j i)

  pub j-from-zero : (r : Placement) → Memᴰ r c.placements → (i : ℕ) → i < r.j
      → (s : Placement) × Memᴰ s c.placements × (s.kind ≡ r.kind) × (s.p ≡ r.p) × (s.j ≡ i)
  unfolding compile
  j-from-zero r m i h =
      let x = from_made t (shape_facts l ok) r m in
      let us = keep (fits cs x.on) (map (scan order) (variants x.kind.shape)) in
      let b = nth_below us r.j x.variant x.is_j in
      let u = get_or_nth us i (omega arith) in
      let s = placed_nth order cs (kinds_of t) r.kind x.kind x.is_kind r.p x.on x.is_on i u.0 u.1 in
      (s.0, s.1, s.2, s.3, s.4)
