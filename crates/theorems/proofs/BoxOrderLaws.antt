-- The cells of a row in the order of the lent box are those in the order of the board's box: no row has the number of a cell that is not filled.
-- Assumes nothing.
use Prim.Native.Nat.{ℕ, ◌+◌, ◌≤◌, ◌<◌}
use mathlib.Core.Bool.{◌&&◌}
use mathlib.Core.List.Memᴰ
use mathlib.Core.List.{List, map, Memᴰ, map-map}
use mathlib.Core.Path.{◌≡◌, refl, sym, ap, ◌∙◌}
use native.Mathlib.Omega.{arith}
use lib.Dec.{T, eqb}
use lib.ListN.{length, get_or, length-map}
use Rattle.lists.specs.Lists.{keep, member}
use Rattle.lists.proofs.TestLaws.{and_right, and_both, tests_same, eqb_of}
use Rattle.lists.proofs.ListLaws.{keep_map, keep_keep, keep_same, map_same, before_at, get_or_mem}
use Rattle.lists.proofs.RangeLaws.{member_at}
use Rattle.definitions.specs.Grid.{Sides, Cell, set_down, same_cell, box, byte_at, filled_cells, InBox}
use Rattle.definitions.specs.Scan.{scan_number}
use Rattle.definitions.specs.Stripping.{FitsIn}
use Rattle.definitions.specs.Placements.{Placement, Compiled, compile}
use Rattle.definitions.specs.Answers.{lent_cells}
use Rattle.definitions.specs.Refusals.{Call, strip_tray, tray_of, lent_of, refusal}
use Rattle.definitions.specs.Dlx1.{boxed, built_cells}
use Rattle.theorems.proofs.MapLaws.{filled_at}
use Rattle.theorems.proofs.StrippingLaws.{keep_within, strip_fits}
use Rattle.theorems.proofs.WellMadeLaws.{same_cell→eq}
use Rattle.theorems.proofs.AnswerLaws.{set_number}
use Rattle.theorems.proofs.GeometryLaws.{W, to_filled, in-box}

-- a cell whose number is one of some cells' is one of them
numbered_in : (cells : List Cell) (u : Cell) → scan_number cells u < length cells → Memᴰ u cells
unfolding scan_number
numbered_in cells u h =
    let none : Cell = record { x = 0; y = 0; z = 0 } in
    Memᴰ.cast (same_cell→eq u (get_or cells (scan_number cells u) none) (before_at (same_cell u) none cells h)) (get_or_mem none cells (scan_number cells u) h)

-- A box of which only a window has cells with certain numbers: in the order of the box they are those in the order of the window's.
pub walked : (ns : List ℕ) (f : Cell → ℕ) (n m : Sides) (at : Cell) → FitsIn (record { lent = n; at = at }) m
    → ((u : Cell) → InBox n u → T (member (f u) ns) → (v : Cell) × InBox m v × (set_down at v ≡ u))
    → keep (λ i. member i ns) (map f (box n)) ≡ keep (λ i. member i ns) (map (λ v. f (set_down at v)) (box m))
unfolding set_down
walked ns f n m at fits inside =
    keep_map f (λ i. member i ns) (box n)
    ∙ ap (map f) (keep_within (λ u. member (f u) ns) n m at fits.along_x fits.along_y fits.along_z in_window)
    ∙ map-map f (set_down at) (keep (λ u. member (f (set_down at u)) ns) (box m))
    ∙ sym (keep_map (λ v. f (set_down at v)) (λ i. member i ns) (box m))
  where
    in_window : (u : Cell) → InBox n u → T (member (f u) ns) → ((at.x ≤ u.x) × (u.x < at.x + m.a)) × ((at.y ≤ u.y) × (u.y < at.y + m.b)) × ((at.z ≤ u.z) × (u.z < at.z + m.c))
    in_window u b t =
        let r = inside u b t in
        let k = r.1 in
        let x = ap (λ (w : Cell). w.x) r.2 in
        let y = ap (λ (w : Cell). w.y) r.2 in
        let z = ap (λ (w : Cell). w.z) r.2 in
        ((omega arith, omega arith), (omega arith, omega arith), (omega arith, omega arith))

module _ (l : Call) (ok : refusal l ≡ 0) (q : Placement) (m : Memᴰ q (compile (tray_of l)).placements) where
  abbrev c : Compiled
  c = compile (tray_of l)

  -- a number of the row is a cell's
  pub row_cell : (cells : List Cell) → length cells ≡ length (compile (tray_of l)).cells → (u : Cell) → T (member (scan_number cells u) q.cells) → Memᴰ u cells
  row_cell cells e u t = numbered_in cells u (let h = (W l ok).on_board q m (scan_number cells u) (member_at (scan_number cells u) q.cells t) in omega arith)

  -- the board's cells that are not filled may be walked too
  pub built_box : built_cells (boxed (compile (tray_of l))) q ≡ keep (λ n. member n q.cells) (map (scan_number (compile (tray_of l)).cells) (box (compile (tray_of l)).board.sides))
  unfolding built_cells boxed filled_cells
  built_box =
      keep_map number (λ n. member n q.cells) (keep (λ u. eqb (byte_at c.board u) 1) (box c.board.sides))
      ∙ ap (map number) (keep_keep (λ u. eqb (byte_at c.board u) 1) (λ u. member (number u) q.cells) (box c.board.sides) ∙ keep_same _ _ (box c.board.sides) (λ u k. either u))
      ∙ sym (keep_map number (λ n. member n q.cells) (box c.board.sides))
    where
      number : Cell → ℕ
      number = scan_number c.cells

      filled : (u : Cell) → T (member (number u) q.cells) → T (eqb (byte_at c.board u) 1)
      filled u t = eqb_of (filled_at c.board u (to_filled l ok u (row_cell c.cells refl u t))).1

      either : (u : Cell) → eqb (byte_at c.board u) 1 && member (number u) q.cells ≡ member (number u) q.cells
      either u = tests_same _ _ (and_right (eqb (byte_at c.board u) 1) (member (number u) q.cells)) (λ t. and_both (eqb (byte_at c.board u) 1) (member (number u) q.cells) (filled u t) t)

  pub lent_order : built_cells (map (scan_number (lent_cells (compile (tray_of l)))) (box (compile (tray_of l)).frame.lent)) q ≡ built_cells (boxed (compile (tray_of l))) q
  unfolding built_cells
  lent_order =
      walked q.cells (scan_number (lent_cells c)) c.frame.lent c.board.sides c.frame.at fits inside
      ∙ ap (keep (λ n. member n q.cells)) (map_same (λ v. scan_number (lent_cells c) (set_down c.frame.at v)) (scan_number c.cells) (box c.board.sides) (λ v k. set_number c.frame.at c.cells v))
      ∙ sym built_box
    where
      fits : FitsIn c.frame c.board.sides
      fits = unfold compile tray_of strip_tray in strip_fits (lent_of l).board

      inside : (u : Cell) → InBox c.frame.lent u → T (member (scan_number (lent_cells c) u) q.cells) → (v : Cell) × InBox c.board.sides v × (set_down c.frame.at v ≡ u)
      inside u b t =
          let r = Memᴰ.of_map (set_down c.frame.at) c.cells (row_cell (lent_cells c) (length-map c.cells (set_down c.frame.at)) u t) in
          (r.0, in-box l ok r.0 r.1, r.2)
