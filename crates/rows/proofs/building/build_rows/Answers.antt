use Prim.Native.Nat.{ℕ, ◌+◌, ◌*◌, ◌≤◌, ◌<◌}
use mathlib.Core.List.{List, ◌++◌, map}
use mathlib.Core.Path.{◌≡◌, sym, ap, ◌∙◌, subst}
use native.Mathlib.Omega.{arith}
use lib.ListN.{length, get_or, take}
use Rattle.definitions.specs.Grid.{Grid}
use Rattle.definitions.specs.Scan.{axes}
use Rattle.definitions.specs.Kinds.{variants}
use Rattle.definitions.specs.Placements.{Placement, compile}
use Rattle.shape.specs.CubicGrids.{grid_of as cubic}
use Rattle.shape.specs.Variants.{turned_by}
use Rattle.placements.specs.declared.counted.CountedTray.{CountedTray}
use Rattle.placements.specs.Merging.{grid_at}
use Rattle.placements.specs.Trays.{board_grid, lent_tray}
use Rattle.rows.specs.NumberedBoards.{board_of, order_of}
use Rattle.rows.specs.Rows.{spread, Appended}
use Rattle.rows.specs.declared.board.NumberedBoard.{NumberedBoard}
use Rattle.rows.proofs.RowLaws.{Reached, reached_more, reached_all, reached_room}
use Rattle.rows.proofs.BuildLaws.{placements_by, left_from, left_kind, left_kinds_end, placements_all, placements_room}
use Rattle.rows.proofs.CountedLaws.{lent-of, first_of, kind_number, kind_within, kind_below}
use Rattle.rows.proofs.building.build_rows.Goals as goal

-- ---- the placements of the kinds from k on
module _ (d : CountedTray) (b : NumberedBoard) where
  abbrev left : ℕ → List Placement
  left k = left_from (order_of b) (board_of b) d.tray.pieces d.tray.bytes.now d.first d.counts.kinds k

  module _ (same : board_of b ≡ board_grid d.tray) where
    -- the board's axes in order
    ordered : axes (board_grid d.tray).sides ≡ order_of b
    ordered = ap (λ (h : Grid). axes h.sides) (sym same) ∙ b.numbered.is_order

    all_is : left 0 ≡ (compile (lent_tray d.tray)).placements
    all_is =
        placements_all d.tray.pieces d.tray.board d.tray.bytes.now (lent-of d) d.first d.counts.kinds d.counted.are_kinds (order_of b) ordered (board_of b) same

    fits : (size : ℕ) → 8 * d.counts.placements ≤ size → 8 * (0 + length (left 0)) ≤ size
    fits size h =
        placements_room d.tray.pieces d.tray.board d.tray.bytes.now (lent-of d) d.first d.counts.kinds d.counted.are_kinds (order_of b) ordered (board_of b) same size
        (subst (λ (n : ℕ). 8 * n ≤ size) d.counted.counts.placements h)

  -- ---- kind k, by the grid of its first piece and the map numbers of its variants
  module _ (long : length d.first ≡ 16) (kinds : List ℕ) (is : kinds ≡ take d.counts.kinds d.first) (k : ℕ) (l : k < length kinds)
      (g : Grid) (here : g ≡ grid_at d.tray.pieces d.tray.bytes.now (get_or kinds k 0)) (ts : List ℕ)
      (each : turned_by (grid_at d.tray.pieces d.tray.bytes.now (get_or d.first k 0)) ts ≡ variants (grid_at d.tray.pieces d.tray.bytes.now (get_or d.first k 0))) where
    abbrev own : List Grid → List Placement
    own gs = placements_by (order_of b) (board_of b) k gs

    grid_is : g ≡ grid_at d.tray.pieces d.tray.bytes.now (get_or d.first k 0)
    grid_is = here ∙ ap (grid_at d.tray.pieces d.tray.bytes.now) (first_of d long kinds is k (kind_below d long kinds is k l))

    left_is : left k ≡ own (turned_by g ts) ++ left (k + 1)
    left_is =
        left_kind (order_of b) (board_of b) d.tray.pieces d.tray.bytes.now d.first d.counts.kinds (kind_within d long) k g (kind_below d long kinds is k l) grid_is
        ∙ ap (λ (gs : List Grid). own gs ++ left (k + 1)) (sym (subst (λ (h : Grid). turned_by h ts ≡ variants h) (sym grid_is) each))

    module _ {old work : List ℕ} {r : ℕ} (c : Reached old 0 work r (left k) (left 0)) where
      room : (size : ℕ) → 8 * (0 + length (left 0)) ≤ size → 8 * (r + length (own (turned_by g ts))) ≤ size
      room size h = reached_room c size h (own (turned_by g ts)) (left (k + 1)) left_is

      more : {later : List ℕ} {s : ℕ} → Appended work r later s (map spread (own (turned_by g ts))) → Reached old 0 later s (left (k + 1)) (left 0)
      more a = reached_more c (own (turned_by g ts)) (left (k + 1)) left_is a

pub rows_by-r-requires-clause-room : goal.rows_by-r-requires-clause-room
rows_by-r-requires-clause-room c =
    let a = c.args in
    let d = a.counted.now in
    let b = a.board.now in
    let l = c.loop-k in
    let kinds = c.kinds-first-items in
    let piece = c.piece_grid-piece in
    let turnings = c.turnings_of in
    subst (λ (n : ℕ). 8 * (l.r + length (placements_by (order_of b) (board_of b) l.k (turned_by (cubic piece.result) turnings.result.now))) ≤ n) (sym l.invariant.0)
    (room d b (omega arith) kinds.result.now kinds.ensures l.k c.loop-k-test.true (cubic piece.result) piece.ensures turnings.result.now turnings.ensures.2
    l.invariant.1 (length a.work.now) (fits d b c.requires.same (length a.work.now) c.requires.room))

pub loop-k-preserved : goal.loop-k-preserved
loop-k-preserved c =
    let a = c.args in
    let l = c.loop-k in
    let kinds = c.kinds-first-items in
    let piece = c.piece_grid-piece in
    let turnings = c.turnings_of in
    let r = c.rows_by-r in (
      r.auto.work ∙ l.invariant.0,
      more a.counted.now a.board.now (omega arith) kinds.result.now kinds.ensures l.k c.loop-k-test.true (cubic piece.result) piece.ensures turnings.result.now
          turnings.ensures.2 l.invariant.1 r.ensures,
    )

pub returns : goal.returns
returns c =
    let a = c.args in
    let d = a.counted.now in
    let b = a.board.now in
    let l = c.loop-k in
    let long : length d.first ≡ 16 = omega arith in
    let kinds = c.kinds-first-items in
    subst (λ (qs : List Placement). Appended a.work.now 0 l.work l.r (map spread qs)) (all_is d b c.requires.same)
    (reached_all l.invariant.1 (left_kinds_end (order_of b) (board_of b) d.tray.pieces d.tray.bytes.now d.first d.counts.kinds (kind_within d long) l.k
    (omega (arith, kind_number d long kinds.result.now kinds.ensures))))
