use Prim.Native.Nat.{ℕ, ◌≤◌, ◌<◌}
use mathlib.Core.List.{List}
use mathlib.Core.Path.{◌≡◌, sym, ap, ◌∙◌}
use native.Mathlib.Omega.{arith}
use lib.Dec.{eqb}
use lib.ListN.{length, take, get_or, length-set}
use Rattle.lists.specs.Lists.{how_many, before}
use Rattle.definitions.specs.Grid.{Grid}
use Rattle.definitions.specs.Maps.{map_of, map_grid}
use Rattle.definitions.specs.Kinds.{Form, same_form, smallest}
use Rattle.shape.specs.Coords.{as_sides}
use Rattle.shape.specs.CubicGrids.{grid_of}
use Rattle.shape.specs.declared.cubic_grid.CubicGrid.{CubicGrid}
use Rattle.shape.proofs.PlaceLaws.{volume_small}
use Rattle.placements.specs.declared.Pieces.{Pieces}
use Rattle.placements.specs.declared.counted.CountedTray.{CountedTray}
use Rattle.placements.specs.Merging.{grid_at, copies_at, moved_form, forms_of}
use Rattle.rows.specs.declared.chart.Kind.{Kind}
use Rattle.rows.proofs.CountedLaws.{first_of, kind_below, kind_number, kind_within}
use Rattle.rows.proofs.KindListLaws.{mirrored_by, partner_at, size_at, copies_fit, number_fits, kind_next, kinds_end}
use Rattle.rows.proofs.system.list_kinds.Goals as goal

-- a map that makes the smallest turned grid of a piece's mirrored grid tells the piece's partner
partner_is : (t : Pieces) (bytes first : List ℕ) (n i m : ℕ) (g : Grid) (kind : ℕ) → g ≡ grid_at t bytes i
    → map_grid (map_of m) g ≡ smallest (map_grid (map_of 26) g)
    → kind ≡ before (same_form (moved_form (map_of m) t bytes i)) (forms_of t bytes (take n first)) → kind ≡ partner_at t bytes first n i
partner_is t bytes first n i m g kind is made e =
    e ∙ ap (λ (f : Form). before (same_form f) (forms_of t bytes (take n first)))
    (mirrored_by t bytes i m (ap (map_grid (map_of m)) (sym is) ∙ made ∙ ap (λ (h : Grid). smallest (map_grid (map_of 26) h)) is))

-- what is written of a kind fits
module _ (d : CountedTray) (long : length d.first ≡ 16) where
  few_copies : (i : ℕ) → copies_at d.tray.pieces d.tray.bytes.now i < 256
  few_copies i =
      let h = copies_fit d.tray.pieces d.tray.board d.tray.bytes.now d.first d.counts.kinds d.tray.accepted d.counted.are_kinds (kind_within d long) i in
      omega arith

  few_kinds : (g : Form) → before (same_form g) (forms_of d.tray.pieces d.tray.bytes.now (take d.counts.kinds d.first)) < 256
  few_kinds g =
      let h = number_fits d.tray.pieces d.tray.board d.tray.bytes.now d.first d.counts.kinds d.tray.accepted d.counted.are_kinds (kind_within d long) g in
      omega arith

few_cells : (g : CubicGrid) → length g.cells.now ≤ 512
few_cells g = let v = (volume_small (as_sides g.sides) g.whole.short).1 in let e = g.whole.size in omega arith

pub overflow_cast-kinds : goal.overflow_cast-kinds
overflow_cast-kinds c =
    omega (arith, c.copies_of.ensures, few_copies c.args.counted.now (omega arith) (get_or c.kinds-first-items.result.now c.loop-k.k 0))

pub overflow_cast-kinds-in-loop-k : goal.overflow_cast-kinds-in-loop-k
overflow_cast-kinds-in-loop-k c =
    let t = c.args.counted.now.tray in
    omega (
      arith,
      c.kind_of.ensures,
      few_kinds c.args.counted.now (omega arith)
          (moved_form (map_of c.smallest_of-m.result.0) t.pieces t.bytes.now (get_or c.kinds-first-items.result.now c.loop-k.k 0)),
    )

pub overflow_cast-kinds-in-loop-k-2 : goal.overflow_cast-kinds-in-loop-k-2
overflow_cast-kinds-in-loop-k-2 c = omega (arith, c.count_filled.ensures.1, few_cells c.piece_grid-piece.result)

pub invariant_of-kinds : goal.invariant_of-kinds
invariant_of-kinds c = omega (arith, c.count_filled.ensures.1, few_cells c.piece_grid-piece.result)

pub loop-k-preserved : goal.loop-k-preserved
loop-k-preserved c =
    let d = c.args.counted.now in
    let t = d.tray in
    let l = c.loop-k in
    let long : length d.first ≡ 16 = omega arith in
    let kinds = c.kinds-first-items in
    let within = kind_within d long in
    let number = kind_number d long kinds.result.now kinds.ensures in
    let i = get_or kinds.result.now l.k 0 in
    let is = first_of d long kinds.result.now kinds.ensures l.k (kind_below d long kinds.result.now kinds.ensures l.k c.loop-k-test.true) in
    let g = grid_of c.piece_grid-piece.result in
    let here = c.piece_grid-piece.ensures in
    let partner = partner_is t.pieces t.bytes.now d.first d.counts.kinds i c.smallest_of-m.result.0 g c.kind_of.result here c.smallest_of-m.ensures.1
    c.kind_of.ensures in
    let entry : Kind = record {
      copies = c.copies_of.result;
      partner = c.kind_of.result;
      size = c.count_filled.result;
      few = omega (arith, c.count_filled.ensures.1, few_cells c.piece_grid-piece.result);
    } in (
      length-set l.kinds l.k _ ∙ l.invariant.0,
      kind_next t.pieces t.board t.bytes.now d.first d.counts.kinds t.accepted d.counted.are_kinds within l.kinds l.k _ (omega arith) l.invariant.1
          (c.copies_of.ensures ∙ ap (copies_at t.pieces t.bytes.now) is)
          (partner ∙ ap (partner_at t.pieces t.bytes.now d.first d.counts.kinds) is)
          (c.count_filled.ensures.0 ∙ ap (λ (h : Grid). how_many (eqb 1) h.cells) here ∙ ap (size_at t.pieces t.bytes.now) is),
    )

pub returns : goal.returns
returns c =
    let d = c.args.counted.now in
    let t = d.tray in
    let l = c.loop-k in
    let long : length d.first ≡ 16 = omega arith in
    let kinds = c.kinds-first-items in
    let number = kind_number d long kinds.result.now kinds.ensures in
    kinds_end t.pieces t.board t.bytes.now d.first d.counts.kinds t.accepted d.counted.are_kinds (kind_within d long) l.kinds
    (λ k h. l.invariant.1 k (omega (arith, c.loop-k-test.false)))
