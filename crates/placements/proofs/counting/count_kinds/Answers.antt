-- `placements::counting::count_kinds` meets its contract. The loop's invariant: what is counted and the counts of the kinds from k on make all, and the
-- variants of the kinds before k stand in the slice. Assumes nothing.
use Rattle.std.proofs.Common.{ℕ, List, ◌+◌, ◌*◌, ◌≤◌, ◌<◌, ◌≡◌, ◌∙◌, sym, ap, subst, get_or, length, arith}
use lib.Dec.{eqb}
use lib.ListN.{length-set}
use lib.Seq.{take-length}
use Rattle.lists.specs.Lists.{how_many}
use Rattle.definitions.specs.Grid.{Grid}
use Rattle.definitions.specs.Refusals.{grid_of}
use Rattle.shape.specs.CubicGrids.{grid_of as cubic}
use Rattle.shape.specs.Scans.{as_order}
use Rattle.placements.specs.Merging.{Ordered, grid_at}
use Rattle.placements.specs.Counting.{OnBoard, placements_in, AreVariants}
use Rattle.placements.proofs.MergingLaws.{piece-at}
use Rattle.placements.proofs.CountingLaws.{placements_at_piece, placements_counted, links_counted}
use Rattle.placements.proofs.CountingLaws.{links_some, links_none, links_small, whole_few, counted_none, counted_next, counted_all, variants_next}
use Rattle.placements.proofs.TrayLaws.{lent, few_pieces, sound_pieces}
use Rattle.placements.proofs.counting.count_kinds.Goals as goal
use Rattle.placements.proofs.counting.count_kinds.Goals.{Start, In-loop-k, After-count_piece-rows, After-count_filled, then-copies_of-gt0, else-copies_of-gt0}

-- there are few kinds
few_kinds : (c : Start) → length c.args.kinds.now ≤ 16
few_kinds c = let few = few_pieces c.args.tray.now in omega (arith, c.requires.kinds.few)

-- of a turn: the number of the kind's piece, and how many rows and links it has at most
is_piece : (c : In-loop-k) → get_or c.args.kinds.now c.loop-k.k 0 < c.args.tray.now.pieces.count
is_piece c =
    let t = c.args.tray.now in
    let kinds = c.args.kinds.now in
    piece-at t.pieces t.bytes.now kinds (subst (Ordered t.pieces t.bytes.now) (take-length kinds) c.requires.kinds.ordered) c.loop-k.k c.loop-k-test.true

few_rows : (c : After-count_piece-rows) → c.count_piece-rows.result.1 ≤ 3072
few_rows c = omega (arith, c.count_piece-rows.ensures.2, c.args.board.now.on_board.few)

few_links : (c : After-count_filled) → c.count_piece-rows.result.1 ≤ 3072 → c.count_piece-rows.result.1 * (1 + c.count_filled.result) ≤ 1575936
few_links c few =
    let grid = c.piece_grid-piece.result in
    links_small c.count_piece-rows.result.1 c.count_filled.result few (whole_few grid.sides grid.cells.now c.count_filled.result grid.whole c.count_filled.ensures.1)

pub invariant_of-pieces : goal.invariant_of-pieces
invariant_of-pieces c = record { many = omega arith; sound = sound_pieces c.args.tray.now; smallest = c.requires.smallest }

pub loop-k-init : goal.loop-k-init
loop-k-init c =
    let few = few_kinds (goal.at.loop-k-init c).Start in
    (counted_none _ _ _ _ _ (omega (arith, c.args.board.now.on_board.few)), omega arith, λ j l. absurd (omega arith))

pub offset_bounds-turnings-k : goal.offset_bounds-turnings-k
offset_bounds-turnings-k c = let few = few_kinds (goal.at.offset_bounds-turnings-k c).Start in omega arith

pub bounds-turnings-k : goal.bounds-turnings-k
bounds-turnings-k c = let few = few_kinds (goal.at.bounds-turnings-k c).Start in omega arith

pub overflow_add-placements : goal.overflow_add-placements
overflow_add-placements c =
    let at = goal.at.overflow_add-placements c in
    let few = few_kinds at.Start in
    let rows = few_rows at.After-count_piece-rows in
    let i = c.loop-k.invariant.0 in
    omega (arith, i.within, i.few)

pub overflow_mul-links : goal.overflow_mul-links
overflow_mul-links c =
    let at = goal.at.overflow_mul-links c in
    let few = few_links at.After-count_filled (few_rows at.After-count_piece-rows) in
    omega arith

pub overflow_add-links-then-copies_of-gt0-2 : goal.overflow_add-links-then-copies_of-gt0-2
overflow_add-links-then-copies_of-gt0-2 c =
    let at = goal.at.overflow_add-links-then-copies_of-gt0-2 c in
    let few = few_kinds at.Start in
    let links = few_links at.After-count_filled (few_rows at.After-count_piece-rows) in
    let i = c.loop-k.invariant.0 in
    omega (arith, i.within, i.few_links)

pub loop-k-preserved : goal.loop-k-preserved
loop-k-preserved c =
    let at = goal.at.loop-k-preserved c in
    let a = c.args in
    let t = a.tray.now in
    let kinds = a.kinds.now in
    let k = c.loop-k.k in
    let i = get_or kinds k 0 in
    let rows = c.count_piece-rows in
    let copies = c.copies_of in
    let o = as_order a.board.now.order in
    let b = cubic a.board.now.grid in
    let few = few_rows at.After-count_piece-rows in
    let is = c.piece_grid-piece.ensures in
    let grid = c.piece_grid-piece.result in
    let found : rows.result.1 ≡ placements_at_piece o b t.pieces t.bytes.now i = rows.ensures.1 ∙ ap (placements_in o b) is in
    let next = counted_next _ _ _ _ _ (omega arith) _ _ _ c.loop-k.invariant.0 c.loop-k-test.true rows.result.1 in (
      elim c.if-copies_of-gt0.branch [
        | then-copies_of-gt0 v ↦
            let n = v.count_filled.result in
            let e : n ≡ how_many (eqb 1) (grid_at t.pieces t.bytes.now i).cells = v.count_filled.ensures.0 ∙ ap (λ (g : Grid). how_many (eqb 1) g.cells) is in
            next (rows.result.1 * (1 + n)) c.if-copies_of-gt0.links found few
            (sym (links_some o b t.pieces t.bytes.now i rows.result.1 copies.result found copies.ensures n e v.if-copies_of-gt0.true))
            (links_small rows.result.1 n few (whole_few grid.sides grid.cells.now n grid.whole v.count_filled.ensures.1)) v.links-is
        | else-copies_of-gt0 v ↦
            next 0 c.if-copies_of-gt0.links found few
            (sym (links_none o b t.pieces t.bytes.now i rows.result.1 copies.result found copies.ensures v.if-copies_of-gt0.false)) (omega arith)
            (v.links-is ∙ omega arith)
      ],
      length-set c.loop-k.turnings k rows.result.0 ∙ c.loop-k.invariant.1,
      variants_next (λ j. grid_at t.pieces t.bytes.now (get_or kinds j 0)) c.loop-k.turnings k (let few = few_kinds at.Start in let long = c.loop-k.invariant.1 in omega arith) c.loop-k.invariant.2
          rows.result.0 (subst (λ (g : Grid). AreVariants g rows.result.0) is rows.ensures.0),
    )

pub returns-clause-counted : goal.returns-clause-counted
unfolding grid_of
returns-clause-counted c =
    let a = c.args in
    let t = a.tray.now in
    let bytes = t.bytes.now in
    let kinds = a.kinds.now in
    let places = a.board.now.places.now in
    let o = as_order a.board.now.order in
    let on = subst (λ (g : Grid). OnBoard o g places (length places)) c.requires.board a.board.now.on_board in
    let all = counted_all _ _ _ _ _ (omega arith) _ _ _ c.loop-k.invariant.0 c.loop-k-test.false in
    record {
      on_board = subst (λ (o : List ℕ). OnBoard o (grid_of bytes t.board) places (length places)) (sym on.is_order) on;
      are_kinds = c.requires.kinds;
      each_kind = λ j h. c.loop-k.invariant.2 j (omega (arith, c.loop-k-test.false));
      counts = record {
        placements = all.0 ∙ placements_counted t.pieces t.board bytes (lent t) (omega arith) kinds (length kinds) c.requires.kinds (omega arith) o places (length places) on
            _ c.requires.board;
        links = all.1 ∙ links_counted t.pieces t.board bytes (lent t) (omega arith) kinds (length kinds) c.requires.kinds (omega arith) o places (length places) on
            _ c.requires.board;
      };
    }
