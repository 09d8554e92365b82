use Prim.Native.Nat.{◌<◌}
use mathlib.Core.Path.{ap, ◌∙◌}
use native.Mathlib.Omega.{arith}
use lib.ListN.{take, get_or, length-set}
use Rattle.lists.specs.Lists.{before}
use Rattle.definitions.specs.Maps.{map_of}
use Rattle.definitions.specs.Kinds.{Form, same_form}
use Rattle.definitions.specs.declared.Record.{Record}
use Rattle.placements.specs.Merging.{moved_form, forms_of}
use Rattle.placements.proofs.MergingLaws.{small_form}
use Rattle.rows.specs.declared.chart.Owned.{Owned}
use Rattle.rows.proofs.CountedLaws.{lent-of, kind_within}
use Rattle.rows.proofs.KindListLaws.{count_fits, number_fits, piece_next, pieces_end}
use Rattle.rows.proofs.system.list_pieces.Goals as goal

pub bounds-counted-i : goal.bounds-counted-i
bounds-counted-i c = omega (arith, c.count_pieces-i-end.ensures.0, (lent-of c.args.counted.now).few)

pub get-requires : goal.get-requires
get-requires c = omega (arith, c.count_pieces-i-end.ensures.0, (lent-of c.args.counted.now).few)

pub offset_bounds-pieces-i : goal.offset_bounds-pieces-i
offset_bounds-pieces-i c = omega (arith, c.count_pieces-i-end.ensures.0, (lent-of c.args.counted.now).few)

pub bounds-pieces-i : goal.bounds-pieces-i
bounds-pieces-i c = omega (arith, c.count_pieces-i-end.ensures.0, (lent-of c.args.counted.now).few)

pub overflow_cast-pieces : goal.overflow_cast-pieces
overflow_cast-pieces c =
    let d = c.args.counted.now in
    let t = d.tray in
    omega (
      arith,
      c.kind_of.ensures,
      number_fits t.pieces t.board t.bytes.now d.first d.counts.kinds t.accepted d.counted.are_kinds (kind_within d (omega arith))
          (moved_form (map_of (get_or d.small c.loop-i.i 0)) t.pieces t.bytes.now c.loop-i.i),
    )

pub overflow_cast-pieces-in-loop-i : goal.overflow_cast-pieces-in-loop-i
overflow_cast-pieces-in-loop-i c =
    let d = c.args.counted.now in
    let t = d.tray in
    omega (
      arith,
      ap (λ (r : Record). r.count) c.get.ensures,
      count_fits t.pieces t.board t.bytes.now d.first d.counts.kinds t.accepted d.counted.are_kinds (kind_within d (omega arith)) c.loop-i.i
          (omega (arith, c.count_pieces-i-end.ensures.0)),
    )

pub loop-i-preserved : goal.loop-i-preserved
loop-i-preserved c =
    let d = c.args.counted.now in
    let t = d.tray in
    let l = c.loop-i in
    let h : l.i < t.pieces.count = omega (arith, c.count_pieces-i-end.ensures.0) in
    let kind = c.kind_of.ensures ∙ ap (λ (f : Form). before (same_form f) (forms_of t.pieces t.bytes.now (take d.counts.kinds d.first)))
    (small_form t.pieces t.bytes.now d.small d.smallest l.i h) in
    let entry : Owned = record { kind = c.kind_of.result; count = c.get.result.count } in (
      length-set l.pieces l.i entry ∙ l.invariant.0,
      piece_next t.pieces t.board t.bytes.now d.first d.counts.kinds t.accepted d.counted.are_kinds (kind_within d (omega arith)) l.pieces l.i entry
          (omega (arith, (lent-of d).few)) l.invariant.1 kind (ap (λ (r : Record). r.count) c.get.ensures),
    )

pub returns : goal.returns
returns c =
    let d = c.args.counted.now in
    let t = d.tray in
    let l = c.loop-i in
    let n = c.count_pieces-i-end.ensures in
    pieces_end t.pieces t.board t.bytes.now d.first d.counts.kinds t.accepted d.counted.are_kinds (kind_within d (omega arith))
    (n.1 ∙ n.0) l.pieces (λ i h. l.invariant.1 i (omega (arith, n.0)))
