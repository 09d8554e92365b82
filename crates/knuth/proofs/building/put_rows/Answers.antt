-- `put_rows` meets its contract. The loop's invariant: the nodes of the rows before r are laid. Assumes nothing.
use Prim.Native.Nat.{ℕ, ◌+◌}
use mathlib.Core.List.{List}
use mathlib.Core.Path.{◌≡◌, refl, sym, ◌∙◌, subst}
use native.Mathlib.Omega.{arith}
use Rattle.rows.specs.Systems.{system_in}
use Rattle.rows.proofs.ReadyLaws.{row_kind}
use Rattle.rows.proofs.StandingLaws.{stands}
use Rattle.knuth.specs.Matrix.{Laid, columns}
use Rattle.knuth.proofs.BuildingLaws.{nodes_to, stocked_yes, stocked_no, row_room, row_end, row_more, skip_end, skip_more, rows_none, rows_end, rows_laid}
use Rattle.knuth.proofs.building.put_rows.Goals as goal
use Rattle.knuth.proofs.building.put_rows.Goals.{then-copies_of-gt0, else-copies_of-gt0}

pub loop-r-init : goal.loop-r-init
loop-r-init c =
    let a = c.args in
    rows_none a.system.now.d a.system.now.work.now a.system.now.chart.now a.links.now (a.system.now.d.size + a.system.now.d.kinds) refl

pub copies_of-requires : goal.copies_of-requires
copies_of-requires c =
    let a = c.args in
    let k = row_kind a.system.now.d a.system.now.work.now a.system.now.chart.now (stands a.system.now).lawful c.loop-r.r c.loop-r-test.true in
    omega (arith, c.kind_at-kind.ensures)

pub put_row-x-requires : goal.put_row-x-requires
put_row-x-requires c =
    let a = c.args in
    let q = stands a.system.now in
    let l = c.loop-r in
    let h = c.loop-r-test.true in
    let y = stocked_yes a.system.now.d a.system.now.work.now a.system.now.chart.now q l.r h c.kind_at-kind.result c.kind_at-kind.ensures
    (omega (arith, c.copies_of.ensures)) in
    (h, row_room a.system.now.d a.system.now.work.now a.system.now.chart.now q l.r h y l.x l.invariant.0 c.requires)

pub loop-r-preserved : goal.loop-r-preserved
loop-r-preserved c =
    let a = c.args in
    let q = stands a.system.now in
    let l = c.loop-r in
    let h = c.loop-r-test.true in
    let k = c.kind_at-kind in
    let S = system_in a.system.now.d a.system.now.work.now a.system.now.chart.now in
    elim c.if-copies_of-gt0.branch [
      | then-copies_of-gt0 w ↦
          let y = stocked_yes a.system.now.d a.system.now.work.now a.system.now.chart.now q l.r h k.result k.ensures (omega (arith, w.if-copies_of-gt0.true, c.copies_of.ensures)) in (
            row_end a.system.now.d a.system.now.work.now a.system.now.chart.now q l.r h y l.x l.invariant.0 c.requires c.if-copies_of-gt0.x (w.x-is ∙ w.put_row-x.ensures.0),
            row_more a.system.now.d a.system.now.work.now a.system.now.chart.now q l.r h y l.x l.invariant.0 c.requires a.links.now l.links c.if-copies_of-gt0.links l.invariant.1
                (subst (λ (m : List ℕ). Laid l.links l.x m _) (sym w.links-is) w.put_row-x.ensures.1),
          )
      | else-copies_of-gt0 w ↦
          let n = stocked_no a.system.now.d a.system.now.work.now a.system.now.chart.now q l.r h k.result k.ensures (omega (arith, w.if-copies_of-gt0.false, c.copies_of.ensures)) in (
            skip_end a.system.now.d a.system.now.work.now a.system.now.chart.now q l.r h n c.if-copies_of-gt0.x (w.x-is ∙ l.invariant.0),
            skip_more a.system.now.d a.system.now.work.now a.system.now.chart.now q l.r h n a.links.now c.if-copies_of-gt0.links
                (subst (λ (m : List ℕ). Laid a.links.now (columns S) m (nodes_to S l.r)) (sym w.links-is) l.invariant.1),
          )
    ]

pub returns : goal.returns
returns c =
    let a = c.args in
    let l = c.loop-r in
    let e : l.r ≡ a.system.now.d.rows = omega arith in (
      rows_end a.system.now.d a.system.now.work.now a.system.now.chart.now l.r l.x e l.invariant.0,
      rows_laid a.system.now.d a.system.now.work.now a.system.now.chart.now l.r a.links.now l.links e l.invariant.1,
    )
