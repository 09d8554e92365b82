-- `list` meets its contract: the boxes are walked by the places of the cells that their sides less one are. Assumes nothing.
use Prim.Native.Nat.{◌/◌, ◌≤◌}
use mathlib.Core.Path.{◌≡◌, sym, ap, ap₂, ◌∙◌, subst}
use native.Mathlib.Omega.{arith}
use lib.ListN.{length}
use Rattle.lists.proofs.TestLaws.{holds}
use Rattle.definitions.specs.Grid.{Sides, volume}
use Rattle.definitions.specs.Catalogue.{cube, box_to, in_box_of, is_needed}
use Rattle.theorems.proofs.EmissionLaws.{emits_none}
use Rattle.shape.specs.Coords.{as_cell}
use Rattle.shape.proofs.GridTestLaws.{short_cells}
use Rattle.polycubes.specs.Emission.{emitted_of}
use Rattle.polycubes.proofs.BoxLaws.{all_boxes, before_place, box_by, box_listed, box_passed, small_box}
use Rattle.polycubes.proofs.WalkLaws.{after, after_same}
use Rattle.polycubes.proofs.walk.list.Goals as goal
use Rattle.polycubes.proofs.walk.list.Goals.{After-volume_of-i-end, then-is_needed, else-is_needed}

volume_is : (c : After-volume_of-i-end) → c.volume_of-i-end.result ≡ volume (cube c.args.n)
volume_is c =
    let h = c.requires in
    c.volume_of-i-end.ensures.0 ∙ short_cells (cube c.args.n) (record { a = omega arith; b = omega arith; c = omega arith })

pub loop-i-init : goal.loop-i-init
loop-i-init c = sym (emits_none _ _)

pub list_box-s-requires : goal.list_box-s-requires
list_box-s-requires c =
    let n = c.args.n in
    let i = c.loop-i.i in
    let few = c.requires in
    let inside = c.cell_at-u.ensures.1 in
    let h = volume_is (goal.at.list_box-s-requires c).After-volume_of-i-end in
    let is : box_to (as_cell c.cell_at-u.result) ≡ box_by n i = ap box_to c.cell_at-u.ensures.0 in
    let needed = holds (is_needed n (box_by n i)) (ap (is_needed n) (sym is) ∙ sym c.is_needed.ensures ∙ c.if-is_needed.true) in (
      record { a = omega (arith, inside.0); b = omega (arith, inside.1); c = omega (arith, inside.2) },
      subst (λ (s : Sides). volume s ≤ 18) (sym is) (small_box n few i (omega (arith, c.loop-i-test.true)) needed),
    )

pub loop-i-preserved : goal.loop-i-preserved
loop-i-preserved c =
    let n = c.args.n in
    let i = c.loop-i.i in
    let old = emitted_of c.args.e c.args.entries.now in
    let capacity = length c.args.entries.now / 21 in
    let is : box_to (as_cell c.cell_at-u.result) ≡ box_by n i = ap box_to c.cell_at-u.ensures.0 in
    let told = c.is_needed.ensures ∙ ap (is_needed n) is in
    elim c.if-is_needed.branch [
      | then-is_needed w ↦
          ap₂ emitted_of w.s-is w.entries-is ∙ w.list_box-s.ensures
          ∙ (λ j. after (c.loop-i.auto.entries j / 21) (in_box_of n (is j)) (c.loop-i.invariant j))
          ∙ box_listed n i capacity old (sym w.if-is_needed.true ∙ told)
      | else-is_needed w ↦
          ap₂ emitted_of w.s-is w.entries-is ∙ c.loop-i.invariant ∙ box_passed n i capacity old (sym w.if-is_needed.false ∙ told)
    ]

pub returns : goal.returns
returns c =
    let n = c.args.n in
    let old = emitted_of c.args.e c.args.entries.now in
    let v = volume_is (goal.at.returns c).After-volume_of-i-end in
    let z : c.loop-i.i ≡ volume (cube n) = omega (arith, c.loop-i-test.false, c.loop-i.auto.i-end) in
    c.loop-i.invariant ∙ after_same _ old (ap (before_place n) z ∙ all_boxes n)
