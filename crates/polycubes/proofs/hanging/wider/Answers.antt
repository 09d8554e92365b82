-- `wider` meets its contract: a round has no place from the volume on. Assumes nothing.
use mathlib.Core.Path.{sym, ap, ◌∙◌}
use native.Mathlib.Omega.{arith}
use Rattle.masks.specs.Masks.{has}
use Rattle.shape.specs.Coords.{as_sides}
use Rattle.shape.proofs.GridTestLaws.{short_cells}
use Rattle.polycubes.specs.Hanging.{wider_at}
use Rattle.polycubes.proofs.SetLaws.{up_to_none, up_to_with, up_to_without, up_to_all}
use Rattle.polycubes.proofs.HangingLaws.{wider_inside}
use Rattle.polycubes.proofs.hanging.wider.Goals as goal
use Rattle.polycubes.proofs.hanging.wider.Goals.{then-is_in_wider, else-is_in_wider}

pub loop-j-init : goal.loop-j-init
loop-j-init c = c.empty-wide.ensures ∙ up_to_none _

pub loop-j-preserved : goal.loop-j-preserved
loop-j-preserved c =
    let a = c.args in
    let round = wider_at (as_sides a.s) (has a.filled) (has a.got) in
    let l = c.loop-j in
    let few = short_cells (as_sides a.s) c.requires.0 in
    elim c.if-is_in_wider.branch [
      | then-is_in_wider w ↦
          ap has w.wide-is ∙ w.with_cell-wide.ensures
          ∙ up_to_with round l.j (has l.wide) l.invariant (omega (arith, few, c.volume_of-j-end.ensures)) (sym c.is_in_wider.ensures ∙ w.if-is_in_wider.true)
      | else-is_in_wider w ↦ ap has w.wide-is ∙ l.invariant ∙ up_to_without round l.j (sym c.is_in_wider.ensures ∙ w.if-is_in_wider.false)
    ]

pub returns : goal.returns
returns c =
    let a = c.args in
    let s = as_sides a.s in
    c.loop-j.invariant
    ∙ up_to_all (wider_at s (has a.filled) (has a.got)) c.loop-j.j
    (λ k e. omega (arith, wider_inside s (has a.filled) (has a.got) k e, short_cells s c.requires.0, c.volume_of-j-end.ensures))
