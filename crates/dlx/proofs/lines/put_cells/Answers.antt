-- Each turn of the loop puts the item of a cell of the mask. Assumes nothing.
use Rattle.std.proofs.Common.{◌≤◌, ◌+◌, ◌*◌, List, ℕ, map, refl, sym, ap, ◌∙◌, arith}
use Rattle.std.proofs.lemmas.List.{take_all}
use Rattle.lists.specs.Lists.{keep}
use Rattle.definitions.specs.Dlx1.{cell_item}
use Rattle.masks.specs.Masks.{has}
use Rattle.texts.specs.Put.{Put}
use Rattle.definitions.specs.Dlx1.{parted}
use Rattle.dlx.proofs.LineLaws.{cells_to, cells_skip, put_cell_at}
use Rattle.texts.proofs.PutLaws.{put_by}
use Rattle.dlx.proofs.lines.put_cells.Goals as goal
use Rattle.dlx.proofs.lines.put_cells.Goals.{then-has_cell, else-has_cell}

pub loop-n-preserved : goal.loop-n-preserved
loop-n-preserved c =
    let l = c.loop-n in
    let j = c.if-has_cell in
    let p = has c.args.mask in
    let xs = c.args.scans.now in
    let most : j.end ≤ c.args.at + 5 * (l.n-index + 1) = elim j.branch [ then-has_cell w ↦ omega arith | else-has_cell w ↦ omega arith ] in
    let put : Put c.args.line.now c.args.at (cells_to p xs (l.n-index + 1)) j.line j.end =
    elim j.branch [
      | then-has_cell w ↦
          let z = w.put_next-end in
          put_by w.line-is w.end-is refl
          (put_cell_at p xs l.n-index c.loop-n-test.true (sym c.has_cell.ensures ∙ w.if-has_cell.true) l.invariant.2 z.ensures.0 (omega arith))
      | else-has_cell w ↦ put_by w.line-is w.end-is (cells_skip p xs l.n-index c.loop-n-test.true (sym c.has_cell.ensures ∙ w.if-has_cell.false)) l.invariant.2
    ] in
    (j.auto.line ∙ l.invariant.0, most, put)

pub returns : goal.returns
returns c =
    let l = c.loop-n in
    let xs = c.args.scans.now in
    (put_by refl refl (ap (λ (ns : List ℕ). parted (map cell_item (keep (has c.args.mask) ns))) (take_all l.n-index xs (omega arith))) l.invariant.2, omega arith)
