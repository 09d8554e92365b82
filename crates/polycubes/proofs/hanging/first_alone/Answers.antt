-- `first_alone` meets its contract. Assumes nothing.
use Rattle.masks.specs.Masks.{has}
use Rattle.polycubes.proofs.SetLaws.{first_within, first_kept}
use Rattle.polycubes.proofs.hanging.first_alone.Goals as goal

pub returns : goal.returns
returns c =
    let p = has c.args.set in
    let r = c.next_cell.result in
    record {
      within = first_within p r c.next_cell.ensures (has c.empty.result) (has c.with_cell.result) c.empty.ensures c.with_cell.ensures;
      first = first_kept p r c.next_cell.ensures (has c.empty.result) (has c.with_cell.result) c.empty.ensures c.with_cell.ensures;
    }
