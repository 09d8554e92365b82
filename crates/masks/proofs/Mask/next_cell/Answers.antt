-- `masks::Mask::next_cell` meets its contract: the first cell from n on in a set is the first that the others leave open. Assumes nothing.
use borrow.Author.Rules.{rules}
use Rattle.masks.proofs.Trailing.{first_in}
use Rattle.masks.proofs.Mask.next_cell.Goals as goal

pub returns : goal.returns
returns c = let a = c.args in first_in a.self.low a.self.high a.n _ (search rules) (search rules) c.next_open.ensures
