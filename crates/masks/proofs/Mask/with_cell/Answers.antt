-- `masks::Mask::with_cell` meets its contract: `1 << k` has the bit k alone, in the word that has the number; what is no cell changes nothing. Assumes nothing.
use mathlib.Core.Path.{sym, ◌∙◌}
use native.Mathlib.Omega.{arith}
use Rattle.masks.proofs.MaskLaws.{cell_low, cell_high, cell_taken, cell_left}
use Rattle.masks.proofs.Mask.with_cell.Goals as goal

pub returns-then-n-lt64 : goal.returns-then-n-lt64
returns-then-n-lt64 c =
    let a = c.args in
    cell_low a.self.low a.self.high a.n (omega arith) ∙ sym (cell_taken a.n _ _ (omega arith))

pub returns-then-n-lt128 : goal.returns-then-n-lt128
returns-then-n-lt128 c =
    let a = c.args in
    cell_high a.self.low a.self.high a.n (omega arith) (omega arith) ∙ sym (cell_taken a.n _ _ (omega arith))

pub returns-else-n-lt128 : goal.returns-else-n-lt128
returns-else-n-lt128 c = let a = c.args in sym (cell_left a.n _ _ (omega arith))
