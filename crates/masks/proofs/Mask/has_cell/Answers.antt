-- `masks::Mask::has_cell` meets its contract: it reads the bit that `has` speaks of, of the same word; no number from 128 on is in a set. Assumes nothing.
use mathlib.Core.Path.{sym}
use native.Mathlib.Omega.{arith}
use Rattle.masks.specs.Masks.{hit}
use Rattle.masks.proofs.MaskLaws.{hit2_low, hit2_high, beyond}
use Rattle.masks.proofs.Mask.has_cell.Goals as goal

pub returns-then-n-lt64 : goal.returns-then-n-lt64
unfolding hit
returns-then-n-lt64 c =
    let a = c.args in
    sym (hit2_low a.self.low a.self.high a.n (omega arith))

pub returns-then-n-lt128 : goal.returns-then-n-lt128
unfolding hit
returns-then-n-lt128 c =
    let a = c.args in
    sym (hit2_high a.self.low a.self.high a.n (omega arith))

pub returns-else-n-lt128 : goal.returns-else-n-lt128
returns-else-n-lt128 c =
    let a = c.args in
    sym (beyond a.self.low a.self.high a.n (omega arith) (omega arith))
