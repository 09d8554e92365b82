-- `masks::Mask::meets` meets its contract: a word's `&` is 0 where no bit is set in both. Assumes nothing.
use native.Mathlib.Omega.{arith}
use Rattle.masks.proofs.MaskLaws.{meets_low, meets_high}
use Rattle.masks.proofs.Mask.meets.Goals as goal

pub returns-then-self-other-ne0 : goal.returns-then-self-other-ne0
returns-then-self-other-ne0 c =
    let a = c.args in
    meets_low a.self.low a.self.high a.other.low a.other.high (omega arith) (omega arith) c.if-self-other-ne0.true

pub returns-else-self-other-ne0 : goal.returns-else-self-other-ne0
returns-else-self-other-ne0 c =
    let a = c.args in
    meets_high a.self.low a.self.high a.other.low a.other.high (omega arith) (omega arith) c.if-self-other-ne0.false
