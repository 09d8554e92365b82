-- `masks::Mask::union` meets its contract: a bit of `|` is set where it is set in one of the words. Assumes nothing.
use Rattle.masks.proofs.MaskLaws.{hit2_or}
use Rattle.masks.proofs.Mask.union.Goals as goal

pub returns : goal.returns
returns c =
    let a = c.args in
    hit2_or a.self.low a.self.high a.other.low a.other.high
