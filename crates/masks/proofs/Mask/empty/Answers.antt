-- `masks::Mask::empty` meets its contract: no bit of the word 0 is set. Assumes nothing.
use Rattle.masks.proofs.MaskLaws.{hit2_zero}
use Rattle.masks.proofs.Mask.empty.Goals as goal

pub returns : goal.returns
returns c = hit2_zero
