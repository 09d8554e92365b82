use Rattle.placements.proofs.StrippingLaws.{StrippedTo}
use Rattle.placements.proofs.stripping.strip_pieces.Given as goal

abbrev pub invariant-loop-i : goal.invariant-loop-i
invariant-loop-i l = StrippedTo l.pieces l.bytes l.initial.out l.i l.made l.out
