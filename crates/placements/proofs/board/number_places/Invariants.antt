use Rattle.placements.proofs.FittingLaws.{NumberedFrom}
use Rattle.placements.proofs.board.number_places.Given as goal

abbrev pub invariant-loop-k : goal.invariant-loop-k
invariant-loop-k l = NumberedFrom l.places l.k l.scans
