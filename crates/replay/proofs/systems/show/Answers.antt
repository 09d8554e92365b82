-- `show` meets its contract: what is prepared is a row system that stands in the slices. Assumes nothing.
use Rattle.solver.specs.Preparing.{Prepares}
use Rattle.solver.proofs.PreparedLaws.{stands_sized}
use Rattle.replay.proofs.systems.show.Goals as goal

pub invariant_of-system : goal.invariant_of-system
unfolding Prepares
invariant_of-system g c =
    let s = c.in-Ok.ensures in
    record { sized = stands_sized _ _ _ _ _ _ _ _ _ _ s; ready = ∣ s.ready ∣₁ }
