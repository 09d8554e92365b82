use Rattle.std.proofs.Common.{◌≡◌, ◌/◌, length}
use Rattle.polycubes.specs.Emission.{emitted_of}
use Rattle.polycubes.proofs.BoxLaws.{before_place}
use Rattle.polycubes.proofs.WalkLaws.{after}
use Rattle.polycubes.proofs.walk.list.Given as goal

-- the boxes before place i are listed
abbrev pub invariant-loop-i : goal.invariant-loop-i
invariant-loop-i l =
    emitted_of l.s l.entries ≡ after (length l.fn.entries / 21) (before_place l.n l.i) (emitted_of l.fn.e l.fn.entries)
