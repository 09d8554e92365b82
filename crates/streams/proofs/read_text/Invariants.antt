-- `streams::read_text` meets its contract. The loop's invariant: so many bytes are read, no more than fit, and they are the input's. The measure is how much
-- room is left. Assumes nothing.
use Prim.Native.Nat.{◌-◌, ◌≤◌}
use mathlib.Core.Path.{◌≡◌}
use lib.ListN.{length, take}
use Rattle.std.specs.Io.KnownBytes.{Consumes}
use Rattle.streams.proofs.read_text.Given as goal

abbrev pub invariant-loop-n : goal.invariant-loop-n
invariant-loop-n g l =
    (l.n ≤ length l.text) × (length l.text ≡ length l.initial.text)
    × Consumes (g.R.Read.remaining l.fn.input) (g.R.Read.remaining l.input) (take l.n l.text)

abbrev pub decreases-loop-n : goal.decreases-loop-n
decreases-loop-n g l =
    length l.text - l.n
