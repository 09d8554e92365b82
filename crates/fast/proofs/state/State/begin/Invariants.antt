use Prim.Native.Nat.{ℕ, ◌<◌}
use mathlib.Core.Path.{◌≡◌}
use lib.ListN.{length, get_or}
use Rattle.rows.specs.Charts.{kind_copies}
use Rattle.fast.proofs.state.State.begin.Given as goal

-- the copies of the kinds before k stand there
abbrev pub invariant-loop-k : goal.invariant-loop-k
invariant-loop-k l = (length l.left ≡ 16) × ((j : ℕ) → j < l.k → get_or l.left j 0 ≡ kind_copies l.chart.kinds j)
