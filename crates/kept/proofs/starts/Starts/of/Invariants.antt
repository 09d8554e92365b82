use Prim.Native.Nat.{ℕ, ◌*◌, ◌≤◌, ◌<◌}
use mathlib.Core.Path.{◌≡◌}
use lib.ListN.{length, get_or}
use Rattle.kept.specs.Normal.{start_of}
use Rattle.kept.proofs.starts.Starts.of.Given as goal

-- the starts of the kinds before k stand there, and `at` is that of k
abbrev pub invariant-loop-k : goal.invariant-loop-k
invariant-loop-k l = record {
  long : length l.starts ≡ 17;
  few : l.at ≤ 128 * l.k;
  here : l.at ≡ start_of l.work l.rows l.k;
  before : (j : ℕ) → j < l.k → get_or l.starts j 0 ≡ start_of l.work l.rows j;
}
