use Prim.Native.Nat.{ℕ, ◌<◌}
use mathlib.Core.Path.{◌≡◌}
use mathlib.Core.List.{List}
use Rattle.links.specs.Cover.{Reduced, Holds, Open, cover}
use Rattle.links.proofs.Cover.{Unwalk}
use Rattle.links.proofs.steps.unpurge_column.Given as goal

abbrev pub invariant-loop-k : goal.invariant-loop-k
invariant-loop-k l = (w : Reduced) (m : List ℕ) → Holds w m → l.c < w.t.cols → Open w l.c → l.initial.links ≡ cover w l.c m
    → Unwalk w l.c m l.links l.k

abbrev pub decreases-loop-k : goal.decreases-loop-k
decreases-loop-k l = l.k
