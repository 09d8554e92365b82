use mathlib.Core.Bool.{cond}
use Prim.Native.Nat.{◌-◌, ◌<◌}
use lib.Dec.{eqb}
use Rattle.links.specs.Cover.{Reduced, Holds, Open}
use Rattle.links.proofs.Cover.{Walk}
use Rattle.links.proofs.steps.purge_column.Given as goal

abbrev pub invariant-loop-k : goal.invariant-loop-k
invariant-loop-k l = (w : Reduced) → Holds w l.initial.links → l.c < w.t.cols → Open w l.c → Walk w l.c l.initial.links l.links l.k

abbrev pub decreases-loop-k : goal.decreases-loop-k
decreases-loop-k l = cond (eqb l.k l.c) 0 (4096 - l.k)
