use Prim.Native.Nat.{ℕ}
use mathlib.Core.Path.{◌≡◌}
use lib.ListN.{get_or}
use Rattle.links.specs.Links.{Still, Matrix, LawfulMatrix, Fields}
use Rattle.links.specs.Build.{Headed}
use Rattle.links.proofs.steps.link_heads.Given as goal

abbrev pub invariant-loop-i : goal.invariant-loop-i
invariant-loop-i l = ((t : Matrix) → LawfulMatrix t → Fields t l.initial.links → l.cols ≡ t.cols → Headed t l.i l.links) ×
    ((k : ℕ) → Still k → get_or l.links k 0 ≡ get_or l.initial.links k 0)
