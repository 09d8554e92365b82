use Prim.Native.Nat.{ℕ, ◌≤◌}
use mathlib.Core.Path.{◌≡◌}
use lib.ListN.{get_or}
use Rattle.links.specs.Links.{Still, Matrix, LawfulMatrix}
use Rattle.links.specs.Build.{Partial}
use Rattle.links.proofs.steps.link_nodes.Given as goal

abbrev pub invariant-loop-x : goal.invariant-loop-x
invariant-loop-x l = (l.x ≤ l.nodes)
    × ((t : Matrix) → LawfulMatrix t → Partial t l.cols l.initial.links → l.cols ≡ t.cols → l.nodes ≡ t.nodes → Partial t l.x l.links)
    × ((k : ℕ) → Still k → get_or l.links k 0 ≡ get_or l.initial.links k 0)
