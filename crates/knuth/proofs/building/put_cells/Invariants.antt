use Prim.Native.Nat.{◌+◌}
use mathlib.Core.Path.{◌≡◌}
use Rattle.lists.specs.Lists.{below, how_many}
use Rattle.masks.specs.Masks.{has}
use Rattle.knuth.specs.Matrix.{Laid}
use Rattle.knuth.proofs.LaidLaws.{cell_nodes}
use Rattle.knuth.proofs.building.put_cells.Given as goal

abbrev pub invariant-loop-c : goal.invariant-loop-c
invariant-loop-c l = (l.at ≡ l.kind.first + 1 + how_many (has l.mask) (below l.c))
    × Laid l.initial.links (l.kind.first + 1) l.links (cell_nodes (has l.mask) l.kind.first l.kind.end l.kind.row l.c)
