use Rattle.std.proofs.Common.{◌≡◌, ◌-◌, map, length}
use Rattle.std.proofs.Math.Seq.{paste}
use Rattle.files.proofs.grids.GridText.put_cells.Given as goal

abbrev pub invariant-loop-i : goal.invariant-loop-i
invariant-loop-i l = (length l.cells ≡ length l.initial.cells) × (l.cells ≡ paste l.initial.cells l.at (map (λ x. x - 48) l.self.cells.now) l.i)
