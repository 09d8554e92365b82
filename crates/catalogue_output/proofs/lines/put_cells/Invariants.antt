-- The first i cells stand there as digits.
use Rattle.std.proofs.Common.{◌≡◌, ◌+◌, map, length}
use Rattle.std.proofs.Math.Seq.{paste}
use Rattle.catalogue_output.proofs.lines.put_cells.Given as goal

abbrev pub invariant-loop-i : goal.invariant-loop-i
invariant-loop-i l = (length l.out ≡ length l.initial.out) × (l.out ≡ paste l.initial.out l.at (map (λ n. n + 48) l.cells) l.i)
