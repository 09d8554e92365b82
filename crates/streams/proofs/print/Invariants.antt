-- The loop's invariant: `Going`, and each slice is as long as it was. The measure is how many steps can follow. Assumes nothing.
use Rattle.std.proofs.Common.{◌≡◌, length}
use Rattle.output.specs.Stretches.{left}
use Rattle.streams.proofs.PrintLaws.{Going}
use Rattle.streams.proofs.print.Given as goal

abbrev pub invariant-loop-further : goal.invariant-loop-further
invariant-loop-further g l =
    Going (g.W.Write.contents l.fn.writer) (g.W.Write.contents l.writer) l.text l.cells l.answers l.work l.links l.out l.progress
    × (length l.cells ≡ length l.initial.cells) × (length l.answers ≡ length l.initial.answers)
    × (length l.work ≡ length l.initial.work) × (length l.links ≡ length l.initial.links) × (length l.out ≡ length l.initial.out)

abbrev pub decreases-loop-further : goal.decreases-loop-further
decreases-loop-further g l = left l.progress
