use Rattle.std.proofs.Common.{◌≡◌, length}
use Rattle.files.specs.Lines.{all_pieces}
use Rattle.files.proofs.lines.are_pieces.Given as goal

abbrev pub invariant-loop-line : goal.invariant-loop-line
invariant-loop-line l = all_pieces l.rest ≡ all_pieces l.text

abbrev pub decreases-loop-line : goal.decreases-loop-line
decreases-loop-line l = length l.rest
