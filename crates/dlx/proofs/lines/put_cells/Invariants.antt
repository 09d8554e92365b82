-- The items of the mask's cells at the places before this one are put, in at most five bytes each.
use Rattle.std.proofs.Common.{◌≡◌, ◌+◌, ◌*◌, ◌≤◌, length}
use Rattle.masks.specs.Masks.{has}
use Rattle.texts.specs.Put.{Put}
use Rattle.dlx.proofs.LineLaws.{cells_to}
use Rattle.dlx.proofs.lines.put_cells.Given as goal

abbrev pub invariant-loop-n : goal.invariant-loop-n
invariant-loop-n l =
    (length l.line ≡ length l.fn.line) × (l.end ≤ l.at + 5 * l.n-index)
    × Put l.fn.line l.at (cells_to (has l.mask) l.scans l.n-index) l.line l.end
