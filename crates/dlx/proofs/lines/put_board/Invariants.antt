-- The items of the cells before n are put, in at most five bytes each.
use Rattle.std.proofs.Common.{◌≡◌, map, ◌*◌, ◌≤◌, length}
use Rattle.lists.specs.Lists.{below}
use Rattle.definitions.specs.Dlx1.{cell_item, spaced}
use Rattle.texts.specs.Put.{Put}
use Rattle.dlx.proofs.lines.put_board.Given as goal

abbrev pub invariant-loop-n : goal.invariant-loop-n
invariant-loop-n l = (length l.line ≡ length l.fn.line) × (l.end ≤ 5 * l.n) × Put l.fn.line 0 (spaced (map cell_item (below l.n))) l.line l.end
