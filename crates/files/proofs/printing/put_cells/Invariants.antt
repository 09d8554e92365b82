-- As many cells are put as the chunks count, in at most eight bytes each, and what is left is the cells behind them.
use Rattle.std.proofs.Common.{◌≡◌, ◌+◌, ◌*◌, ◌≤◌, length, take, drop}
use Rattle.definitions.specs.Files.{cells_shown}
use Rattle.texts.specs.Put.{Put}
use Rattle.files.proofs.printing.put_cells.Given as goal

abbrev pub invariant-loop-i : goal.invariant-loop-i
invariant-loop-i l =
    let n = l.i-iterator.count in
    (length l.out ≡ length l.initial.out) × (l.end ≤ l.at + 8 * n) × (2 * n ≤ length l.answer)
    × (l.i-iterator.iter.rest.now ≡ drop (2 * n) l.answer) × (l.i-iterator.iter.size ≡ 2)
    × Put l.initial.out l.at (cells_shown (take (2 * n) l.answer)) l.out l.end
