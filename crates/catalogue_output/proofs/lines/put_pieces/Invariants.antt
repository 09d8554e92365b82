-- As many lines are put as the chunks count, in at most 33 bytes each, and what is left is the entries behind them.
use Rattle.std.proofs.Common.{◌≡◌, ◌+◌, ◌*◌, ◌≤◌, length, drop}
use Rattle.texts.specs.Put.{Put}
use Rattle.catalogue_output.specs.Entries.{first_lines}
use Rattle.catalogue_output.proofs.lines.put_pieces.Given as goal

abbrev pub invariant-loop-entry : goal.invariant-loop-entry
invariant-loop-entry l =
    let n = length l.yielded in
    (length l.out ≡ length l.initial.out) × (l.end ≤ l.at + n * 33) × (n * 21 ≤ length l.entries)
    × (l.entry-iterator.rest.now ≡ drop (n * 21) l.entries) × (l.entry-iterator.size ≡ 21)
    × Put l.initial.out l.at (first_lines l.entries n) l.out l.end
