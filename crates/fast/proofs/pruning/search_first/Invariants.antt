use Rattle.std.proofs.Common.{[], ◌≡◌, length}
use Rattle.definitions.specs.Emission.{emits}
use Rattle.rows.specs.RowSystems.{seen}
use Rattle.kept.specs.Emission.{emitted_of}
use Rattle.kept.specs.Wanted.{identified}
use Rattle.fast.specs.Searching.{state_by}
use Rattle.fast.specs.Pruned.{fast_first}
use Rattle.fast.proofs.PrunedLaws.{nothing_covered, first_from}
use Rattle.fast.proofs.pruning.search_first.Given as goal

-- what the rows from r on list is left
abbrev pub invariant-loop-r : goal.invariant-loop-r
invariant-loop-r l =
    let S = seen l.wanted.system in
    let i = identified l.wanted in
    let t = state_by S l.fn.state.left nothing_covered [] in
    record {
      same_left : l.state.left ≡ l.fn.state.left;
      no_rows : l.state.path ≡ [];
      answers_long : length l.answers ≡ length l.fn.answers;
      page : emits l.wanted.capacity (first_from S i t l.wanted.system.d.rows l.r) (emitted_of l.s l.wanted.last.now l.answers)
          ≡ emits l.wanted.capacity (fast_first S i t) (emitted_of l.fn.e l.wanted.last.now l.fn.answers);
    }
