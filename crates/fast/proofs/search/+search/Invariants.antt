use Rattle.std.proofs.Common.{◌+◌, ◌*◌, ◌≡◌, length}
use Rattle.definitions.specs.Emission.{emits}
use Rattle.rows.specs.Ranges.{start_of}
use Rattle.rows.specs.RowSystems.{seen}
use Rattle.kept.specs.Emission.{emitted_of}
use Rattle.kept.specs.Wanted.{identified}
use Rattle.fast.specs.Searching.{uncovered, state_by, fast_below}
use Rattle.fast.proofs.ChoiceLaws.{choices_from}
use Rattle.fast.proofs.search.+search.Given as goal

abbrev pub decreases-search : goal.decreases-search
decreases-search l = length (uncovered l.wanted.now.system.d.size l.covered)

-- the rows of a kind
abbrev pub invariant-loop-r : goal.invariant-loop-r
invariant-loop-r l =
    let S = seen l.wanted.system in
    let i = identified l.wanted in
    let t = state_by S l.fn.state.left l.covered l.fn.state.path in
    record {
      same_left : l.state.left ≡ l.fn.state.left;
      same_rows : l.state.path ≡ l.fn.state.path;
      answers_long : length l.answers ≡ length l.fn.answers;
      page : emits l.wanted.capacity (choices_from S i t l.r) (emitted_of l.s l.wanted.last.now l.answers)
          ≡ emits l.wanted.capacity (fast_below S i t) (emitted_of l.fn.e l.wanted.last.now l.fn.answers);
    }

abbrev pub invariant-loop-kind : goal.invariant-loop-kind
invariant-loop-kind l =
    let S = seen l.wanted.system in
    let i = identified l.wanted in
    let t = state_by S l.fn.state.left l.covered l.fn.state.path in
    record {
      same_left : l.state.left ≡ l.fn.state.left;
      same_rows : l.state.path ≡ l.fn.state.path;
      answers_long : length l.answers ≡ length l.fn.answers;
      page : emits l.wanted.capacity (choices_from S i t (start_of S.rows (128 * l.kind + l.c))) (emitted_of l.s l.wanted.last.now l.answers)
          ≡ emits l.wanted.capacity (fast_below S i t) (emitted_of l.fn.e l.wanted.last.now l.fn.answers);
    }
