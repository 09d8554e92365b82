-- All that a call lends, in one value; and what a call of each engine asks of the links, lists and leaves.
use Rattle.std.specs.Prelude.{ℕ, ◌≤◌, List, [], ◌≡◌, true, length, drop}
use Rattle.definitions.specs.Kept.{Identify}
use Rattle.definitions.specs.Emission.{Listed}
use Rattle.definitions.specs.Refusals.{Call, is_knuth}
use Rattle.definitions.specs.declared.Record.{Record}
use Rattle.definitions.specs.declared.Config.{Config}
use Rattle.definitions.specs.declared.SolverKind.{SolverKind}
use Rattle.definitions.specs.declared.SolverKind.TheVariants.{Auto, Naive, Fast, KnuthAlgorithm}
use Rattle.rows.specs.Systems.{System}
use Rattle.fast.specs.Listing.{fast_answers}
use Rattle.knuth.specs.Listing.{knuth_answers}
use Rattle.knuth.specs.Matrix.{link_nodes}

-- where its page starts is said beside it (`outcome_from`)
unfoldable pub call_with : List Record → Record → List ℕ → Config → List ℕ → List ℕ → List ℕ → Call
call_with pieces board bytes config answers work links =
    record { pieces = pieces; board = board; bytes = bytes; config = config; skip = 0; answers = answers; work = work; links = links }

-- what an engine lists over a row system
unfoldable pub answers_by : System → Identify → SolverKind → List Listed
answers_by s i Auto = []
answers_by s i Naive = []
answers_by s i Fast = fast_answers s i
answers_by s i KnuthAlgorithm = knuth_answers s i

-- links are read by one engine alone: there are enough numbers for them, and few enough of them
abbrev pub LongLinks : SolverKind → List ℕ → Type 0
LongLinks solver links = is_knuth solver ≡ true → 32768 ≤ length links

abbrev pub FewLinks : SolverKind → System → Type 0
FewLinks solver s = is_knuth solver ≡ true → length (link_nodes s) ≤ 4096

-- and the others leave them as they are
unfoldable pub LinksAfter : SolverKind → List ℕ → List ℕ → Type 0
LinksAfter Auto old new = new ≡ old
LinksAfter Naive old new = new ≡ old
LinksAfter Fast old new = new ≡ old
LinksAfter KnuthAlgorithm old new = drop 32768 new ≡ drop 32768 old
