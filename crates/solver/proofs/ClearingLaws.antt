-- Numbers made 0 from the front, and which engine builds links. Assumes nothing.
use Rattle.std.proofs.Common.{◌≡◌, ◌≤◌, ℕ, true, List, ◌++◌, length, take, drop, replicate, ap, sym, ◌∙◌, rules, length-take-le}
use denote.Enum.Bare.{sameb, same_true}
use Rattle.definitions.specs.Outcomes.{cleared}
use Rattle.definitions.specs.Refusals.{is_knuth}
use Rattle.definitions.specs.contracts.SolverKind.{the_type}
use Rattle.definitions.specs.declared.SolverKind.{SolverKind}
use Rattle.definitions.specs.declared.SolverKind.TheVariants.{KnuthAlgorithm}

-- the first n of them lent to `fill`
pub cleared_by : (n : ℕ) (old : List ℕ) {part : List ℕ} → n ≤ length old → part ≡ replicate (length (take n old)) 0 → part ++ drop n old ≡ cleared n old
unfolding cleared
cleared_by n old h e = ap (λ (l : List ℕ). l ++ drop n old) (e ∙ ap (λ (k : ℕ). replicate {A = ℕ} k 0) (length-take-le n old h))

-- the test for the engine that builds them
pub knuth_built : (k : SolverKind) → true ≡ sameb the_type k KnuthAlgorithm → is_knuth k ≡ true
unfolding is_knuth
knuth_built k e = ap is_knuth (same_true the_type (search rules) k KnuthAlgorithm (sym e))
