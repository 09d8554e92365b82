-- A call's answer as numbers: of a page of packings, of a text, and of a page of the catalogue.
use Rattle.std.specs.Prelude.{ℕ, Bool, true, false, cond, eqb, List, Some, None, Ok, Err}
use Rattle.definitions.specs.Outcomes.{Outcome, Reply, number_of}
use Rattle.definitions.specs.TextCalls.{TextOutcome, TextReply}
use Rattle.definitions.specs.CatalogueCalls.{CatalogueOutcome}
use Rattle.definitions.specs.declared.Config.{Config}
use Rattle.definitions.specs.declared.SolverKind.{SolverKind}
use Rattle.definitions.specs.declared.SolverKind.TheVariants.{Auto, Naive, Fast, KnuthAlgorithm}
use Rattle.definitions.specs.declared.Start.{Start}
use Rattle.definitions.specs.declared.Start.TheVariants.{Entry, Behind}
use Rattle.ferghuul.specs.declared.Answer.{Answer}
use Rattle.ferghuul.specs.declared.TextAnswer.{TextAnswer}

abbrev pub numbers_of : Reply → Answer
numbers_of (Ok (Some page)) = record { number = 0; written = page.written; further = page.further; missing = false }
numbers_of (Err why) = record { number = number_of why; written = 0; further = false; missing = false }
numbers_of (Ok None) = record { number = 0; written = 0; further = false; missing = true }

-- what an answer says, with the slices that the call leaves
abbrev pub outcome_by : Answer → List ℕ → List ℕ → List ℕ → Outcome
outcome_by a answers work links =
    record { number = a.number; written = a.written; further = a.further; missing = a.missing; answers = answers; work = work; links = links }

-- the same of the call for the text
abbrev pub text_numbers_of : TextReply → TextAnswer
text_numbers_of (Ok written) = record { number = 0; written = written }
text_numbers_of (Err why) = record { number = number_of why; written = 0 }

abbrev pub text_outcome_by : TextAnswer → List ℕ → List ℕ → TextOutcome
text_outcome_by t output work = record { number = t.number; written = t.written; output = output; work = work }

-- what an answer says of a call for the catalogue
abbrev pub catalogue_outcome_by : Answer → List ℕ → CatalogueOutcome
catalogue_outcome_by a entries = record { number = a.number; written = a.written; further = a.further; entries = entries }

-- the engine that a number stands for, and the configuration
abbrev pub engine_of : ℕ → SolverKind
engine_of n = cond (eqb n 0) Auto (cond (eqb n 2) Fast (cond (eqb n 3) KnuthAlgorithm Naive))

abbrev pub config_of : ℕ → Bool → Bool → Config
config_of engine turned mirrored = record { identify_transformed_answers = turned; identify_mirrored_answers = mirrored; solver = engine_of engine }

-- where a page starts: behind the entry that is lent, or at an entry
abbrev pub start_of : Bool → ℕ → Start
start_of true skip = Behind
start_of false skip = Entry skip
