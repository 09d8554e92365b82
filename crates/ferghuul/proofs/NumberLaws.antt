-- An answer as numbers says what the reply says, of a page and of a text. Assumes nothing.
use Rattle.std.proofs.Common.{◌≡◌, ℕ, List, ap}
use Rattle.std.specs.Prelude.{Some, None, Ok, Err}
use Rattle.definitions.specs.Outcomes.{Reply, outcome_of}
use Rattle.definitions.specs.TextCalls.{TextReply, text_outcome_of}
use Rattle.ferghuul.specs.declared.Answer.{Answer}
use Rattle.ferghuul.specs.declared.TextAnswer.{TextAnswer}
use Rattle.ferghuul.specs.Numbers.{numbers_of, outcome_by, text_numbers_of, text_outcome_by}

pub outcome_numbers : (r : Reply) (a : Answer) (answers work links : List ℕ) → a ≡ numbers_of r
    → outcome_by a answers work links ≡ outcome_of r answers work links
unfolding outcome_of
outcome_numbers (Ok (Some page)) a answers work links e = ap (λ (b : Answer). outcome_by b answers work links) e
outcome_numbers (Ok None) a answers work links e = ap (λ (b : Answer). outcome_by b answers work links) e
outcome_numbers (Err why) a answers work links e = ap (λ (b : Answer). outcome_by b answers work links) e

pub text_numbers : (r : TextReply) (t : TextAnswer) (output work : List ℕ) → t ≡ text_numbers_of r
    → text_outcome_by t output work ≡ text_outcome_of r output work
text_numbers (Ok written) t output work e = ap (λ (u : TextAnswer). text_outcome_by u output work) e
text_numbers (Err why) t output work e = ap (λ (u : TextAnswer). text_outcome_by u output work) e
