-- `copies_lent` meets its contract: std's sum of the counts, 16 numbers of 32 bits. Assumes nothing.
use Rattle.std.proofs.Common.{◌≡◌, ◌∙◌, ℕ, sym, rules}
use Rattle.std.specs.List.{sum_by}
use Rattle.definitions.specs.declared.Record.{Record}
use Rattle.placements.proofs.RefusalLaws.{sum_is}
use Rattle.placements.proofs.refusals.copies_lent.Goals as goal

pub returns : goal.returns
returns c =
    let count : Record → ℕ = λ q. q.count in
    let added : c.sum.result ≡ sum_by count c.args.pieces.now = search rules in
    added ∙ sym (sum_is count c.args.pieces.now)
