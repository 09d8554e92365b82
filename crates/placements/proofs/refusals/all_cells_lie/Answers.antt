-- `all_cells_lie` meets its contract: `all` asks each record, whose sides fit. Assumes nothing.
use Rattle.std.proofs.Common.{◌∙◌, sym, rules, tests}
use Rattle.std.proofs.lemmas.Iterator.{YieldsList-from_slice}
use Rattle.std.proofs.lemmas.Iterator.Adapters.{serves_from_places}
use Rattle.std.proofs.lemmas.Iterator.Search.{all_from_yields_List}
use Rattle.definitions.specs.Refusals.{sides_fit, cells_lie}
use Rattle.placements.proofs.RefusalLaws.{told_at, all_is}
use Rattle.placements.proofs.refusals.all_cells_lie.Goals as goal

pub all-requires-clause-callable : goal.all-requires-clause-callable
all-requires-clause-callable c =
    let pieces = c.args.pieces.now in
    serves_from_places (YieldsList-from_slice pieces cc) (λ x q r. search rules)
    (λ x k inside at.
    let fit = told_at sides_fit pieces c.requires x.now k inside at in search rules)

pub returns : goal.returns
returns c =
    let pieces = c.args.pieces.now in
    let test = cells_lie c.args.bytes.now in
    all_from_yields_List test _ _ _ c.all.ensures.ran (YieldsList-from_slice pieces cc) (λ x b q k. search (rules, tests)) ∙ sym (all_is test pieces)
