-- `all_sides_fit` meets its contract: `all` asks each record. Assumes nothing.
use Rattle.std.proofs.Common.{◌∙◌, sym, rules, tests}
use Rattle.std.proofs.lemmas.Iterator.{YieldsList-from_slice}
use Rattle.std.proofs.lemmas.Iterator.Search.{all_from_yields_List}
use Rattle.definitions.specs.Refusals.{sides_fit}
use Rattle.placements.proofs.RefusalLaws.{all_is}
use Rattle.placements.proofs.refusals.all_sides_fit.Goals as goal

pub returns : goal.returns
returns c =
    let pieces = c.args.pieces.now in
    all_from_yields_List sides_fit _ _ _ c.all.ensures.ran (YieldsList-from_slice pieces cc) (λ x b q k. search (rules, tests)) ∙ sym (all_is sides_fit pieces)
