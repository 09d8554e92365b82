-- `all_filled` meets its contract: `all` asks the grid of each record, whose sides fit and whose cells lie in the bytes. A grid has a filled cell if their
-- count is not 0. Assumes nothing.
use Rattle.std.proofs.Common.{◌∙◌, Bool, sym, rules, tests}
use Rattle.std.proofs.lemmas.Iterator.{YieldsList-from_slice}
use Rattle.std.proofs.lemmas.Iterator.Adapters.{serves_from_places}
use Rattle.std.proofs.lemmas.Iterator.Search.{all_from_yields_List}
use Rattle.definitions.specs.Refusals.{grid_of, sides_fit, cells_lie, some_filled}
use Rattle.definitions.specs.declared.Record.{Record}
use Rattle.placements.proofs.RefusalLaws.{told_at, all_is, filled_told}
use Rattle.placements.proofs.refusals.all_filled.Goals as goal

pub all-requires-clause-callable : goal.all-requires-clause-callable
all-requires-clause-callable c =
    let pieces = c.args.pieces.now in
    serves_from_places (YieldsList-from_slice pieces cc) (λ x q r. search rules)
    (λ x k inside at.
    let fit = told_at sides_fit pieces c.requires.0 x.now k inside at in let there = told_at (cells_lie c.args.bytes.now) pieces c.requires.1 x.now k inside at in
    search rules)

pub returns : goal.returns
returns c =
    let pieces = c.args.pieces.now in
    let test : Record → Bool = λ q. some_filled (grid_of c.args.bytes.now q) in
    all_from_yields_List test _ _ _ c.all.ensures.ran (YieldsList-from_slice pieces cc) (λ x b q k. search (rules, tests, filled_told))
    ∙ sym (all_is test pieces)
