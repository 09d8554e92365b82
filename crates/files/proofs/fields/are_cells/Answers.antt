-- The chain asks each byte; so do the definitions. Assumes nothing.
use Rattle.std.proofs.Common.{◌||◌, eqb, ◌∙◌, rules, tests}
use Rattle.std.proofs.lemmas.Iterator.{YieldsList-from_slice}
use Rattle.std.proofs.lemmas.Iterator.Search.{all_from_yields_List}
use Rattle.files.proofs.PartLaws.{all_are}
use Rattle.files.proofs.fields.are_cells.Goals as goal

pub returns : goal.returns
returns c =
    let bytes = c.args.bytes.now in
    all_from_yields_List (λ x. eqb x 48 || eqb x 49) _ _ _ c.all.ensures.ran (YieldsList-from_slice bytes cc) (λ x b q k. search (rules, tests))
    ∙ all_are (λ x. eqb x 48 || eqb x 49) bytes
