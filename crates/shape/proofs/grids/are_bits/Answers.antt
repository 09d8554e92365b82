-- `are_bits` meets its contract: `all` asks of each cell whether it is at most 1. Assumes nothing.
use mathlib.Core.Path.{sym, ◌∙◌}
use borrow.Author.Rules.{rules}
use Rattle.std.proofs.Common.{tests, leb}
use Rattle.std.proofs.lemmas.Iterator.{YieldsList-from_slice}
use Rattle.std.proofs.lemmas.Iterator.Search.{all_from_yields_List}
use Rattle.shape.proofs.GridLaws.{all_is}
use Rattle.shape.proofs.grids.are_bits.Goals as goal

pub returns : goal.returns
returns c =
    let cells = c.args.cells.now in
    all_from_yields_List (λ n. leb n 1) _ _ _ c.all.ensures.ran (YieldsList-from_slice cells cc) (λ x b q k. search (rules, tests))
    ∙ sym (all_is (λ n. leb n 1) cells)
