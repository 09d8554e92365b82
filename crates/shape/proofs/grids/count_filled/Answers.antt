-- `count_filled` meets its contract: std's count of the cells that are 1. Assumes nothing.
use mathlib.Core.Path.{◌≡◌, sym, ◌∙◌}
use borrow.Author.Rules.{rules}
use native.Mathlib.Omega.{arith}
use Rattle.std.proofs.Common.{eqb, tests}
use Rattle.std.specs.List.{count_by}
use Rattle.std.proofs.lemmas.List.Sums.{count_by-le-length}
use Rattle.shape.proofs.GridLaws.{how_many_is}
use Rattle.shape.proofs.grids.count_filled.Goals as goal

pub returns : goal.returns
returns c =
    let cells = c.args.cells.now in
    let counted : c.count.result ≡ count_by (eqb 1) cells = search (rules, tests) in
    (counted ∙ sym (how_many_is (eqb 1) cells), omega (arith, counted, count_by-le-length (eqb 1) cells))
