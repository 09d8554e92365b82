-- `place_of` meets its contract: the first of the scan numbers that is the cell's, or how many there are. Assumes nothing.
use Prim.Native.Nat.{ℕ}
use mathlib.Core.Bool.{Bool}
use mathlib.Core.Path.{◌≡◌, ap, ◌∙◌}
use native.Mathlib.Omega.{arith}
use lib.Dec.{eqb}
use lib.ListN.{length}
use Rattle.std.specs.List.{position_from}
use Rattle.std.proofs.Common.{rules, tests}
use Rattle.std.specs.Prelude.{Option, unwrap_or}
use Rattle.std.proofs.lemmas.Iterator.{YieldsList-from_slice}
use Rattle.std.proofs.lemmas.Iterator.Adapters.{position_from-zero}
use Rattle.std.proofs.lemmas.Iterator.Search.{position_from_yields_List}
use Rattle.lists.specs.Lists.{before}
use Rattle.lists.proofs.ListLaws.{before_few}
use Rattle.rows.proofs.FirstLaws.{first_place}
use Rattle.rows.proofs.shown.place_of.Goals as goal

pub returns : goal.returns
returns c =
    let a = c.args in
    let scans = a.scans.now in
    let is_cell : ℕ → Bool = λ x. eqb x a.cell in
    let found : c.position.result ≡ position_from is_cell 0 scans =
    position_from_yields_List is_cell _ _ c.position.result c.position.ensures.ran (YieldsList-from_slice scans (search rules)) (λ x b q k. search (rules, tests))
    ∙ position_from-zero is_cell scans in
    let place : c.unwrap_or.result ≡ before (eqb a.cell) scans =
    c.unwrap_or.ensures ∙ ap (λ (o : Option ℕ). unwrap_or o (length scans)) found ∙ first_place a.cell scans 0 (length scans) (omega arith) ∙ omega arith in
    (place, omega (arith, place, before_few (eqb a.cell) scans))
