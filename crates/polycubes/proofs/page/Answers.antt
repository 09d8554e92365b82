-- `page` meets its contract: a number of cells that is not 1 to 6 is refused, and of any other the entries are emitted; the further clauses are laws.
-- Assumes nothing.
use mathlib.Core.Path.{◌≡◌, sym, ◌∙◌}
use native.Mathlib.Omega.{arith}
use Rattle.definitions.specs.CatalogueCalls.{CatalogueCall, catalogue_outcome, catalogue_refused}
use Rattle.theorems.proofs.CatalogueCallLaws.{catalogue_demand, catalogue_demand_holds, is_accepted, is_refused}
use Rattle.theorems.proofs.CatalogueLaws.{catalogued, roomy}
use Rattle.theorems.proofs.CatalogueSizeLaws.{six}
use Rattle.polycubes.specs.Emission.{emitted_of}
use Rattle.polycubes.proofs.OutcomeLaws.{page_left}
use Rattle.polycubes.proofs.page.Goals as goal
use Rattle.polycubes.proofs.page.Goals.{then-n-lt1-via-then-n-lt1, then-n-lt1-via-else-n-lt1+then-n-gt6}

pub returns-then-n-lt1 : goal.returns-then-n-lt1
unfolding catalogue_refused
returns-then-n-lt1 c =
    let a = c.args in
    let l : CatalogueCall = record { n = a.n; skip = a.skip; entries = a.entries.now } in
    let e : catalogue_refused 21 l ≡ catalogue_outcome l = elim c.then-n-lt1.branch [
      | then-n-lt1-via-then-n-lt1 w ↦ sym (is_refused l (λ h. let k = h.0 in omega (arith, w.if-n-lt1.true)))
      | then-n-lt1-via-else-n-lt1+then-n-gt6 w ↦ sym (is_refused l (λ h. let k = h.1 in omega (arith, w.if-n-gt6.true)))
    ] in
    record { outcome = e; demand = catalogue_demand l _ e; one_list = catalogue_demand_holds; all_pieces = (catalogued, roomy); number = six }

pub returns : goal.returns
returns c =
    let a = c.args in
    let l : CatalogueCall = record { n = a.n; skip = a.skip; entries = a.entries.now } in
    let r = c.list-written in
    let e = page_left l c.if-n-gt6.false (emitted_of r.result r.new.entries) r.ensures ∙ sym (is_accepted l c.if-n-lt1.false c.if-n-gt6.false) in
    record { outcome = e; demand = catalogue_demand l _ e; one_list = catalogue_demand_holds; all_pieces = (catalogued, roomy); number = six }
