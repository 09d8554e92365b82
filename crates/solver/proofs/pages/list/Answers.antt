-- `list` meets its contract: the engine that the configuration names lists, and one that is not ported lists nothing. Assumes nothing.
use mathlib.Core.Path.{refl, ap}
use Rattle.definitions.specs.Refusals.{identify_of, is_knuth}
use Rattle.solver.specs.Lent.{LinksAfter, answers_by}
use Rattle.solver.proofs.CallLaws.{by_engine, unported}
use Rattle.solver.proofs.pages.list.Goals as goal

pub list-requires-in-KnuthAlgorithm-clause-links : goal.list-requires-in-KnuthAlgorithm-clause-links
unfolding is_knuth
list-requires-in-KnuthAlgorithm-clause-links c =
    let is = ap is_knuth c.in-KnuthAlgorithm.is in
    (c.requires.1 is, c.requires.2 is)

pub returns-in-Auto : goal.returns-in-Auto
returns-in-Auto c = let h = unported c.in-Auto.is _ _ _ _ _ in record { page = h.0; behind = h.1 }

pub returns-in-Fast : goal.returns-in-Fast
unfolding answers_by LinksAfter identify_of
returns-in-Fast c =
    let h = by_engine c.in-Fast.is _ _ _ _ _ _ _ c.list.ensures refl in
    record { page = h.0; behind = h.1 }

pub returns-in-KnuthAlgorithm : goal.returns-in-KnuthAlgorithm
unfolding answers_by LinksAfter identify_of
returns-in-KnuthAlgorithm c =
    let all = c.list-in-KnuthAlgorithm.ensures in
    let h = by_engine c.in-KnuthAlgorithm.is _ _ _ _ _ _ _ all.page all.behind in
    record { page = h.0; behind = h.1 }
