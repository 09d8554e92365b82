-- `moves_before` meets its contract: whether a map from m on moves the row before itself is what the maps from the start on say. Assumes nothing.
use Rattle.std.proofs.Common.{Bool, true, false, ◌≡◌, sym, ◌∙◌}
use borrow.Author.Tests.{lt-ltb, le-ltb}
use lib.Dec.{ltb}
use Rattle.lists.proofs.RangeLaws.{any_found, any_next}
use Rattle.fast.proofs.PrunedLaws.{moves, moves_told}
use Rattle.fast.proofs.pruning.moves_before.Goals as goal
use Rattle.fast.proofs.pruning.moves_before.Goals.{After-image_row}

-- whether map m does so
told : (c : After-image_row) (b : Bool) → ltb c.image_row.result c.args.r ≡ b
    → let s = c.args.system.now in moves s.d s.work.now s.chart.now c.args.r c.loop-m.m ≡ b
told c b e =
    let s = c.args.system.now in moves_told s.d s.work.now s.chart.now c.args.r c.requires.2 c.loop-m.m c.image_row.result c.image_row.ensures b e

pub returns-then-image_row-r : goal.returns-then-image_row-r
returns-then-image_row-r c =
    let before = told (goal.at.returns-then-image_row-r c).After-image_row true (lt-ltb _ c.args.r c.if-image_row-r.true) in
    sym (any_found _ c.loop-m.m c.args.end c.loop-m-test.true before) ∙ c.loop-m.invariant

pub loop-m-preserved : goal.loop-m-preserved
loop-m-preserved c =
    let behind = told (goal.at.loop-m-preserved c).After-image_row false (le-ltb _ c.args.r c.if-image_row-r.false) in
    sym (any_next _ c.loop-m.m c.args.end c.loop-m-test.true behind) ∙ c.loop-m.invariant
