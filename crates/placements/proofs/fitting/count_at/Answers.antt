-- `placements::fitting::count_at` meets its contract: std's count of the variants that fit. Assumes nothing.
use Rattle.std.proofs.Common.{◌≤◌, ◌≡◌, ◌∙◌, refl, sym, rules, tests, arith, take}
use Rattle.std.specs.List.{count_by}
use Rattle.std.proofs.lemmas.List.{length-take}
use Rattle.std.proofs.lemmas.Iterator.{YieldsList-from_slice}
use Rattle.std.proofs.lemmas.Iterator.Adapters.{serves_from_places}
use Rattle.std.proofs.lemmas.Iterator.Consumers.{YieldsList-at, YieldsList-from_filter, count_from_yields_List}
use Rattle.std.proofs.lemmas.List.Sums.{count_by-le-length, length-filter}
use Rattle.definitions.specs.Scan.{axes}
use Rattle.shape.specs.Coords.{as_sides, as_cell}
use Rattle.shape.specs.CubicGrids.{grid_of}
use Rattle.placements.specs.Fitting.{fits_pose}
use Rattle.placements.proofs.FittingLaws.{pose_stands, variants_fit}
use Rattle.placements.proofs.fitting.count_at.Goals as goal

pub count-requires-clause-can : goal.count-requires-clause-can
count-requires-clause-can c =
    let poses = c.args.poses.now in (
      tt,
      tt,
      serves_from_places (YieldsList-from_slice (take poses.count poses.list) cc) (λ x q r. search rules)
          (λ x k inside at. let stands = pose_stands _ poses c.requires.1 k inside x.now at in let small : x.now.size ≤ 512 = stands.small in search rules),
    )

pub returns : goal.returns
returns c =
    let a = c.args in
    let box = as_sides a.board.now.sides in
    let g = grid_of a.board.now in
    let fit = fits_pose g (as_cell a.at) in
    let poses = a.poses.now in
    let listed = take poses.count poses.list in
    let source = YieldsList-at c.filter.ensures.source (YieldsList-from_slice listed cc) in
    let counted : c.count.result ≡ count_by fit listed =
    count_from_yields_List c.filter.result _ c.count.ensures.ran
    (YieldsList-from_filter _ fit source c.filter.ensures.closure (λ x b q k. search (rules, tests)))
    ∙ length-filter fit listed in (
      counted ∙ sym (variants_fit (axes box) (record { box = box; is_its = refl }) g (as_cell a.at) poses c.requires.1),
      omega (arith, counted, count_by-le-length fit listed, length-take poses.count poses.list),
    )
