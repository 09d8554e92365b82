-- `image_row` meets its contract: the moved cells as a mask are the moved cells sorted, and the row that has them is looked up. Assumes nothing.
use Prim.Native.Nat.{ℕ}
use mathlib.Core.List.{map}
use mathlib.Core.Path.{ap, ◌∙◌}
use Rattle.lists.specs.Lists.{below}
use Rattle.rows.specs.Charts.{images_of, kind_partner}
use Rattle.rows.specs.Rows.{rows_in}
use Rattle.rows.specs.Systems.{kind_by}
use Rattle.rows.proofs.MovedLaws.{images_small, image_is}
use Rattle.rows.proofs.images.image_row.Goals as goal

pub moved_mask-mask-requires : goal.moved_mask-mask-requires
moved_mask-mask-requires c =
    let a = c.args in
    let q = c.requires.size_bound in
    (q.0, q.1, images_small a.d.size (images_of a.chart.now a.d.size a.m) q.0 q.2)

pub returns : goal.returns
returns c =
    let a = c.args in
    let partners = map (λ (j : ℕ). kind_partner a.chart.now.kinds j) (below a.d.kinds) in
    c.find_row.ensures
    ∙ image_is (rows_in a.work.now a.d.rows) a.work.now partners (images_of a.chart.now a.d.size a.m) a.odd a.r a.d.size
    c.mask_at.result c.moved_mask-mask.result c.kind_after-kind.result c.mask_at.ensures c.requires.size_bound.0 c.requires.r_lt_rows.3 c.requires.size_bound.2
    c.moved_mask-mask.ensures (c.kind_after-kind.ensures ∙ ap (kind_by partners a.odd) c.kind_at.ensures)
