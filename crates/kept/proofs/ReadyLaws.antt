-- A row system that stands in slices: its rows by their numbers, and what the code finds as their images. Assumes nothing.
use Prim.Native.Nat.{ℕ, ◌+◌, ◌<◌}
use mathlib.Core.Bool.{Bool}
use mathlib.Core.List.{List, map}
use mathlib.Core.Path.{◌≡◌, sym, ap, ◌∙◌}
use native.Mathlib.Omega.{arith}
use Rattle.lists.specs.Lists.{below}
use Rattle.lists.proofs.RangeLaws.{get_or_of}
use Rattle.definitions.specs.Placements.{Placement}
use Rattle.rows.specs.Charts.{kind_partner}
use Rattle.rows.specs.Rows.{row_at, rows_in}
use Rattle.rows.specs.Systems.{system_in, moved_by, row_with, system_over}
use Rattle.kept.specs.Normal.{no_row, row_of, image_of}
use Rattle.rows.specs.declared.Dims.{Dims}
use Rattle.rows.specs.declared.chart.Chart.{Chart}

module _ (d : Dims) (work : List ℕ) (chart : Chart) where
  pub row_is : (r : ℕ) → r < d.rows → row_of (system_in d work chart) r ≡ row_at work r
  unfolding system_in system_over rows_in row_of
  row_is r h = get_or_of (row_at work) no_row 0 d.rows r h ∙ ap (row_at work) (let e : 0 + r ≡ r = omega arith in e)

  -- what the code finds as the image of row r
  pub image_is : (r : ℕ) → r < d.rows → (odd : Bool) (to : List ℕ)
      → row_with (rows_in work d.rows) (moved_by (map (kind_partner chart.kinds) (below d.kinds)) odd to (row_at work r))
      ≡ image_of (system_in d work chart) odd to r
  unfolding system_in system_over image_of
  image_is r h odd to =
      ap (λ (q : Placement). row_with (rows_in work d.rows) (moved_by (map (kind_partner chart.kinds) (below d.kinds)) odd to q)) (sym (row_is r h))
