-- Slices in which a lawful row system stands: what `RowSystem` says of what it holds.
use Rattle.std.specs.Prelude.{ℕ, ◌+◌, ◌*◌, ◌≤◌, List, length}
use Rattle.rows.specs.Systems.{system_in}
use Rattle.rows.specs.Ranges.{Ranged}
use Rattle.rows.specs.Lawful.{Lawful}
use Rattle.rows.specs.declared.Dims.{Dims}
use Rattle.rows.specs.declared.chart.Chart.{Chart}

-- rows in the work slice, all else in the chart
pub record Ready (d : Dims) (work : List ℕ) (chart : Chart) : Type 0 where
  pub lawful : Lawful (system_in d work chart)
  pub ranged : Ranged work chart.starts d.rows
  pub rows_fit : 8 * d.rows ≤ length work
  pub few_maps : d.turns + d.mirrorings ≤ 48
  pub few_places : d.places ≤ 512
  pub few_pieces : d.pieces ≤ 16

-- how large it is at most, and that there is room for it
pub record Sized (d : Dims) (work : List ℕ) (chart : Chart) : Type 0 where
  pub few_cells : d.size ≤ 128
  pub few_rows : d.rows ≤ 1024
  pub few_kinds : d.kinds ≤ 16
  pub few_maps : d.turns + d.mirrorings ≤ 48
  pub few_places : d.places ≤ 512
  pub few_pieces : d.pieces ≤ 16
  pub rows_fit : 8 * d.rows ≤ length work
  pub scans_fit : d.places ≤ length chart.scans
