-- What building leaves of a tray: its row system, the rows in the work slice and all else in a chart.
use Rattle.std.specs.Prelude.{ℕ, ◌+◌, ◌≤◌, List, map, ◌≡◌, length, drop}
use Rattle.definitions.specs.Grid.{volume}
use Rattle.definitions.specs.Maps.{turns, mirrorings}
use Rattle.definitions.specs.Stripping.{Frame}
use Rattle.definitions.specs.Kinds.{Tray}
use Rattle.definitions.specs.Placements.{Compiled}
use Rattle.definitions.specs.Kept.{symmetries}
use Rattle.shape.specs.declared.Coord.{Coord}
use Rattle.shape.specs.Coords.{as_sides, as_cell}
use Rattle.rows.specs.declared.Dims.{Dims}
use Rattle.rows.specs.declared.chart.Chart.{Chart}
use Rattle.rows.specs.declared.system.Placed.{Placed}
use Rattle.rows.specs.Rows.{rows_in}
use Rattle.rows.specs.Ranges.{Ranged}
use Rattle.rows.specs.Systems.{images_in, cell_images, system_in, system_of}

-- a lent box, and the cell of it at which a board's corner lies
abbrev pub frame_at : Coord → Coord → Frame
frame_at lent at = record { lent = as_sides lent; at = as_cell at }

-- what is built by a tray's geometry: its rows, where those of each range begin, and the images of so many cells under the maps that bring its board onto
-- itself; the words behind 1,024 rows are as they were
pub record BuiltLent (c : Compiled) (cells : ℕ) (r : Placed) (work after starts images : List ℕ) : Type 0 where
  pub size : cells ≡ length c.cells
  pub rows : rows_in after r.rows ≡ c.placements
  pub turned : images_in images cells 0 r.turns ≡ map (cell_images c) (symmetries c.board turns)
  pub mirrored : images_in images cells r.turns r.mirrorings ≡ map (cell_images c) (symmetries c.board mirrorings)
  pub few : r.turns + r.mirrorings ≤ 48
  pub ranged : Ranged after starts r.rows
  pub behind : drop 8192 after ≡ drop 8192 work

-- the row system of a tray, and where the rows of each range begin; the words behind 1,024 rows are as they were
pub record BuiltSystem (t : Tray) (d : Dims) (work after : List ℕ) (chart : Chart) : Type 0 where
  pub system : system_in d after chart ≡ system_of t
  pub ranged : Ranged after chart.starts d.rows
  pub places : d.places ≡ volume t.frame.lent
  pub behind : drop 8192 after ≡ drop 8192 work
