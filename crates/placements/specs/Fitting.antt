-- The fit test on cells and on a pose.
use Rattle.std.specs.Prelude.{Bool, true, false, cond, not, ◌&&◌, List, Option, None, Some}
use Rattle.std.specs.List.{last_or}
use Rattle.lists.specs.Lists.{all, any, keep}
use Rattle.definitions.specs.Grid.{Cell, Grid, filled_cells, same_cell, set_down}
use Rattle.definitions.specs.Placements.{reaches, lies}
use Rattle.shape.specs.Coords.{as_cell}
use Rattle.placements.specs.declared.poses.Pose.{Pose}
use Rattle.placements.specs.declared.fitting.Fit.{Fit}
use Rattle.placements.specs.declared.fitting.Fit.TheVariants.{Fits, StopsAt}
use Rattle.placements.specs.Poses.{cells_in, origin_in}

-- cells fit on the filled cells of g with the cell o at v. (`fits` of document 01's definitions says the same of cells in scan order, o the first.)
unfoldable pub fits_on : Grid → Cell → Cell → List Cell → Bool
fits_on g v o us = reaches v o && all (λ u. any (same_cell (lies v o u)) (filled_cells g)) us

-- a variant fits with its origin at v
unfoldable pub fits_pose : Grid → Cell → Pose → Bool
fits_pose g v pose = fits_on g v (origin_in pose) (cells_in pose)

-- ---- where the test stops
-- with the cell o of a grid at v, its cell u lies on a filled cell w of g: v + u = o + w. (By sums: one that falls before the corner of the box of g lies on
-- none.)
unfoldable pub lies_on : Grid → Cell → Cell → Cell → Bool
lies_on g v o u = any (λ w. same_cell (set_down v u) (set_down o w)) (filled_cells g)

-- the cells that lie on no filled cell of g, in their order
unfoldable pub off_board : Grid → Cell → Cell → List Cell → List Cell
off_board g v o us = keep (λ u. not (lies_on g v o u)) us

-- the cell at which the test of a variant stops, with its origin at v: none where it fits, and otherwise the last that lies on no filled cell of g. (Where it
-- has no such cell and yet does not fit, its origin; no grid without empty outer layers is such a one.)
unfoldable pub stop_of : Grid → Cell → Pose → Option Cell
stop_of g v pose = cond (fits_pose g v pose) None (last_or (Some (origin_in pose)) (off_board g v (origin_in pose) (cells_in pose)))

-- what an answer of the test says, case by case: whether the variant fits; and the cell at which the test stopped
abbrev pub says_fits : Fit → Bool
says_fits Fits = true
says_fits (StopsAt u) = false

abbrev pub named : Fit → Option Cell
named Fits = None
named (StopsAt u) = Some (as_cell u)
