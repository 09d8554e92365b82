-- `rows::building::mask_of` meets its contract. The loop's invariant: the mask and the cells from k on make all cells. Assumes nothing.
use Prim.Native.Nat.{ℕ, ◌-◌}
use mathlib.Core.List.{map}
use mathlib.Core.Path.{◌≡◌}
use lib.ListN.{get_or}
use Rattle.lists.specs.Lists.{member}
use Rattle.definitions.specs.Grid.{Cell, place_of}
use Rattle.definitions.specs.Placements.{lies}
use Rattle.masks.specs.Masks.{has, either}
use Rattle.shape.specs.Coords.{as_cell}
use Rattle.placements.specs.Poses.{cell_of, cells_in, origin_in}
use Rattle.rows.specs.NumberedBoards.{sides_of}
use Rattle.rows.proofs.RowLaws.{numbers_from}
use Rattle.rows.proofs.building.mask_of.Given as goal

abbrev pub invariant-loop-k : goal.invariant-loop-k
invariant-loop-k l =
    let f : Cell → ℕ = λ u. get_or l.board.scans (place_of (sides_of l.board) (lies (as_cell l.at) (origin_in l.pose) u)) 0 in
    either (has l.mask) (numbers_from (λ n. f (cell_of (get_or l.pose.codes n 0))) l.k (l.pose.size - l.k)) ≡
    (λ n. member n (map f (cells_in l.pose)))
