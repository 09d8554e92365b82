use mathlib.Core.Path.{◌≡◌}
use lib.ListN.{length}
use lib.Seq.{paste}
use Rattle.definitions.specs.Maps.{map_of}
use Rattle.rows.specs.Boards.{place_images}
use Rattle.rows.specs.NumberedBoards.{sides_of}
use Rattle.rows.proofs.images.cell_images.Given as goal

abbrev pub invariant-loop-i : goal.invariant-loop-i
invariant-loop-i l =
    let places = l.board.planned.places.now in
    (length l.images ≡ length l.initial.images)
    × (l.images ≡ paste l.initial.images l.start (place_images (sides_of l.board) (map_of l.m.0) places l.board.scans (length places)) l.i)
