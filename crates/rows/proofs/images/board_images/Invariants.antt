use Prim.Native.Nat.{◌+◌, ◌-◌, ◌≤◌}
use mathlib.Core.Path.{◌≡◌}
use lib.ListN.{length}
use Rattle.rows.specs.NumberedBoards.{board_of, order_of}
use Rattle.rows.proofs.PictureLaws.{DoneTo}
use Rattle.rows.proofs.images.board_images.Given as goal

abbrev pub invariant-loop-m : goal.invariant-loop-m
invariant-loop-m l =
    (length l.images ≡ length l.initial.images) × (l.r ≤ l.n + (l.m - l.start))
    × DoneTo (order_of l.board) (board_of l.board) (length l.board.planned.places.now) l.initial.images l.n l.start l.end l.images l.r l.m
