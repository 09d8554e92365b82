-- `next_cell` meets its contract: the first of z, y and x that can grow does, and those behind it start again. Assumes nothing.
use native.Mathlib.Omega.{arith}
use Rattle.shape.specs.Coords.{as_sides, as_cell}
use Rattle.shape.proofs.PlaceLaws.{next_z, next_y, next_x}
use Rattle.shape.proofs.cells.next_cell.Goals as goal

pub returns-then-u-s : goal.returns-then-u-s
returns-then-u-s c =
    next_z (as_sides c.args.s) (as_cell c.args.u) c.requires.1 (omega arith)

pub returns-then-u-s-2 : goal.returns-then-u-s-2
returns-then-u-s-2 c =
    next_y (as_sides c.args.s) (as_cell c.args.u) c.requires.1 (omega arith) (omega arith)

pub returns : goal.returns
returns c =
    next_x (as_sides c.args.s) (as_cell c.args.u) c.requires.1 (omega arith) (omega arith)
