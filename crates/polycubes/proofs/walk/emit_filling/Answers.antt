-- `emit_filling` meets its contract: the cells behind the sides are the grid's, and the entry's bytes are those of the grid. Assumes nothing.
use Prim.Native.Nat.{ℕ, ◌+◌, ◌-◌}
use mathlib.Core.List.{List}
use mathlib.Core.Path.{◌≡◌, sym, ap, ◌∙◌}
use native.Mathlib.Omega.{arith}
use lib.ListN.{length, take, drop}
use borrow.Rule.Slice.PartMut.{mid_of}
use Rattle.definitions.specs.Grid.{volume}
use Rattle.definitions.specs.Catalogue.{grid_in_box, is_smallest_piece}
use Rattle.shape.specs.Coords.{as_sides}
use Rattle.shape.proofs.GridTestLaws.{short_cells}
use Rattle.polycubes.specs.Walk.{front_of}
use Rattle.polycubes.proofs.FillingLaws.{front_length}
use Rattle.polycubes.proofs.WalkLaws.{an_entry, no_entry}
use Rattle.polycubes.proofs.walk.emit_filling.Goals as goal
use Rattle.polycubes.proofs.walk.emit_filling.Goals.{After-volume_of}

-- the part that is lent as the grid's cells
part : (c : After-volume_of) → mid_of 3 (3 + c.volume_of.result - 3) c.args.entry.now ≡ front_of c.args.entry.now (volume (as_sides c.args.sides))
unfolding front_of
part c =
    let v = c.volume_of.ensures.0 ∙ short_cells (as_sides c.args.sides) c.requires.0 in
    let e : 3 + c.volume_of.result - 3 ≡ volume (as_sides c.args.sides) = omega arith in
    ap (λ (n : ℕ). take n (drop 3 c.args.entry.now)) e

pub invariant_of-grid : goal.invariant_of-grid
invariant_of-grid c =
    let f = c.requires.1 in
    let is = part (goal.at.invariant_of-grid c).After-volume_of in
    let many = front_length c.args.entry.now c.told-entry (volume (as_sides c.args.sides)) f.small in
    record { whole = record { short = c.requires.0; size = ap (λ (l : List ℕ). length l) is ∙ many } }

pub returns-then-not-is_smallest_piece : goal.returns-then-not-is_smallest_piece
returns-then-not-is_smallest_piece c =
    let is = part (goal.at.returns-then-not-is_smallest_piece c).After-volume_of in
    no_entry c.args.entry.now c.told-entry c.requires.1 _ _
    (sym c.if-not-is_smallest_piece.true ∙ c.is_smallest_piece.ensures ∙ ap (λ (l : List ℕ). is_smallest_piece (grid_in_box (as_sides c.args.sides) l)) is)

pub returns : goal.returns
returns c =
    let is = part (goal.at.returns c).After-volume_of in
    c.emit.ensures ∙ an_entry c.args.entry.now c.told-entry c.requires.1 _ _
    (sym c.if-not-is_smallest_piece.false ∙ c.is_smallest_piece.ensures ∙ ap (λ (l : List ℕ). is_smallest_piece (grid_in_box (as_sides c.args.sides) l)) is)
