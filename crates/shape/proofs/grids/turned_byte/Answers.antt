-- `turned_byte` meets its contract: the turned grid of a grid that is whole has no byte behind its places. Assumes nothing.
use Prim.Native.Nat.{◌≤◌}
use mathlib.Core.Path.{sym, ap, ◌∙◌}
use native.Mathlib.Omega.{arith}
use borrow.Author.Rules.{rules}
use lib.ListN.{length, get_or, get_or-eq_default}
use Rattle.definitions.specs.Grid.{Grid}
use Rattle.definitions.specs.Maps.{map_of, map_grid}
use Rattle.shape.specs.Grids.{as_grid, Whole}
use Rattle.shape.proofs.GridLaws.{turned_length}
use Rattle.shape.proofs.GridTestLaws.{lent_grid, whole_reads, broken_reads}
use Rattle.shape.proofs.grids.turned_byte.Goals as goal

pub returns-in-Some : goal.returns-in-Some
returns-in-Some c =
    let a = c.args in
    let whole : Whole a.s a.cells.now = search rules in
    let lent = lent_grid c.in-Some.grid c.in-Some.ensures.fields in
    c.turned_byte.ensures ∙ ap (λ (h : Grid). get_or (map_grid (map_of a.m.0) h).cells a.j 0) lent ∙ sym (whole_reads a.s a.cells.now whole _)

pub returns-in_default : goal.returns-in_default
returns-in_default c =
    let a = c.args in
    let g = as_grid a.s a.cells.now in
    let whole : Whole a.s a.cells.now = search rules in
    let past : length (map_grid (map_of a.m.0) g).cells ≤ a.j = omega (arith, turned_length a.m.0 g, whole.size) in
    sym (whole_reads a.s a.cells.now whole _ ∙ get_or-eq_default (map_grid (map_of a.m.0) g).cells 0 past)

pub returns-in_default-2 : goal.returns-in_default-2
returns-in_default-2 c = broken_reads c.args.s c.args.cells.now (search rules) _
