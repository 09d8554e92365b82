-- `put_cells` meets its contract. The loop's invariant: the nodes of the cells before c are laid. Assumes nothing.
use Prim.Native.Nat.{ℕ, ◌+◌, ◌≤◌, ◌<◌}
use mathlib.Core.Bool.{Bool, true, false}
use mathlib.Core.List.{List, [], ◌∷◌}
use mathlib.Core.Path.{◌≡◌, sym, ◌∙◌, subst}
use native.Mathlib.Omega.{arith}
use Rattle.lists.specs.Lists.{below, how_many}
use Rattle.lists.proofs.CountLaws.{count_more}
use Rattle.masks.specs.Masks.{has}
use Rattle.knuth.specs.Matrix.{Laid}
use Rattle.knuth.proofs.LaidLaws.{cells_hit, cells_miss, count_hit, count_miss, laid_none}
use Rattle.knuth.proofs.building.put_cells.Goals as goal
use Rattle.knuth.proofs.building.put_cells.Goals.{then-has_cell, else-has_cell}

-- there is room for the node of a cell that is in the mask
room : (p : ℕ → Bool) (i n x at : ℕ) → i < n → p i ≡ true → at ≡ x + how_many p (below i) → x + how_many p (below n) ≤ 4096 → at < 4096
room p i n x at h b e l = omega (arith, count_hit p i b, count_more p (i + 1) n (omega arith))

pub loop-c-init : goal.loop-c-init
loop-c-init c = (omega arith, laid_none _ _)

pub put_node-requires : goal.put_node-requires
put_node-requires c =
    let l = c.loop-c in
    let k = c.args.kind in
    let r = room (has c.args.mask) l.c c.args.n (k.first + 1) l.at (omega arith) (sym c.has_cell.ensures ∙ c.if-has_cell.true) l.invariant.0 c.requires.1 in
    (r, omega arith, omega arith, c.requires.2, c.requires.3)

pub overflow_add-at-then-has_cell : goal.overflow_add-at-then-has_cell
overflow_add-at-then-has_cell c =
    let l = c.loop-c in
    let k = c.args.kind in
    let r = room (has c.args.mask) l.c c.args.n (k.first + 1) l.at (omega arith) (sym c.has_cell.ensures ∙ c.if-has_cell.true) l.invariant.0 c.requires.1 in
    omega arith

pub loop-c-preserved : goal.loop-c-preserved
loop-c-preserved c =
    let a = c.args in
    let k = a.kind in
    let l = c.loop-c in
    let p = has a.mask in
    elim c.if-has_cell.branch [
      | then-has_cell w ↦ let b : p l.c ≡ true = sym c.has_cell.ensures ∙ w.if-has_cell.true in (
        omega (arith, w.at-is, l.invariant.0, count_hit p l.c b),
        cells_hit p k.first k.end k.row a.links.now l.links c.if-has_cell.links (k.first + 1) l.at l.c l.invariant.0 l.invariant.1 b
            (subst (λ (m : List ℕ). Laid l.links l.at m (record { column = l.c; first = k.first; end = k.end; row = k.row } ∷ []))
            (sym w.links-is) w.put_node.ensures),
      )
      | else-has_cell w ↦ let b : p l.c ≡ false = sym c.has_cell.ensures ∙ w.if-has_cell.false in (
        omega (arith, w.at-is, l.invariant.0, count_miss p l.c b),
        cells_miss p k.first k.end k.row a.links.now l.links c.if-has_cell.links (k.first + 1) l.at l.c l.invariant.0 l.invariant.1 b w.links-is,
      )
    ]
