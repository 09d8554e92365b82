use Prim.Native.Nat.{ℕ, ◌+◌, ◌*◌, ◌^◌, ◌<◌}
use mathlib.Core.Bool.{Bool, ◌&&◌}
use mathlib.Core.List.{List, ◌∷◌}
use mathlib.Core.Path.{◌≡◌, sym, ap, ◌∙◌, subst}
use native.Mathlib.Omega.{arith}
use mir.Syntax.{w64}
use mir.Val.{Fits}
use lib.Dec.{eqb}
use lib.ListN.{get_or}
use Rattle.masks.specs.Masks.{has, SameCells}
use Rattle.masks.specs.declared.Mask.{Mask}
use Rattle.masks.proofs.MaskLaws.{same_cells}
use Rattle.rows.specs.Rows.{cells_of, mask_at}
use Rattle.rows.proofs.RowRangeLaws.{are_same, are_apart, Passed, find_none, find_beyond, find_start, find_hit, find_next, find_end, end_most}
use Rattle.rows.proofs.images.find_row.Goals as goal

-- whether a row has the cells of a mask, told by their words
cells-same : (work : List ℕ) (r : ℕ) (m n : Mask) (b : Bool) → m ≡ mask_at work r → ((i : ℕ) → Fits w64 (get_or work i 0)) → n.low < 2 ^ 64 → n.high < 2 ^ 64
    → b ≡ (eqb m.low n.low && eqb m.high n.high) → SameCells b (has m) (has n)
unfolding mask_at
cells-same work r m n b is fits low high e =
    let x = fits (8 * r) in
    let y = fits (8 * r + 1) in
    let p = ap (λ (k : Mask). k.low) is in
    let q = ap (λ (k : Mask). k.high) is in
    same_cells b m n (omega arith) (omega arith) low high e

pub returns-then-c-eq128 : goal.returns-then-c-eq128
returns-then-c-eq128 c =
    let a = c.args in
    find_none a.work.now a.rows a.kind a.mask a.chart.now.starts c.requires.2 c.requires.3 c.requires.4 c.next_cell-c.result
    c.next_cell-c.ensures c.if-c-eq128.true

pub returns-then-kind-ge16 : goal.returns-then-kind-ge16
returns-then-kind-ge16 c =
    let a = c.args in
    find_beyond a.work.now a.rows a.kind a.mask a.chart.now.starts c.requires.2 c.requires.3 c.requires.4 c.next_cell-c.result
    c.next_cell-c.ensures c.if-kind-ge16.true

pub loop-r-init : goal.loop-r-init
loop-r-init c =
    let a = c.args in
    let small : c.next_cell-c.result < 128 = omega (arith, c.next_cell-c.ensures.up_to) in
    subst (Passed a.work.now (a.kind ∷ cells_of a.mask)) (sym c.start_at-start.ensures)
    (find_start a.work.now a.rows a.kind a.mask a.chart.now.starts c.requires.2 c.requires.3 c.requires.4 c.next_cell-c.result
    c.next_cell-c.ensures c.if-kind-ge16.false small)

-- a row of the range is one of the rows
pub mask_at-requires : goal.mask_at-requires
mask_at-requires c =
    let a = c.args in
    let small : c.next_cell-c.result < 128 = omega (arith, c.next_cell-c.ensures.up_to) in
    let most = end_most a.work.now a.rows a.kind a.mask a.chart.now.starts c.requires.2 c.requires.3 c.requires.4 c.next_cell-c.result
    c.next_cell-c.ensures c.if-kind-ge16.false small in
    omega (arith, most)

pub returns-then-eq : goal.returns-then-eq
returns-then-eq c =
    let a = c.args in
    let l = c.loop-r in
    let small : c.next_cell-c.result < 128 = omega (arith, c.next_cell-c.ensures.up_to) in
    let same : has (mask_at a.work.now l.r) ≡ has a.mask
    = ap has (sym c.mask_at.ensures) ∙ are_same c.eq.result _ _ c.if-eq.true (cells-same c.args.work.now l.r c.mask_at.result a.mask c.eq.result c.mask_at.ensures c.type_inv.work (omega arith) (omega arith) c.eq.ensures) in
    find_hit a.work.now a.rows a.kind a.mask a.chart.now.starts c.requires.2 c.requires.3 c.requires.4 c.next_cell-c.result
    c.next_cell-c.ensures c.if-kind-ge16.false small l.r (omega (arith, c.start_at-start.ensures)) (omega (arith, c.start_at-end.ensures)) same l.invariant

pub loop-r-preserved : goal.loop-r-preserved
unfolding mask_at
loop-r-preserved c =
    let a = c.args in
    let l = c.loop-r in
    find_next a.work.now a.rows a.kind a.mask l.r (omega (arith, c.type_inv.work (8 * l.r + 1))) (omega arith)
    (λ e. are_apart c.eq.result _ _ c.if-eq.false (cells-same c.args.work.now l.r c.mask_at.result a.mask c.eq.result c.mask_at.ensures c.type_inv.work (omega arith) (omega arith) c.eq.ensures) (ap has c.mask_at.ensures ∙ e)) l.invariant

pub returns : goal.returns
returns c =
    let a = c.args in
    let small : c.next_cell-c.result < 128 = omega (arith, c.next_cell-c.ensures.up_to) in
    find_end a.work.now a.rows a.kind a.mask a.chart.now.starts c.requires.2 c.requires.3 c.requires.4 c.next_cell-c.result
    c.next_cell-c.ensures c.if-kind-ge16.false small c.loop-r.r (omega (arith, c.start_at-end.ensures)) c.loop-r.invariant
