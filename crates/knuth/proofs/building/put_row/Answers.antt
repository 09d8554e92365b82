-- `put_row` meets its contract: the node of the row's kind, then the nodes of its cells. Assumes nothing.
use Prim.Native.Nat.{ℕ, suc, ◌+◌, ◌≤◌, ◌<◌}
use mathlib.Core.Path.{◌≡◌, refl, ap, ◌∙◌}
use native.Mathlib.Omega.{arith}
use Rattle.std.specs.Prelude.{count_by}
use Rattle.std.specs.List.{range_with_len}
use Rattle.lists.specs.Lists.{below, how_many}
use Rattle.masks.specs.Masks.{has}
use Rattle.masks.specs.declared.Mask.{Mask}
use Rattle.rows.specs.Rows.{mask_at, row_at}
use Rattle.rows.specs.declared.row_system.RowSystem.{RowSystem}
use Rattle.rows.proofs.ReadyLaws.{row_kind}
use Rattle.rows.proofs.StandingLaws.{stands}
use Rattle.knuth.proofs.LaidLaws.{counted, row_size, row_laid}
use Rattle.knuth.proofs.building.put_row.Goals as goal

-- where the row's nodes end, by the mask that was read
ends : (m mask : Mask) (n x count : ℕ) → m ≡ mask → count ≡ count_by (has m) (range_with_len 0 n) → x + suc (how_many (has mask) (below n)) ≤ 4096
    → x + 1 + count ≤ 4096
ends m mask n x count e f l = omega (arith, f ∙ counted (has m) n, ap (λ (k : Mask). how_many (has k) (below n)) e)

-- the kind of a row is one of the system's
row_kind_below : (s : RowSystem) (r : ℕ) → r < s.d.rows → (row_at s.work.now r).kind < s.d.kinds
row_kind_below s r h = row_kind s.d s.work.now s.chart.now (stands s).lawful r h

pub overflow_add-kind : goal.overflow_add-kind
overflow_add-kind c =
    let kind = row_kind_below c.args.system.now c.args.r c.requires.0 in
    omega (arith, c.kind_at.ensures)

pub overflow_add-end-2 : goal.overflow_add-end-2
overflow_add-end-2 c =
    let a = c.args in
    let e = ends c.mask_at-mask.result (mask_at a.system.now.work.now a.r) a.system.now.d.size a.x c.count_cells.result c.mask_at-mask.ensures c.count_cells.ensures c.requires.1 in
    omega arith

pub put_node-requires : goal.put_node-requires
put_node-requires c =
    let a = c.args in
    let e = ends c.mask_at-mask.result (mask_at a.system.now.work.now a.r) a.system.now.d.size a.x c.count_cells.result c.mask_at-mask.ensures c.count_cells.ensures c.requires.1 in
    let kind = row_kind_below a.system.now a.r c.requires.0 in
    (omega arith, omega (arith, c.kind_at.ensures), omega arith, omega arith, omega arith)

pub put_cells-requires : goal.put_cells-requires
put_cells-requires c =
    let a = c.args in
    let m = c.mask_at-mask in
    let e = ends m.result (mask_at a.system.now.work.now a.r) a.system.now.d.size a.x c.count_cells.result m.ensures c.count_cells.ensures c.requires.1 in
    (a.system.now.sized.few_cells, omega (arith, c.count_cells.ensures ∙ counted (has m.result) a.system.now.d.size), omega arith, omega arith)

pub returns : goal.returns
returns c =
    let a = c.args in
    let w = a.system.now.work.now in
    let m = c.mask_at-mask in
    let k = c.kind_at in
    let n = c.count_cells in
    let many = n.ensures ∙ counted (has m.result) a.system.now.d.size in
    let end = a.x + 1 + n.result in (
      row_size a.system.now.d.size a.x a.r (mask_at w a.r) m.result m.ensures (row_at w a.r).kind k.result n.result end k.ensures many refl,
      row_laid a.system.now.d.size a.x a.r (mask_at w a.r) m.result m.ensures (row_at w a.r).kind k.result n.result end k.ensures many refl
          a.links.now _ _ c.put_node.ensures c.put_cells.ensures,
    )
