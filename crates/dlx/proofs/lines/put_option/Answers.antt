-- The kind is put, the cells behind it, and a line feed. Assumes nothing.
use Rattle.std.proofs.Common.{take, arith}
use Rattle.rows.specs.Systems.{system_in, system_over}
use Rattle.rows.proofs.ReadyLaws.{row_kind}
use Rattle.rows.proofs.StandingLaws.{stands}
use Rattle.dlx.proofs.LineLaws.{put_option_line}
use Rattle.dlx.proofs.lines.put_option.Goals as goal

pub put_item-cells-requires : goal.put_item-cells-requires
put_item-cells-requires c =
    let s = c.args.system.now in
    let few = s.sized.few_kinds in
    let kind = row_kind s.d s.work.now s.chart.now (stands s).lawful c.args.r c.requires.0 in
    (omega arith, omega arith)

pub returns : goal.returns
unfolding system_in system_over
returns c =
    let s = c.args.system.now in
    let y = c.put_item-cells.ensures in
    let z = c.put_cells-end.ensures in
    let few = s.sized in
    (put_option_line s.work.now (take s.d.places s.chart.now.scans) c.args.r c.kind_at.result c.mask_at.result c.kind_at.ensures c.mask_at.ensures (omega arith) y.0 z.0 (omega arith), omega arith)
