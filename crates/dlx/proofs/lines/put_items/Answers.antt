-- The cells are put, the kinds behind them, and a line feed. Assumes nothing.
use Rattle.std.proofs.Common.{arith, map}
use Rattle.lists.specs.Lists.{below}
use Rattle.rows.specs.Charts.{kind_copies}
use Rattle.rows.specs.Systems.{system_in, system_over}
use Rattle.dlx.proofs.LineLaws.{put_first_line}
use Rattle.dlx.proofs.lines.put_items.Goals as goal

pub returns : goal.returns
unfolding system_in system_over
returns c =
    let s = c.args.system.now in
    let few = s.sized in
    let z = c.put_kinds-end.ensures in
    let y = c.put_board-bar.ensures in
    (put_first_line s.d.size (map (kind_copies s.chart.now.kinds) (below s.d.kinds)) c.requires.0 y.0 z.0 (omega arith), omega arith)
