-- `has_copies` meets its contract: a row's kind is one of the system's, of which there are at most 16. Assumes nothing.
use native.Mathlib.Omega.{arith}
use Rattle.rows.proofs.ReadyLaws.{row_kind}
use Rattle.rows.proofs.StandingLaws.{stands}
use Rattle.dlx.proofs.text.has_copies.Goals as goal

pub copies_of-requires : goal.copies_of-requires
copies_of-requires c =
    let s = c.args.system.now in
    let k = row_kind s.d s.work.now s.chart.now (stands s).lawful c.args.r c.requires in
    let few = s.sized.few_kinds in
    omega arith
