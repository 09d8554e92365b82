-- `State::begin` meets its contract. Assumes nothing.
use native.Mathlib.Omega.{arith}
use Rattle.fast.proofs.ListingLaws.{left_end}
use Rattle.fast.proofs.state.State.begin.Goals as goal

pub returns : goal.returns
returns c =
    let l = c.loop-k in
    (c.new.ensures, left_end c.args.chart.now l.left c.args.kinds (omega arith) (λ j h. l.invariant.1 j (omega arith)))
