-- `taken` meets its contract: the records that are there are copied, and behind them stand those of zeros. Assumes nothing.
use Rattle.std.proofs.Common.{List, ◌++◌, length, drop, replicate, ap, ◌∙◌}
use Rattle.definitions.specs.declared.Record.{Record}
use Rattle.placements.specs.Pieces.{no_record, pieces_of}
use Rattle.solver.proofs.RecordLaws.{taken_are}
use Rattle.solver.proofs.records.taken.Goals as goal

pub returns : goal.returns
unfolding pieces_of
returns c =
    let n = c.min-n in
    let are = ap (λ (l : List Record). l ++ drop n.result (replicate 16 no_record)) c.copy_from_slice.ensures.after
    ∙ taken_are c.args.pieces.now n.result n.ensures in
    λ i. record { records = are i; count = length c.args.pieces.now }
