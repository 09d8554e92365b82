-- The parts that the chain gives are the line's fields. Assumes nothing.
use Rattle.std.proofs.Common.{eqb, length, ap, ◌∙◌, rules, tests}
use Rattle.std.proofs.lemmas.Iterator.Consumers.{count_from_yields_List}
use Rattle.std.proofs.lemmas.Iterator.Splits.{YieldsList-from_slice_split}
use Rattle.definitions.specs.Files.{fields_of}
use Rattle.files.proofs.PartLaws.{parts_are}
use Rattle.files.proofs.fields.count_fields.Goals as goal

pub returns : goal.returns
unfolding fields_of
returns c =
    let line = c.args.line.now in
    let split = c.split.ensures in
    count_from_yields_List c.split.result _ c.count.ensures.ran
    (YieldsList-from_slice_split _ (λ x. eqb x 9) line split.rest split.done split.closure (λ x b q k. search (rules, tests)))
    ∙ ap length (parts_are 9 line)
