-- The part that the chain gives, and nothing where it gives none, is the line's field. Assumes nothing.
use Rattle.std.proofs.Common.{[], eqb, refl, get_or, ap, ◌∙◌, rules, tests}
use Rattle.std.proofs.lemmas.Iterator.Consumers.{nth_from_yields_List}
use Rattle.std.proofs.lemmas.Iterator.Splits.{YieldsList-from_slice_split}
use Rattle.definitions.specs.Files.{field, fields_of}
use Rattle.files.proofs.FieldLaws.{part_or}
use Rattle.files.proofs.PartLaws.{parts_are}
use Rattle.files.proofs.fields.field.Goals as goal

pub returns : goal.returns
unfolding field fields_of
returns c =
    let line = c.args.line.now in
    let split = c.split.ensures in
    part_or c.nth.result _ c.unwrap_or.result _ c.args.n c.unwrap_or.ensures refl
    (nth_from_yields_List c.nth.result _ c.args.n c.nth.ensures.ran
    (YieldsList-from_slice_split _ (λ x. eqb x 9) line split.rest split.done split.closure (λ x b q k. search (rules, tests))))
    ∙ ap (λ ws. get_or ws c.args.n []) (parts_are 9 line)
