use Rattle.std.proofs.Common.{◌≡◌, ◌^◌, ◌<◌, drop}
use Rattle.lists.specs.Lists.{all}
use Rattle.definitions.specs.Files.{is_digit, number_from}
use Rattle.files.proofs.fields.number_in.Given as goal

abbrev pub invariant-loop-digit : goal.invariant-loop-digit
invariant-loop-digit l =
    (l.number < 10 ^ l.digit-index) × (number_from l.number (drop l.digit-index l.digits) ≡ number_from 0 l.digits)
    × (all is_digit (drop l.digit-index l.digits) ≡ all is_digit l.digits)
