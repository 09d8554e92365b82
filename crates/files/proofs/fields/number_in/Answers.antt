-- The digits are tested and added up in one loop; its invariant says that the digits left decide the test and continue the number. Assumes nothing.
use Rattle.std.proofs.Common.{◌≡◌, ◌<◌, ◌≤◌, true, length, get_or, sym, ◌∙◌, arith, rules}
use borrow.Author.Tests.{eqb-false}
use Rattle.definitions.specs.Files.{is_digit, number_in}
use Rattle.files.proofs.FieldLaws.{number_empty, number_long, number_digits, digit_stops, digit_passes, number_more, digits_over, number_over, digit_small, below_power}
use Rattle.files.proofs.fields.number_in.Goals as goal
use Rattle.files.proofs.fields.number_in.Goals.{then-is_empty-via-then-is_empty, then-is_empty-via-else-is_empty+then-most-digits}

pub returns-then-is_empty : goal.returns-then-is_empty
returns-then-is_empty c =
    elim c.then-is_empty.branch [
      | then-is_empty-via-then-is_empty w ↦ number_empty c.args.most c.args.digits.now (search rules)
      | then-is_empty-via-else-is_empty+then-most-digits w ↦ number_long c.args.most c.args.digits.now (omega arith)
    ]

pub returns-then-not-is_ascii_digit : goal.returns-then-not-is_ascii_digit
unfolding is_digit
returns-then-not-is_ascii_digit c =
    let ds = c.args.digits.now in
    let l = c.loop-digit in
    let some : 0 < length ds = omega arith in
    number_digits c.args.most ds some (omega arith) ∙ sym l.invariant.2 ∙ digit_stops ds l.digit-index (omega arith) (sym c.is_ascii_digit.ensures.value ∙ c.if-not-is_ascii_digit.true)

pub loop-digit-preserved : goal.loop-digit-preserved
unfolding is_digit
loop-digit-preserved c =
    let ds = c.args.digits.now in
    let l = c.loop-digit in
    let i = l.digit-index in
    let passed : is_digit (get_or ds i 0) ≡ true = sym c.is_ascii_digit.ensures.value ∙ c.if-not-is_ascii_digit.false in
    let small : get_or ds i 0 ≤ 57 = omega (arith, c.if-not-is_ascii_digit.ensures.cases) in
    (digit_small l.number i (get_or ds i 0) l.invariant.0 small, number_more ds i l.number (omega arith) ∙ l.invariant.1, digit_passes ds i (omega arith) passed ∙ l.invariant.2)

pub returns : goal.returns
unfolding number_in
returns c =
    let ds = c.args.digits.now in
    let l = c.loop-digit in
    let i = l.digit-index in
    let over : length ds ≤ i = omega arith in
    let f : length ds ≡ 0 → ⊥ = eqb-false (length ds) 0 (sym c.is_empty.ensures ∙ c.if-is_empty.false) in
    let some : 0 < length ds = omega arith in
    (number_digits c.args.most ds some (omega arith) ∙ sym l.invariant.2 ∙ digits_over ds i over, (sym (number_over ds i l.number over) ∙ l.invariant.1, below_power l.number i c.args.most l.invariant.0 (omega arith)))
