-- `texts::put_decimal` meets its contract: the digits of the tenth are put first, and the last digit behind them. Assumes nothing.
use native.Mathlib.Omega.{arith}
use Rattle.texts.proofs.DecimalLaws.{digits_of_tenth, put_digit, put_last_digit}
use Rattle.texts.proofs.+put_decimal.Goals as goal

pub returns-then-n-lt10 : goal.returns-then-n-lt10
returns-then-n-lt10 t c = let a = c.args in (put_digit a.out.now a.at a.n (omega arith) (omega arith), omega arith)

pub bounds-out-end : goal.bounds-out-end
bounds-out-end t c = omega (arith, digits_of_tenth c.args.n (omega arith))

pub returns : goal.returns
returns t c =
    let a = c.args in
    let p = c.put_decimal-end.ensures.0 in
    let d = digits_of_tenth a.n (omega arith) in
    let e = p.end in
    (put_last_digit a.n (omega arith) (omega arith) p (omega arith), omega arith)
