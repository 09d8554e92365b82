-- `texts::put_decimal` calls itself with the number's tenth, so the measure is the number.
use Rattle.texts.proofs.+put_decimal.Given as goal

abbrev pub decreases-put_decimal : goal.decreases-put_decimal
decreases-put_decimal l = l.n
