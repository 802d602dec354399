use native.Mathlib.Omega.{arith}
use Rattle.unfolding.proofs.Decimals.{next_decimal, decimal_none, decimal_last, decimal_more}
use Rattle.unfolding.proofs.text.+put_decimal.Goals as goal

pub returns-then-digits-lt1 : goal.returns-then-digits-lt1
returns-then-digits-lt1 t c = decimal_none _ _ c.if-digits-lt1.true

pub returns-then-n-lt10 : goal.returns-then-n-lt10
returns-then-n-lt10 t c = decimal_last _ _ c.if-digits-lt1.false (omega arith) c.put_digit.ensures

pub put_digit-requires-2 : goal.put_digit-requires-2
put_digit-requires-2 t c = omega (arith, next_decimal _ _ c.put_decimal-next.ensures)

pub returns : goal.returns
returns t c = decimal_more _ _ c.if-digits-lt1.false (omega arith) c.put_decimal-next.ensures c.put_digit-2.ensures
