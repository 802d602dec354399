use borrow.Author.Rules.{rules}
use native.Mathlib.Nat.{mul-one}
use borrow.Author.Tests.{lt-ltb, le-ltb}
use Rattle.reading.specs.Basics.{every}
use Rattle.net_parts.specs.internal.Steps.{colours_counted}
use Rattle.net_parts.proofs.place.colours_counted.Goals as goal

pub returns-in_err-size-in-One : goal.returns-in_err-size-in-One
unfolding colours_counted every
returns-in_err-size-in-One c = rw (c.from_residual.ensures, c.in-One.is) (search (rules, le-ltb))

pub returns-in_err-size-in-Two : goal.returns-in_err-size-in-Two
unfolding colours_counted every
returns-in_err-size-in-Two c = rw (c.from_residual-in_err-size-in-Two.ensures, c.in-Two.is) (search (rules, le-ltb))

pub returns-in_err-other-in-Two : goal.returns-in_err-other-in-Two
unfolding colours_counted every
returns-in_err-other-in-Two c = rw (c.from_residual-in_err-other-in-Two.ensures, c.in-Two.is) (search (rules, lt-ltb, le-ltb))

pub returns-in_ok-size-in-One : goal.returns-in_ok-size-in-One
unfolding colours_counted every
returns-in_ok-size-in-One c = rw c.in-One.is (search (rules, lt-ltb, mul-one))

pub returns-in_ok-other-in-Two : goal.returns-in_ok-other-in-Two
unfolding colours_counted every
returns-in_ok-other-in-Two c = rw c.in-Two.is (search (rules, lt-ltb, mul-one))
