use native.Mathlib.Omega.{arith}
use Rattle.evaluation.proofs.Values.{either_compared, variables_compared}
use Rattle.evaluation.proofs.evaluate.Bound.compared_at.Goals as goal

pub returns-in-Some-eq48 : goal.returns-in-Some-eq48
returns-in-Some-eq48 c = λ places at. rw (c.holds.ensures, c.element-x.ensures, c.element-y.ensures) (variables_compared _ _ _ _ _ at _ c.args.how c.in-Some-eq48.ensures.lookup.0.2 c.in-Some-eq48.len_at_least (omega arith) (omega arith))

pub returns : goal.returns
returns c = λ places at. rw c.holds-2.ensures (either_compared _ _ _ _ at _ _ _ (c.colour_at-a.ensures.is places) (c.colour_at-b.ensures.is places) c.args.how)
