use Rattle.std.proofs.Common.{ap, arith, ◌∙◌}
use Rattle.net.specs.internal.ReaderEnums.{answer_of}
use Rattle.arc_expressions.proofs.Expressions.{two_whole, first_differs, second_differs}
use Rattle.arc_expressions.proofs.expression.two_at.Goals as goal
use Rattle.arc_expressions.proofs.expression.two_at.Goals.{then-a-from-via-then-a-from, then-a-from-via-else-a-from+then-b-from}

pub returns-then-a-from-clause-is : goal.returns-then-a-from-clause-is
returns-then-a-from-clause-is c places = ap answer_of c.refused.ensures ∙ elim c.then-a-from.branch [
  | then-a-from-via-then-a-from w ↦ first_differs _ _ _ _ _ _ _ _ (c.in_ok-a.ensures places) (c.in_ok-b.ensures places) (λ e. w.if-a-from.true (omega arith))
  | then-a-from-via-else-a-from+then-b-from w ↦ second_differs _ _ _ _ _ _ _ _ (c.in_ok-a.ensures places) (c.in_ok-b.ensures places) (λ e. w.if-b-from.true (omega arith))
]

pub returns-clause-is : goal.returns-clause-is
returns-clause-is c places = rw c.from-2.ensures (two_whole _ _ _ _ _ _ _ _ (c.in_ok-a.ensures places) (c.in_ok-b.ensures places) (omega arith) (omega arith))
