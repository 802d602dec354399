use Rattle.std.proofs.Common.{ap, arith, ◌∙◌}
use Rattle.net.specs.internal.ReaderEnums.{answer_of}
use Rattle.arc_expressions.proofs.Expressions.{one_whole, one_fails}
use Rattle.arc_expressions.proofs.expression.one_at.Goals as goal

pub returns-then-k-from-clause-is : goal.returns-then-k-from-clause-is
returns-then-k-from-clause-is c places =
    ap answer_of c.refused.ensures ∙ one_fails _ _ _ _ _ _ _ (c.in_ok-k.ensures places) (λ e. c.if-k-from.true (omega arith))

pub returns-clause-is : goal.returns-clause-is
returns-clause-is c places = rw c.from-2.ensures (one_whole _ _ _ _ _ _ _ (c.in_ok-k.ensures places) (omega arith))
