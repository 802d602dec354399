use Rattle.std.proofs.Common.{ap, arith, ◌∙◌}
use Rattle.net.specs.Net.{ceiling, in_expression}
use Rattle.net.specs.internal.ReaderEnums.{bits, answer_of}
use Rattle.arc_expressions.specs.declared.operator.Operator.TheVariants.{Plus, Minus}
use Rattle.arc_expressions.proofs.Expressions.{joined-whole, times_whole, expression_past, expression_below, expression_above, expression_cut, expression_deep, amount_goes, all_goes, times_goes, plus_goes, minus_goes}
use Rattle.arc_expressions.proofs.expression.+expressions.Goals as goal
use Rattle.arc_expressions.proofs.expression.+expressions.Goals.{read_expression-then-b-lt64-via-then-b-lt64, read_expression-then-b-lt64-via-else-b-lt64+then-b-gt68}

pub joined-returns-in-Plus-clause-is : goal.joined-returns-in-Plus-clause-is
joined-returns-in-Plus-clause-is t c places =
    ap answer_of c.capped.ensures.is ∙ rw c.in-Plus.is (joined-whole _ _ _ _ _ _ Plus (c.in_ok-one.ensures.is places) (c.in_ok-two.ensures.is places))

pub joined-returns-in-Minus-clause-is : goal.joined-returns-in-Minus-clause-is
joined-returns-in-Minus-clause-is t c places =
    ap answer_of c.capped-in-Minus.ensures.is ∙ rw c.in-Minus.is (joined-whole _ _ _ _ _ _ Minus (c.in_ok-one.ensures.is places) (c.in_ok-two.ensures.is places))

pub multiplied-returns-clause-is : goal.multiplied-returns-clause-is
multiplied-returns-clause-is t c places =
    ap answer_of c.capped.ensures.is ∙ rw c.from.ensures (times_whole _ _ _ _ _ _ _ (c.in_ok-e.ensures.is places))

pub read_expression-returns-then-scope-at-clause-is : goal.read_expression-returns-then-scope-at-clause-is
read_expression-returns-then-scope-at-clause-is t c places = ap answer_of c.refused.ensures ∙ expression_past _ _ _ _ _ c.if-scope-at.true

pub read_expression-returns-then-b-lt64-clause-is : goal.read_expression-returns-then-b-lt64-clause-is
read_expression-returns-then-b-lt64-clause-is t c places = ap answer_of c.refused-then-b-lt64.ensures ∙ elim c.then-b-lt64.branch [
  | read_expression-then-b-lt64-via-then-b-lt64 w ↦ expression_below _ _ _ _ _ (omega arith) (omega arith)
  | read_expression-then-b-lt64-via-else-b-lt64+then-b-gt68 w ↦ expression_above _ _ _ _ _ (omega arith) (omega arith)
]

pub read_expression-returns-then-scope-next-clause-is : goal.read_expression-returns-then-scope-next-clause-is
read_expression-returns-then-scope-next-clause-is t c places =
    ap answer_of c.refused-then-scope-next.ensures ∙ expression_cut _ _ _ _ _ c.after-next.ensures (omega arith) (omega arith) (omega arith)

pub read_expression-returns-then-left-eq0-clause-is : goal.read_expression-returns-then-left-eq0-clause-is
read_expression-returns-then-left-eq0-clause-is t c places =
    ap answer_of c.refused-then-left-eq0.ensures ∙ expression_deep _ _ _ _ _ c.after-next.ensures (omega arith) (omega arith) (omega arith) (omega arith)

pub read_expression-returns-in-64-clause-is : goal.read_expression-returns-in-64-clause-is
read_expression-returns-in-64-clause-is t c places =
    c.amount_at.ensures.is places ∙ rw c.word_at-count.ensures.0 (amount_goes _ _ _ _ _ c.after-next.ensures (omega arith) (omega arith) c.in-64.is)

pub read_expression-returns-in-65-clause-is : goal.read_expression-returns-in-65-clause-is
unfolding bits ceiling in_expression
read_expression-returns-in-65-clause-is t c places =
    rw c.word_at.ensures.0 (all_goes _ _ _ _ _ c.after-next.ensures (omega arith) (omega arith) c.in-65.is)

pub read_expression-returns-in-66-clause-is : goal.read_expression-returns-in-66-clause-is
read_expression-returns-in-66-clause-is t c places =
    c.joined.ensures.is places ∙ plus_goes _ _ _ _ _ c.after-next.ensures (omega arith) (omega arith) c.in-66.is

pub read_expression-returns-in-67-clause-is : goal.read_expression-returns-in-67-clause-is
read_expression-returns-in-67-clause-is t c places =
    c.joined-in-67.ensures.is places ∙ minus_goes _ _ _ _ _ c.after-next.ensures (omega arith) (omega arith) c.in-67.is

pub read_expression-returns-in_default-clause-is : goal.read_expression-returns-in_default-clause-is
read_expression-returns-in_default-clause-is t c places =
    c.multiplied.ensures.is places ∙ rw c.word_at-factor.ensures.0 (times_goes _ _ _ _ _ c.after-next.ensures (omega arith) (omega arith) (omega arith))
