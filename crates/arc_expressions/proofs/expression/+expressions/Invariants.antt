use Prim.Native.Nat.{◌+◌}
use Rattle.arc_expressions.proofs.expression.+expressions.Given as goal

abbrev pub decreases-joined : goal.decreases-joined
decreases-joined l = l.left + l.left + 1

abbrev pub decreases-multiplied : goal.decreases-multiplied
decreases-multiplied l = l.left + l.left + 1

abbrev pub decreases-read_expression : goal.decreases-read_expression
decreases-read_expression l = l.left + l.left
