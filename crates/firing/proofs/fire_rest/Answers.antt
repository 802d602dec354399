use Rattle.std.proofs.Common.{arith}
use Rattle.firing.proofs.fire_rest.Goals as goal

pub returns : goal.returns
returns c proper none = c.move_row.ensures _ _ (λ p. omega arith) proper (c.rest_answer-answer.ensures proper none)
