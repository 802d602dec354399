use native.Mathlib.Omega.{arith}
use mathlib.Core.Path.{sym}
use borrow.Author.Tests.{le-ltb}
use Rattle.net_transitions.proofs.Spaces.{past}
use Rattle.net_transitions.proofs.space.has.Goals as goal

pub returns-else-v-lt32 : goal.returns-else-v-lt32
returns-else-v-lt32 c = rw (le-ltb c.args.v 32 (omega arith)) (sym (past c.args.uses 32 c.args.v (omega arith) (omega arith)))
