use native.Mathlib.Omega.{arith}
use Rattle.rows.proofs.Effects.{takes_loaded}
use Rattle.rows.proofs.effect.load_row.Goals as goal

pub returns-clause-is : goal.returns-clause-is
returns-clause-is c = λ colours binds x. (rw c.bound-bound.ensures.is.2 at c.load_rest.ensures.is) colours binds (omega (arith, c.load_kind-takes.auto.room)) (takes_loaded _ _ c.args.env.now _ c.load_kind-takes.ensures.inside colours binds x (rw c.bound-bound.ensures.is.2 at c.load_kind-takes.ensures.is))
