use native.Mathlib.Omega.{arith}
use Rattle.rows.proofs.Effects.{effect_rest}
use Rattle.rows.proofs.effect.load_rest.Goals as goal

pub returns-clause-is : goal.returns-clause-is
returns-clause-is c = λ colours binds x k. effect_rest _ _ c.args.bound.now.env.now _ c.load_kind.ensures.inside colours binds _ _ _ _ _ _ x (omega arith) k c.load_kind.ensures.is c.load_kind-2.ensures.is
