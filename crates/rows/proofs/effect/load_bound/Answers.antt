use native.Mathlib.Omega.{arith}
use Rattle.std.proofs.Common.{ap, not}
use Rattle.rows.proofs.Fires.{none_fires, lack_fires, row_ready}
use Rattle.rows.proofs.effect.load_bound.Goals as goal

pub returns-then-not-has_effect-clause-told : goal.returns-then-not-has_effect-clause-told
returns-then-not-has_effect-clause-told c = λ colours binds x sized. (omega arith, omega arith, none_fires _ _ _ (c.has_effect.ensures colours binds) (ap not c.if-not-has_effect.true))

pub returns-then-some_lacks-clause-told : goal.returns-then-some_lacks-clause-told
returns-then-some_lacks-clause-told c = λ colours binds x sized. (omega arith, omega arith, lack_fires _ _ c.args.env.now _ c.load_kind-takes.ensures.inside colours binds _ sized (c.has_effect.ensures colours binds) (ap not c.if-not-has_effect.false) x (rw c.bound-bound.ensures.is.2 at c.load_kind-takes.ensures.is) c.some_lacks.ensures c.if-some_lacks.true)

pub returns-clause-told : goal.returns-clause-told
returns-clause-told c = λ colours binds x sized. row_ready _ _ c.args.env.now _ c.load_kind-takes.ensures.inside colours binds _ sized (c.has_effect.ensures colours binds) (ap not c.if-not-has_effect.false) x (rw c.bound-bound.ensures.is.2 at c.load_kind-takes.ensures.is) c.some_lacks.ensures c.if-some_lacks.false c.load_kind-takes.auto.room (rw c.bound-bound.ensures.is.2 at c.load_rest.ensures.is)
