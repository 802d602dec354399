use Rattle.std.proofs.Common.{arith, ◌∙◌}
use Rattle.prepared.specs.internal.Drawn.{its_net}
use Rattle.bindings.proofs.Legal.{guard_none, guard_told}
use Rattle.bindings.proofs.effects.has_effect.Goals as goal

pub returns-in-None : goal.returns-in-None
returns-in-None c = λ colours binds. let (p, lt) = c.guard.ensures.known in guard_none p lt colours c.in-None.ensures.is

pub returns-in-Some : goal.returns-in-Some
returns-in-Some c = λ colours binds. let (p, lt) = c.guard.ensures.known in let (some, is) = c.in-Some.ensures.is in grind arith ∙ guard_told p lt colours c.args.env.now c.guard_at.result is some binds (let (file, plan, env) = c.bound.ensures.is in rw (file, plan, env) at c.guard_at.ensures (its_net c.args.transition.now).places)
