use native.Mathlib.Omega.{arith}
use mathlib.Core.Path.{sym, ap, ◌∙◌}
use Rattle.reading.specs.Basics.{product}
use Rattle.firing.specs.Firing.{nothing}
use Rattle.firing.proofs.Running.{search_begin, below_step, below_found, below_none}
use Rattle.prepared.specs.internal.Drawn.{its_net}
use Rattle.bindings.specs.internal.Bindings.{its_sizes}
use Rattle.bindings.proofs.Owning.{first_binds, its_space}
use Rattle.search.proofs.engine.Marked.search_bindings.Goals as goal

pub loop-i-init : goal.loop-i-init
loop-i-init g c = record { seeking = search_begin _ _; binds = λ some. first_binds (its_net c.args.transition.now) c.args.transition.now.number 32; all = its_space c.args.transition.now c.plan.ensures.is c.plan.ensures.known c.number.ensures.is c.number.ensures.inside c.space_of-many.ensures.is }

pub returns-then-fires_bound-clause-is : goal.returns-then-fires_bound-clause-is
returns-then-fires_bound-clause-is g c =
    let told = c.fires_bound.ensures _ (c.loop-i.invariant.binds (omega arith)) in
    below_found _ (product (its_sizes c.args.transition.now)) c.loop-i.invariant.seeking (omega (arith, c.loop-i.invariant.all)) (sym told ∙ c.if-fires_bound.true)

pub loop-i-preserved : goal.loop-i-preserved
loop-i-preserved g c =
    let told = c.fires_bound.ensures _ (c.loop-i.invariant.binds (omega arith)) in
    record {
      seeking = below_step _ (product (its_sizes c.args.transition.now)) c.loop-i.invariant.seeking (omega (arith, c.loop-i.invariant.all)) (sym told ∙ c.if-fires_bound.false);
      binds = λ more. c.next_binding.ensures _ (omega (arith, c.loop-i.invariant.all)) (c.loop-i.invariant.binds (omega arith));
      all = c.loop-i.invariant.all;
    }

pub returns-clause-is : goal.returns-clause-is
returns-clause-is g c = below_none _ (product (its_sizes c.args.transition.now)) c.loop-i.invariant.seeking (omega (arith, c.loop-i.invariant.all)) ∙ ap nothing (sym c.loop-i.invariant.all)
