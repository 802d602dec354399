use native.Mathlib.Omega.{arith}
use mathlib.Core.Path.{refl, ◌∙◌}
use Rattle.prepared.specs.internal.Drawn.{its_net}
use Rattle.bindings.proofs.Owning.{first_binds, its_space}
use Rattle.row_numbers.proofs.Effects.{effects_none, effects_next}
use Rattle.row_numbers.proofs.Tabled.{number_none, number_turn, same-below}
use Rattle.row_numbers.proofs.walk.number_those.Goals as goal

pub loop-i-init : goal.loop-i-init
loop-i-init c = ((λ lt. first_binds _ _ 32), omega arith, omega (arith, effects_none (its_net c.args.transition.now) c.args.transition.now.number), (λ room. number_none _ _ _ _ _), (λ j lt. refl), its_space c.args.transition.now c.plan.ensures.is c.plan.ensures.known c.number.ensures.is c.number.ensures.inside c.space_of-i-end.ensures.is)

pub loop-i-preserved : goal.loop-i-preserved
loop-i-preserved c = let size = c.loop-i.invariant.5 in let binds = c.loop-i.invariant.0 c.loop-i-test.true in let one = c.count_one.ensures.is c.loop-i.i binds in ((λ lt. c.next_binding.ensures c.loop-i.i (omega (arith, size)) binds), omega (arith, c.count_one.ensures.small), omega (arith, c.loop-i.invariant.2, effects_next _ _ c.loop-i.i one), (λ room. number_turn _ _ (omega (arith, size, c.loop-i.auto.numbers)) c.loop-i.invariant.2 one c.number_of.ensures.row c.number_of.ensures.none c.store.ensures (c.loop-i.invariant.3 room)), (λ j lt. same-below c.loop-i.numbers c.args.base c.loop-i.i j c.number_of.result c.store.ensures lt ∙ c.loop-i.invariant.4 j lt), size)
