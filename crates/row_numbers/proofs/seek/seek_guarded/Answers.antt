use native.Mathlib.Omega.{arith}
use Rattle.bindings.proofs.Owning.{first_binds, its_space}
use Rattle.row_numbers.proofs.Effects.{effects_none, effects_next}
use Rattle.row_numbers.proofs.seek.seek_guarded.Goals as goal

pub loop-i-init : goal.loop-i-init
loop-i-init c = ((λ lt. first_binds _ _ 32), omega arith, omega arith, effects_none _ _, its_space c.args.transition.now c.plan.ensures.is c.plan.ensures.known c.number.ensures.is c.number.ensures.inside c.space_of-i-end.ensures.is)

pub loop-i-preserved : goal.loop-i-preserved
loop-i-preserved c = let size = c.loop-i.invariant.4 in let binds = c.loop-i.invariant.0 c.loop-i-test.true in ((λ lt. c.next_binding.ensures c.loop-i.i (omega (arith, size)) binds), omega (arith, c.count_one.ensures.small), omega arith, omega (arith, c.loop-i.invariant.3, effects_next _ _ c.loop-i.i (c.count_one.ensures.is c.loop-i.i binds)), size)
