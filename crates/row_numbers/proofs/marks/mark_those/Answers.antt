use native.Mathlib.Omega.{arith}
use mathlib.Core.Path.{ap, ◌∙◌}
use Prim.Native.Nat.{◌+◌}
use mir.Val.{bool_byte}
use Rattle.prepared.specs.internal.Drawn.{its_net}
use Rattle.bindings.proofs.Owning.{first_binds, its_space}
use Rattle.row_numbers.proofs.Effects.{effects_none, effects_next, effects-most}
use Rattle.row_numbers.proofs.Tabled.{one_if}
use Rattle.row_numbers.proofs.Marking.{marking_none, marking_goes}
use Rattle.row_numbers.proofs.marks.mark_those.Goals as goal

pub loop-i-init : goal.loop-i-init
loop-i-init c = ((λ lt. first_binds _ _ 32), omega arith, effects_none _ _, (λ blank. marking_none _ _ blank), its_space c.args.transition.now c.plan.ensures.is c.plan.ensures.known c.number.ensures.is c.number.ensures.inside c.space_of-i-end.ensures.is)

pub loop-i-preserved : goal.loop-i-preserved
loop-i-preserved c = let size = c.loop-i.invariant.4 in let binds = c.loop-i.invariant.0 c.loop-i-test.true in let (is, set) = c.mark_one.ensures c.loop-i.i binds in let next = effects_next _ _ c.loop-i.i (c.from-count.ensures ∙ ap bool_byte is ∙ one_if _) in ((λ lt. c.next_binding.ensures c.loop-i.i (omega (arith, size)) binds), omega (arith, c.loop-i.invariant.2, next, effects-most (its_net c.args.transition.now) c.args.transition.now.number (c.loop-i.i + 1)), omega (arith, c.loop-i.invariant.2, next), (λ blank. marking_goes _ _ (omega (arith, size)) (c.loop-i.invariant.3 blank) set), size)
