use native.Mathlib.Omega.{arith}
use mathlib.Core.Path.{refl}
use Prim.Native.Nat.{◌+◌}
use Rattle.prepared.proofs.Known.{its_limits, its_form}
use Rattle.bindings.proofs.Walking.{sets_out, walk_is, walk_turns, walk_stops}
use Rattle.bindings.proofs.own.next_binding.Goals as goal

pub loop-k-init : goal.loop-k-init
loop-k-init c = sets_out c.args.transition.now c.args.env.now 1

pub returns-then-not-turn : goal.returns-then-not-turn
returns-then-not-turn c = λ i less b. let (p, lt) = c.own.ensures.known in walk_is _ _ (i + 1) (its_form p) lt (omega arith) (walk_stops _ _ (i + 1) (its_limits p) lt (omega arith) (c.loop-k.invariant.1 i c.own.ensures.known less b) refl _ c.own.ensures.is c.turn.ensures c.if-not-turn.true)

pub loop-k-preserved : goal.loop-k-preserved
loop-k-preserved c = (λ lt. c.own.ensures.known, λ i stands less b. walk_turns _ _ (i + 1) (its_limits stands.0) stands.1 (omega arith) (c.loop-k.invariant.1 i stands less b) refl _ c.own.ensures.is c.turn.ensures c.if-not-turn.false)
