use native.Mathlib.Omega.{arith}
use Prim.Native.Nat.{◌+◌}
use Rattle.prepared.proofs.Known.{its_limits, its_form}
use Rattle.bindings.proofs.Walking.{sets_out, walk_is, walk_skips, walk_ends}
use Rattle.bindings.proofs.own.skip_bindings.Goals as goal

pub loop-k-init : goal.loop-k-init
loop-k-init c = sets_out c.args.transition.now c.args.env.now c.args.many

pub returns-then-rest-lt1 : goal.returns-then-rest-lt1
returns-then-rest-lt1 c = λ i less b. let (p, lt) = c.own.ensures.known in walk_is _ _ (i + c.args.many) (its_form p) lt c.if-rest-lt1.true (walk_skips _ _ (i + c.args.many) (its_limits p) lt (omega arith) (c.loop-k.invariant.1 i c.own.ensures.known less b) _ c.own.ensures.is c.skip-rest.ensures)

pub loop-k-preserved : goal.loop-k-preserved
loop-k-preserved c = (λ lt. c.own.ensures.known, λ i stands less b. walk_skips _ _ (i + c.args.many) (its_limits stands.0) stands.1 (omega arith) (c.loop-k.invariant.1 i stands less b) _ c.own.ensures.is c.skip-rest.ensures)

pub returns : goal.returns
returns c = λ i less b. let stands = c.loop-k.invariant.0 (omega arith) in walk_ends _ _ (i + c.args.many) (its_form stands.0) stands.1 less (omega arith) (c.loop-k.invariant.1 i stands less b)
