use native.Mathlib.Omega.{arith}
use mathlib.Core.Path.{◌≡◌, refl}
use Prim.Native.Nat.{ℕ, ◌+◌, ◌-◌}
use lib.ListN.{length-set}
use Rattle.prepared.proofs.Known.{its_limits}
use Rattle.bindings.proofs.Gathering.{gather_begins, gather_goes}
use Rattle.bindings.proofs.order.order_at.Goals as goal

pub loop-k-init : goal.loop-k-init
loop-k-init c = (refl, λ stands. gather_begins _ _ c.args.index (its_limits stands.0) stands.1, λ lt. absurd (omega arith))

pub loop-k-preserved : goal.loop-k-preserved
loop-k-preserved c = (omega (arith, length-set {A = ℕ}), λ stands. let next : c.loop-k.k - 1 + 1 ≡ c.loop-k.k = omega arith in gather_goes _ _ c.args.index (its_limits stands.0) stands.1 c.loop-k.colours _ (omega arith) (omega arith) c.own.ensures.is c.colours_of-size.ensures.is (rw next (c.loop-k.invariant.1 stands)), λ lt. c.own.ensures.known)
