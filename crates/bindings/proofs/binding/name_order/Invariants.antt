use Prim.Native.Nat.{◌<◌, ◌^◌}
use Rattle.prepared.specs.internal.Drawn.{its_net, Stands}
use Rattle.bindings.proofs.Naming.{GivenTo}
use Rattle.bindings.proofs.binding.name_order.Given as goal

abbrev pub invariant-loop-k : goal.invariant-loop-k
invariant-loop-k l = (l.index < 256 ^ l.k) × GivenTo (its_net l.transition) l.order l.transition.number l.env l.index l.k × (0 < l.k → Stands l.transition)
