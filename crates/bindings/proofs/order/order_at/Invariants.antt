use mathlib.Core.Path.{◌≡◌}
use Prim.Native.Nat.{◌<◌}
use lib.ListN.{length, drop}
use Rattle.prepared.specs.internal.Drawn.{Stands}
use Rattle.bindings.specs.internal.Bindings.{its_sizes}
use Rattle.bindings.proofs.Gathering.{Gathering}
use Rattle.bindings.proofs.order.order_at.Given as goal

abbrev pub invariant-loop-k : goal.invariant-loop-k
invariant-loop-k l = (length l.colours ≡ 4) × (Stands l.transition → Gathering (its_sizes l.transition) l.index l.k (drop l.k l.colours) l.left) × (l.k < 4 → Stands l.transition)
