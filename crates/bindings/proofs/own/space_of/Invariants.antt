use mathlib.Core.Path.{◌≡◌}
use Prim.Native.Nat.{ℕ, ◌≤◌, ◌<◌, ◌^◌}
use lib.ListN.{length, take}
use Rattle.reading.specs.Basics.{List, product}
use Rattle.net.specs.Net.{Net}
use Rattle.prepared.specs.internal.Prepared.{Prepared}
use Rattle.bindings.proofs.Owning.{their_sizes}
use Rattle.bindings.proofs.own.space_of.Given as goal

abbrev pub invariant-loop-k : goal.invariant-loop-k
invariant-loop-k l = (l.space ≤ 255 ^ l.k) × ((file : List ℕ) (n : Net) → Prepared file n l.plan → l.t < length n.transitions → l.space ≡ product (take l.k (their_sizes n l.t)))
