use Prim.Native.Nat.{◌≤◌}
use lib.ListN.{length}
use Rattle.net_transitions.proofs.Spaces.{Multiplied}
use Rattle.net.specs.internal.ReaderEnums.{size_in}
use Rattle.net_transitions.proofs.space.bindings_of.Given as goal

abbrev pub invariant-loop-v : goal.invariant-loop-v
invariant-loop-v l = (l.v ≤ length l.scope.vars.now) × Multiplied l.uses (size_in l.scope.sizes.now l.scope.vars.now) l.total l.v
