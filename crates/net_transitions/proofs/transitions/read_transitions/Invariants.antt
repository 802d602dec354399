use Prim.Native.Nat.{◌-◌}
use lib.ListN.{length}
use Rattle.net_transitions.specs.internal.TransitionTables.{over}
use Rattle.net_transitions.proofs.Passing.{Passing}
use Rattle.net_transitions.proofs.transitions.read_transitions.Given as goal

abbrev pub invariant-loop-t : goal.invariant-loop-t
invariant-loop-t l = Passing l.scope.file.now (over l.scope l.kinds) l.start l.heads l.arcs l.before.0 l.before.1.0 l.at

abbrev pub decreases-loop-t : goal.decreases-loop-t
decreases-loop-t l = length l.scope.file.now - l.at
