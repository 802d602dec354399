use Prim.Native.Nat.{◌-◌}
use lib.ListN.{length}
use Rattle.net_transitions.specs.internal.TransitionTables.{over}
use Rattle.net_transitions.proofs.Arcing.{Arcing}
use Rattle.net_transitions.proofs.arc.read_arcs.Given as goal

abbrev pub invariant-loop-arc : goal.invariant-loop-arc
invariant-loop-arc l = Arcing l.ground.scope.file.now (over l.ground.scope l.ground.kinds.now) l.start l.fn.arcs l.arcs l.from l.uses l.at

abbrev pub decreases-loop-arc : goal.decreases-loop-arc
decreases-loop-arc l = length l.ground.scope.file.now - l.at
