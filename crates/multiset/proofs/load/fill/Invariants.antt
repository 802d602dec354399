use Rattle.multiset.proofs.Loads.{Filling}
use Rattle.multiset.proofs.load.fill.Given as goal

abbrev pub invariant-loop-i : goal.invariant-loop-i
invariant-loop-i l = Filling l.place l.many l.weight l.initial.room l.room l.i
