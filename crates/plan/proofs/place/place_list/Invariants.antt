use Rattle.plan.proofs.Sections.{Placing}
use Rattle.plan.proofs.place.place_list.Given as goal

abbrev pub invariant-loop-i : goal.invariant-loop-i
invariant-loop-i g l = Placing g.T.Into.converts l.from l.list l.initial.plan l.plan l.i
