use Rattle.prepared.proofs.Filling.{Heading}
use Rattle.prepared.proofs.fill.place_heads.Given as goal

abbrev pub invariant-loop-t : goal.invariant-loop-t
invariant-loop-t l = Heading l.heads l.initial.plan l.plan l.t
