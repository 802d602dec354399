use Rattle.bindings.proofs.Walking.{OnTheWay}
use Rattle.bindings.proofs.own.next_binding.Given as goal

abbrev pub invariant-loop-k : goal.invariant-loop-k
invariant-loop-k l = OnTheWay l.transition l.initial.env l.env 1 1 l.k
