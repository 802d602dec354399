use Rattle.bindings.proofs.Walking.{OnTheWay}
use Rattle.bindings.proofs.own.skip_bindings.Given as goal

abbrev pub invariant-loop-k : goal.invariant-loop-k
invariant-loop-k l = OnTheWay l.transition l.initial.env l.env l.many l.rest l.k
