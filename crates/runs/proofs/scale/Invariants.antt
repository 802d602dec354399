use Rattle.std.proofs.Common.{◌≡◌, ◌++◌, take, drop}
use Rattle.runs.specs.internal.Terms.{times_all}
use Rattle.runs.proofs.scale.Given as goal

abbrev pub invariant-loop-a : goal.invariant-loop-a
invariant-loop-a l = l.a-items ≡ times_all l.factor (take l.a-index l.initial.a-items) ++ drop l.a-index l.initial.a-items
