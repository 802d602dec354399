use Rattle.std.proofs.Common.{◌≤◌, length}
use Rattle.sums.specs.internal.Sums.{SummedAt}
use Rattle.sums.proofs.bound_arc.BoundArc.sum_terms.Given as goal

abbrev pub invariant-loop-level : goal.invariant-loop-level
invariant-loop-level l = record {
  within : l.sum.many ≤ length l.fn.room;
  told : SummedAt l.self l.at 1 l.fn.room l.room l.sum;
}
