use Rattle.std.proofs.Common.{◌≤◌, length}
use Rattle.sums.specs.internal.Sums.{SummedAt}
use Rattle.sums.proofs.bound_arc.BoundArc.sum_counts.Given as goal

abbrev pub invariant-loop : goal.invariant-loop
invariant-loop l = record {
  within : l.many ≤ length l.initial.room;
  told : SummedAt l.self l.fn.from.next l.fn.from.ahead l.initial.room l.room (record { many = l.many; left = record { next = l.next; ahead = l.ahead } });
}
