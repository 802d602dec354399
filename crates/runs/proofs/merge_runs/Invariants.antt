use Rattle.std.proofs.Common.{◌≤◌, ◌+◌, length}
use Rattle.runs.specs.internal.Terms.{join_by}
use Rattle.runs.proofs.Merging.{Merging}
use Rattle.runs.proofs.merge_runs.Given as goal

abbrev pub invariant-loop-a : goal.invariant-loop-a
invariant-loop-a l = record {
  within : l.end ≤ length l.initial.room;
  goes : length l.first + length l.second ≤ length l.initial.room → Merging (join_by l.op) l.p l.q l.first l.second l.a-index l.rest l.room l.end;
}
