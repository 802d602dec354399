use Rattle.std.proofs.Common.{[], ◌≤◌, length, take}
use Rattle.runs.specs.internal.Terms.{joined, join_by, Laid}
use Rattle.runs.proofs.merge_rest.Given as goal

abbrev pub invariant-loop-b : goal.invariant-loop-b
invariant-loop-b l = record {
  within : l.end ≤ length l.initial.room;
  lie : length l.rest ≤ length l.initial.room → Laid (joined (join_by l.op) l.p 0 [] (take l.b-index l.rest)) l.initial.room l.room l.end;
}
