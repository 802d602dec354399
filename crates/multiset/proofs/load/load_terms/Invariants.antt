use Prim.Native.Nat.{◌≤◌}
use lib.ListN.{length}
use Rattle.reading.specs.Basics.{drop}
use Rattle.multiset.proofs.Walking.{Walking}
use Rattle.multiset.proofs.load.load_terms.Given as goal

abbrev pub invariant-loop-term : goal.invariant-loop-term
invariant-loop-term l = record {
  walking : Walking l.start l.count l.rest l.terms l.initial.room (drop l.term-index l.terms) l.room l.end l.rank;
  below : l.rank ≤ l.count;
  within : l.end ≤ length l.room;
}
