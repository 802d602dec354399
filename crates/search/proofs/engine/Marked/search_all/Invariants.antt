use Rattle.std.specs.Prelude.{◌*◌}
use Prim.Native.Nat.{◌≤◌}
use Rattle.prepared.specs.internal.Drawn.{net_of}
use Rattle.search.proofs.Searching.{Seeking}
use Rattle.search.proofs.engine.Marked.search_all.Given as goal

abbrev pub invariant-loop-t : goal.invariant-loop-t
invariant-loop-t g l = record {
  seeking : Seeking (net_of l.self.drawing.now) l.self.marking.now l.tried l.t;
  few : l.tried ≤ l.t * 4228250625;
}
