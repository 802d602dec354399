use native.Mathlib.Omega.{arith}
use Prim.Native.Nat.{◌<◌}
use Rattle.reading.specs.Basics.{length}
use Rattle.prepared.specs.internal.Drawn.{net_of}
use Rattle.search.proofs.Searching.{seek_begin, seek_found, seek_next, seek_none}
use Rattle.search.proofs.engine.Marked.search_all.Goals as goal

pub loop-t-init : goal.loop-t-init
loop-t-init g c = record { seeking = seek_begin _ _; few = omega arith }

pub returns-in-Some : goal.returns-in-Some
returns-in-Some g c =
    let lt : c.loop-t.t < length (net_of c.args.self.drawing.now).transitions = omega (arith, c.transitions-t-end.ensures.is) in
    let (told, inside) = seek_found c.transitions-t-end.ensures.known c.args.self.marking.now c.loop-t.t c.loop-t.tried lt c.loop-t.invariant.seeking
    (rw (c.in-Some.is, c.transition.ensures) at c.search_bindings-here.ensures.is) in
    record { told = told; within = (lt, inside) }

pub loop-t-preserved : goal.loop-t-preserved
loop-t-preserved g c = record {
  seeking = seek_next c.transitions-t-end.ensures.known c.args.self.marking.now c.loop-t.t c.loop-t.tried (omega (arith, c.transitions-t-end.ensures.is)) c.loop-t.invariant.seeking
      (rw (c.in_default.is, c.transition.ensures) at c.search_bindings-here.ensures.is);
  few = omega (arith, c.search_bindings-here.ensures.small);
}

pub returns-clause-told : goal.returns-clause-told
returns-clause-told g c = seek_none (net_of c.args.self.drawing.now) c.args.self.marking.now c.loop-t.t c.loop-t.tried c.loop-t.invariant.seeking (omega (arith, c.transitions-t-end.ensures.is))
