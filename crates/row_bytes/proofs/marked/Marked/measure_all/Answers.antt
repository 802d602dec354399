use native.Mathlib.Omega.{arith}
use mathlib.Core.Path.{ap, ◌∙◌}
use Prim.Native.Nat.{◌+◌}
use lib.ListN.{length}
use Rattle.prepared.specs.internal.Drawn.{net_of}
use Rattle.row_bytes.specs.internal.RowBytes.{transition_bytes}
use Rattle.row_bytes.proofs.RowBytes.{measure_goes, measure_ends, those_here, those_given, none_left}
use Rattle.row_bytes.proofs.marked.Marked.measure_all.Goals as goal

pub loop-those-preserved : goal.loop-those-preserved
loop-those-preserved g c =
    let so_far = c.loop-those.invariant in
    let told = c.in-Some.ensures.steps in
    record {
      same = told.same ∙ so_far.same;
      low = omega (arith, c.measure_bindings-total.ensures.small, so_far.low, told.stretch.2);
      measured = rw told.stretch.2 (measure_goes (transition_bytes (net_of c.args.self.now.drawing.now)) _ 0 so_far.measured (those_here so_far.same told)
          (ap (λ x. c.loop-those.total + x) (c.measure_bindings-total.ensures.is ∙ ap length (those_given so_far.same told))));
    }

pub returns-clause-is : goal.returns-clause-is
returns-clause-is g c = omega (arith, measure_ends (transition_bytes (net_of c.args.self.now.drawing.now)) _ 0 c.loop-those.invariant.measured (none_left c.loop-those.invariant.same c.in-None.ensures.steps))
