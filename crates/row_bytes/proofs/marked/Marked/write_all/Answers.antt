use native.Mathlib.Omega.{arith}
use mathlib.Core.Path.{ap, ◌∙◌}
use lib.ListN.{length}
use Rattle.prepared.specs.internal.Drawn.{net_of}
use Rattle.row_bytes.specs.internal.RowBytes.{transition_bytes}
use Rattle.flat_file.proofs.Appending.{go_on, go_end}
use Rattle.row_bytes.proofs.RowBytes.{measure_rest, measure_goes, left_more, left_none, those_here, those_given, none_left}
use Rattle.row_bytes.proofs.marked.Marked.write_all.Goals as goal

pub write_bindings-next-requires : goal.write_bindings-next-requires
write_bindings-next-requires g c =
    let so_far = c.loop-those.invariant in
    let told = c.in-Some.ensures.steps in
    omega (arith, measure_rest (transition_bytes (net_of c.args.self.now.drawing.now)) _ c.args.at so_far.measured (those_here so_far.same told), c.requires, ap length (those_given so_far.same told))

pub loop-those-preserved : goal.loop-those-preserved
loop-those-preserved g c =
    let so_far = c.loop-those.invariant in
    let told = c.in-Some.ensures.steps in
    let written = rw (those_given so_far.same told) at c.write_bindings-next.ensures in
    record {
      same = told.same ∙ so_far.same;
      measured = rw told.stretch.2 (measure_goes (transition_bytes (net_of c.args.self.now.drawing.now)) _ c.args.at so_far.measured (those_here so_far.same told) written.next_is);
      going = rw told.stretch.2 (go_on (transition_bytes (net_of c.args.self.now.drawing.now)) so_far.going (left_more _ c.loop-those.those-iterator.t (those_here so_far.same told)) written);
    }

pub returns : goal.returns
returns g c = go_end (transition_bytes (net_of c.args.self.now.drawing.now)) c.loop-those.invariant.going (left_none _ c.loop-those.those-iterator.t (none_left c.loop-those.invariant.same c.in-None.ensures.steps))
