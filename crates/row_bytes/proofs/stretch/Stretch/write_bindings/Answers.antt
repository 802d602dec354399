use native.Mathlib.Omega.{arith}
use mathlib.Core.Path.{ap}
use lib.ListN.{length}
use Rattle.bindings.proofs.Owning.{first_binds}
use Rattle.prepared.specs.internal.Drawn.{its_net}
use Rattle.row_bytes.specs.internal.RowBytes.{bytes_at}
use Rattle.flat_file.proofs.Appending.{go_on, go_over, go_end}
use Rattle.row_bytes.proofs.RowBytes.{measure_begins, measure_rest, measure_goes, measure_over, left_more, left_none, write_begins, bound_here, known_over, known_past, all_given}
use Rattle.row_bytes.proofs.stretch.Stretch.write_bindings.Goals as goal

pub loop-i-init : goal.loop-i-init
loop-i-init g c = record {
  inside = omega arith;
  binds = λ lt. first_binds (its_net c.args.self.now.transition) _ 32;
  measured = measure_begins (bytes_at c.args.self.now.transition) _ c.args.at;
  going = write_begins (bytes_at c.args.self.now.transition) _ _ c.args.at;
}

pub loop-i-preserved-then-has_none : goal.loop-i-preserved-then-has_none
loop-i-preserved-then-has_none g c =
    let so_far = c.loop-i.invariant in
    let none = (rw (c.plan-plan.ensures.is, c.number-t.ensures.is) at c.has_none.ensures) c.if-has_none.true in
    let over = known_over c.args.self.now.known c.loop-i.i (omega (arith, none.1)) none.0 none.2 in
    record {
      inside = omega (arith, none.1);
      binds = λ lt. c.skip_bindings.ensures _ (omega (arith, c.args.self.now.known.size)) (so_far.binds c.loop-i-test.true);
      measured = measure_over (bytes_at c.args.self.now.transition) _ c.args.at so_far.measured over;
      going = go_over (bytes_at c.args.self.now.transition) so_far.going over;
    }

pub write_bound-next-requires : goal.write_bound-next-requires
write_bound-next-requires g c =
    let bound = bound_here c.args.self.now.known c.loop-i-test.true (rw (c.plan-plan.ensures.is, c.number-t.ensures.is) at c.has_row.ensures) (c.loop-i.invariant.binds c.loop-i-test.true) c.if-has_row.true in
    let rest = measure_rest (bytes_at c.args.self.now.transition) _ c.args.at c.loop-i.invariant.measured c.loop-i-test.true in
    (omega arith, (omega arith, (bound, omega (arith, rest, c.requires, ap length (all_given c.args.self.now.known)))))

pub loop-i-preserved-then-has_row : goal.loop-i-preserved-then-has_row
loop-i-preserved-then-has_row g c =
    let so_far = c.loop-i.invariant in
    let written = c.write_bound-next.ensures (bound_here c.args.self.now.known c.loop-i-test.true (rw (c.plan-plan.ensures.is, c.number-t.ensures.is) at c.has_row.ensures) (so_far.binds c.loop-i-test.true) c.if-has_row.true) in
    record {
      inside = omega arith;
      binds = λ lt. c.next_binding.ensures _ (omega (arith, c.args.self.now.known.size)) (so_far.binds c.loop-i-test.true);
      measured = measure_goes (bytes_at c.args.self.now.transition) _ c.args.at so_far.measured c.loop-i-test.true written.next_is;
      going = go_on (bytes_at c.args.self.now.transition) so_far.going (left_more _ c.loop-i.i c.loop-i-test.true) written;
    }

pub loop-i-preserved : goal.loop-i-preserved
loop-i-preserved g c =
    let so_far = c.loop-i.invariant in
    let past = known_past c.args.self.now.known c.loop-i-test.true (rw (c.plan-plan.ensures.is, c.number-t.ensures.is) at c.has_row.ensures) c.if-has_row.false in
    record {
      inside = omega arith;
      binds = λ lt. c.next_binding-else-has_row.ensures _ (omega (arith, c.args.self.now.known.size)) (so_far.binds c.loop-i-test.true);
      measured = measure_over (bytes_at c.args.self.now.transition) _ c.args.at so_far.measured past;
      going = go_over (bytes_at c.args.self.now.transition) so_far.going past;
    }

pub returns : goal.returns
returns g c = rw (← all_given c.args.self.now.known) (go_end (bytes_at c.args.self.now.transition) c.loop-i.invariant.going (left_none _ c.loop-i.i (omega arith)))
