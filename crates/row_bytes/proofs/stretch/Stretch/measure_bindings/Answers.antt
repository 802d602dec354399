use native.Mathlib.Omega.{arith}
use mathlib.Core.Path.{ap}
use Prim.Native.Nat.{◌+◌}
use lib.ListN.{length}
use Rattle.bindings.proofs.Owning.{first_binds}
use Rattle.prepared.specs.internal.Drawn.{its_net}
use Rattle.row_bytes.specs.internal.RowBytes.{bytes_at}
use Rattle.row_bytes.proofs.RowBytes.{measure_begins, measure_goes, measure_ends, all_given}
use Rattle.row_bytes.proofs.stretch.Stretch.measure_bindings.Goals as goal

pub loop-i-init : goal.loop-i-init
loop-i-init g c = record { low = omega arith; binds = λ lt. first_binds (its_net c.args.self.now.transition) _ 32; measured = measure_begins (bytes_at c.args.self.now.transition) _ 0 }

pub loop-i-preserved : goal.loop-i-preserved
loop-i-preserved g c =
    let so_far = c.loop-i.invariant in
    record {
      low = omega (arith, c.measure_one-total.ensures.small, so_far.low);
      binds = λ lt. c.next_binding.ensures _ (omega (arith, c.args.self.now.known.size)) (so_far.binds c.loop-i-test.true);
      measured = measure_goes (bytes_at c.args.self.now.transition) _ 0 so_far.measured c.loop-i-test.true (ap (λ x. c.loop-i.total + x) c.measure_one-total.ensures.is);
    }

pub returns-clause-is : goal.returns-clause-is
returns-clause-is g c = omega (arith, measure_ends (bytes_at c.args.self.now.transition) _ 0 c.loop-i.invariant.measured (omega arith), ap length (all_given c.args.self.now.known))
