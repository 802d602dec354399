use native.Mathlib.Omega.{arith}
use Prim.Native.Nat.{◌≤◌}
use lib.ListN.{length}
use mathlib.Core.Path.{refl}
use Rattle.flat_file.specs.Flat.{arc_bytes}
use Rattle.flat_file.proofs.Appending.{append_first, append_next, next_front}
use Rattle.flat_file.proofs.write.write_arcs.Goals as goal

pub loop-a-init : goal.loop-a-init
loop-a-init c = append_first (arc_bytes c.args.byte) _ _

pub write_arc-next-requires : goal.write_arc-next-requires
write_arc-next-requires c =
    let le : c.loop-a.a-index ≤ length c.args.arcs.now = omega arith in
    omega (arith, next_front (arc_bytes c.args.byte) 5 (λ a. refl) c.args.arcs.now c.loop-a.a-index le c.loop-a.invariant)

pub loop-a-preserved : goal.loop-a-preserved
loop-a-preserved c = append_next (arc_bytes c.args.byte) _ _ _ c.loop-a-test.true c.loop-a.invariant c.write_arc-next.ensures
