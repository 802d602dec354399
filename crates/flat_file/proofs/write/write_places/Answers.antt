use native.Mathlib.Omega.{arith}
use Prim.Native.Nat.{◌≤◌}
use lib.ListN.{length}
use mathlib.Core.Path.{refl}
use Rattle.flat_file.proofs.Written.{place_bytes}
use Rattle.flat_file.proofs.Appending.{append_first, append_next, next_front}
use Rattle.flat_file.proofs.write.write_places.Goals as goal

pub loop-count-init : goal.loop-count-init
loop-count-init c = append_first place_bytes _ _

pub write_place-next-requires : goal.write_place-next-requires
write_place-next-requires c =
    let le : c.loop-count.count-index ≤ length c.args.counts.now = omega arith in
    omega (arith, next_front place_bytes 3 (λ a. refl) c.args.counts.now c.loop-count.count-index le c.loop-count.invariant)

pub loop-count-preserved : goal.loop-count-preserved
loop-count-preserved c = append_next place_bytes _ _ 0 c.loop-count-test.true c.loop-count.invariant c.write_place-next.ensures
