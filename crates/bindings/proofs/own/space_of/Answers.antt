use native.Mathlib.Omega.{arith}
use Prim.Native.Nat.{◌≤◌, ◌+◌}
use Rattle.prepared.proofs.Known.{its_limits}
use Rattle.bindings.proofs.Owning.{small_space, fits_space, slot_by, space_goes, space_ends}
use Rattle.bindings.proofs.own.space_of.Goals as goal

pub overflow_mul-space : goal.overflow_mul-space
overflow_mul-space c = omega (arith, fits_space (c.loop-k.k + 1) (small_space _ c.loop-k.invariant.0 c.colours_of-space.ensures.small.1) (let h : c.loop-k.k + 1 ≤ 4 = omega arith in h))

pub loop-k-preserved : goal.loop-k-preserved
loop-k-preserved c = (
  small_space _ c.loop-k.invariant.0 c.colours_of-space.ensures.small.1,
  λ file n p lt. space_goes (its_limits p) lt _ _ (slot_by p lt c.loop-k-test.true c.own_of.result c.own_of.ensures) c.colours_of-space.ensures.is (c.loop-k.invariant.1 file n p lt),
)

pub returns-clause-is : goal.returns-clause-is
returns-clause-is c = λ file n p lt. space_ends (its_limits p) lt c.loop-k.k c.loop-k-test.false (c.loop-k.invariant.1 file n p lt)
