use native.Mathlib.Omega.{arith}
use mathlib.Core.Path.{refl}
use Rattle.row_bytes.proofs.RowBytes.{known_of, entries_then}
use Rattle.row_bytes.proofs.stretch.StretchesIterator.next.Goals as goal

pub overflow_add-self-2 : goal.overflow_add-self-2
overflow_add-self-2 g c =
    let size = (rw c.plan-plan.ensures.is at c.space_of-many.ensures.is) _ _ c.plan-plan.ensures.known (omega arith) in
    omega (arith, c.entries_of.ensures.small, (known_of c.plan-plan.ensures.known c.args.self.now.net.ruled (omega arith) c.args.self.now.begins refl size).few)

pub invariant_of-self-clause-begins : goal.invariant_of-self-clause-begins
invariant_of-self-clause-begins g c =
    let size = (rw c.plan-plan.ensures.is at c.space_of-many.ensures.is) _ _ c.plan-plan.ensures.known (omega arith) in
    entries_then c.plan-plan.ensures.known c.args.self.now.net.ruled (omega arith) c.args.self.now.begins refl size (rw (c.plan-plan.ensures.is, size) at c.entries_of.ensures.is)

pub invariant_of-result : goal.invariant_of-result
invariant_of-result g c =
    let size = (rw c.plan-plan.ensures.is at c.space_of-many.ensures.is) _ _ c.plan-plan.ensures.known (omega arith) in
    rw c.transition.ensures (record { known = known_of c.plan-plan.ensures.known c.args.self.now.net.ruled (omega arith) c.args.self.now.begins refl size; roomy = c.args.self.now.net.roomy })
