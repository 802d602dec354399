use native.Mathlib.Omega.{arith}
use mathlib.Core.Path.{ap, refl}
use Prim.Native.Nat.{◌≤◌}
use Rattle.bindings.proofs.Giving.{give_small, fits-number}
use Rattle.bindings.proofs.Ordering.{named_other, named_past}
use Rattle.bindings.proofs.Naming.{name_goes, name_fails, name_ends}
use Rattle.bindings.proofs.binding.name_order.Goals as goal

pub returns-then-order-ne96-clause-told : goal.returns-then-order-ne96-clause-told
returns-then-order-ne96-clause-told c = named_other _ c.args.order.now c.if-order-ne96.true

pub returns-then-transitions-t-clause-told : goal.returns-then-transitions-t-clause-told
returns-then-transitions-t-clause-told c = named_past _ c.args.order.now (omega (arith, c.transitions.ensures.is, c.if-transitions-t.true))

pub give-requires : goal.give-requires
give-requires c = omega (arith, fits-number c.loop-k.k c.loop-k.invariant.0 (let h : c.loop-k.k ≤ 4 = omega arith in h))

pub returns-in_err-index-clause-told : goal.returns-in_err-index-clause-told
returns-in_err-index-clause-told c = let (p, lt) = c.own.ensures.known in rw (c.from_residual.ensures, ← ap (λ t. t.drawing) c.transition-transition.ensures) (name_fails _ c.args.order.now p c.requires c.if-order-ne96.false (ap (λ t. t.number) c.transition-transition.ensures) lt _ c.loop-k-test.true c.own.ensures.is refl c.loop-k.invariant.1 _ c.in_err-index.ensures)

pub loop-k-preserved : goal.loop-k-preserved
loop-k-preserved c = let (p, lt) = c.own.ensures.known in (
  give_small c.loop-k.k c.loop-k.invariant.0 _ _ _ _ c.own.result c.own.ensures.is c.in_ok-index.ensures,
  name_goes _ c.args.order.now p c.requires c.if-order-ne96.false (ap (λ t. t.number) c.transition-transition.ensures) lt _ c.loop-k-test.true c.own.ensures.is refl c.loop-k.invariant.1 c.in_ok-index.ensures,
  λ some. c.own.ensures.known,
)

pub returns-clause-told : goal.returns-clause-told
returns-clause-told c = let (p, lt) = c.loop-k.invariant.2 (omega arith) in rw c.transition-transition.ensures at (name_ends _ c.args.order.now p c.requires c.if-order-ne96.false (ap (λ t. t.number) c.transition-transition.ensures) lt c.loop-k-test.false c.loop-k.invariant.1)
