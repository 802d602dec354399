use native.Mathlib.Omega.{arith}
use Prim.Native.Nat.{◌+◌}
use Rattle.std.proofs.Common.{inl, inr}
use Rattle.flat_file.proofs.Arcs.{arc_none, arc_beyond, arc_weightless, arc_disorder, arc_goes}
use Rattle.flat_file.proofs.reader.arc_at.Goals as goal

pub returns-in_default-clause-is : goal.returns-in_default-clause-is
returns-in_default-clause-is c r f = arc_none _ _ _ _ c.in_default.ensures

pub returns-then-file-lt5-clause-is : goal.returns-then-file-lt5-clause-is
returns-then-file-lt5-clause-is c r f = c.short_at.ensures.is _ r

pub returns-then-file-lt5-clause-room : goal.returns-then-file-lt5-clause-room
returns-then-file-lt5-clause-room c = c.short_at.ensures.room _ _

pub returns-then-count-arc-clause-is : goal.returns-then-count-arc-clause-is
returns-then-count-arc-clause-is c r f =
    rw c.refused.ensures (elim c.then-count-arc.either [
      | inl h ↦ arc_beyond _ _ _ _ c.in-Some.kind c.in-Some.ensures.1 (omega arith) (rw c.arc_in-arc.ensures at h)
      | inr h ↦ arc_weightless _ _ _ _ c.in-Some.kind c.in-Some.ensures.1 (omega arith) (rw c.arc_in-arc.ensures at h.1)
    ])

pub returns-then-key-least-clause-is : goal.returns-then-key-least-clause-is
returns-then-key-least-clause-is c r f =
    rw c.refused-then-key-least.ensures (arc_disorder _ _ _ _ c.in-Some.kind c.in-Some.ensures.1 (omega arith) _ f (omega (arith, c.type_inv.file (c.args.at + 1), c.type_inv.file (c.args.at + 1 + 1))) (rw c.arc_in-arc.ensures at c.if-count-arc.false)
    (rw c.arc_in-arc.ensures at c.if-arc-lt1.false) (rw (c.key.ensures, c.arc_in-arc.ensures) at c.if-key-least.true))

pub returns-clause-is : goal.returns-clause-is
returns-clause-is c r f =
    rw c.arc_in-arc.ensures (arc_goes _ _ _ _ c.in-Some.kind c.in-Some.ensures.1 (omega arith) _ f (omega (arith, c.type_inv.file (c.args.at + 1), c.type_inv.file (c.args.at + 1 + 1))) (rw c.arc_in-arc.ensures at c.if-count-arc.false)
    (rw c.arc_in-arc.ensures at c.if-arc-lt1.false) (rw (c.key.ensures, c.arc_in-arc.ensures) at c.if-key-least.false))
