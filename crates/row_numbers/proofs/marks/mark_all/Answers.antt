use native.Mathlib.Omega.{arith}
use mathlib.Core.Path.{sym, ◌∙◌}
use Prim.Native.Nat.{◌<◌}
use Rattle.reading.specs.Basics.{length}
use Rattle.prepared.specs.internal.Drawn.{net_of}
use Rattle.row_numbers.proofs.Tabled.{entries_fit}
use Rattle.row_numbers.proofs.Marking.{reach_begins, reach_follows, reach_goes}
use Rattle.row_numbers.proofs.marks.mark_all.Goals as goal
use Rattle.row_numbers.proofs.marks.mark_all.Goals.{then-every_binding_has_row, else-every_binding_has_row}

pub loop-t-init : goal.loop-t-init
loop-t-init c = reach_begins _ _ _ _

pub mark_those-requires : goal.mark_those-requires
mark_those-requires c = rw c.transition.ensures (entries_fit c.transitions-t-end.ensures.known (omega (arith, c.transitions-t-end.ensures.is)) c.loop-t.invariant.used)

pub overflow_add-base : goal.overflow_add-base
overflow_add-base c = omega (arith, c.space_of-many.ensures.small, entries_fit c.transitions-t-end.ensures.known (omega (arith, c.transitions-t-end.ensures.is)) c.loop-t.invariant.used)

pub loop-t-preserved : goal.loop-t-preserved
loop-t-preserved c =
    let p = c.plan-plan.ensures.known in
    let lt : c.loop-t.t < length (net_of c.args.drawing.now).transitions = omega (arith, c.transitions-t-end.ensures.is) in
    let is = (rw c.plan-plan.ensures.is at c.space_of-many.ensures.is) _ _ p lt in
    let told = rw c.plan-plan.ensures.is at c.every_binding_has_row.ensures in
    elim c.if-every_binding_has_row.branch [ then-every_binding_has_row w ↦ rw (w.marks-is, w.counts-is, w.base-is) (reach_follows _ _ c.loop-t.invariant (omega (arith, c.transitions-t-end.ensures.small)) is p lt (sym told ∙ w.if-every_binding_has_row.true)) | else-every_binding_has_row w ↦ rw (w.marks-is, w.counts-is, w.base-is) (reach_goes _ _ c.loop-t.invariant (omega (arith, c.transitions-t-end.ensures.small)) is (sym told ∙ w.if-every_binding_has_row.false) (rw (← is) at (rw w.transition.ensures at w.mark_those.ensures.is)) (rw (← is) at (rw w.transition.ensures at w.mark_those.ensures.marked))) ]
