use native.Mathlib.Omega.{arith}
use mathlib.Core.Path.{sym, ◌∙◌}
use Prim.Native.Nat.{◌<◌}
use Rattle.reading.specs.Basics.{length}
use Rattle.prepared.specs.internal.Drawn.{net_of}
use Rattle.prepared.proofs.Known.{its_limits}
use Rattle.row_numbers.proofs.Tabled.{number_begins, number_follows, number_goes, numbers_are, rows_fit, entries_fit}
use Rattle.row_numbers.proofs.walk.number_all.Goals as goal
use Rattle.row_numbers.proofs.walk.number_all.Goals.{then-every_binding_has_row, else-every_binding_has_row}

pub loop-t-init : goal.loop-t-init
loop-t-init c = number_begins _ _ _ _ _

pub overflow_add-count : goal.overflow_add-count
overflow_add-count c = omega (arith, c.space_of-size.ensures.small, rows_fit c.transitions-t-end.ensures.known (omega (arith, c.transitions-t-end.ensures.is)) c.loop-t.invariant.rows)

pub number_those-count-requires-clause-few : goal.number_those-count-requires-clause-few
number_those-count-requires-clause-few c = rw c.transition.ensures (rows_fit c.transitions-t-end.ensures.known (omega (arith, c.transitions-t-end.ensures.is)) c.loop-t.invariant.rows)

pub number_those-count-requires-clause-inside : goal.number_those-count-requires-clause-inside
number_those-count-requires-clause-inside c = rw c.transition.ensures (entries_fit c.transitions-t-end.ensures.known (omega (arith, c.transitions-t-end.ensures.is)) c.loop-t.invariant.used)

pub overflow_add-base : goal.overflow_add-base
overflow_add-base c = omega (arith, c.space_of-size.ensures.small, entries_fit c.transitions-t-end.ensures.known (omega (arith, c.transitions-t-end.ensures.is)) c.loop-t.invariant.used)

pub loop-t-preserved : goal.loop-t-preserved
loop-t-preserved c =
    let p = c.plan-plan.ensures.known in
    let lt : c.loop-t.t < length (net_of c.args.drawing.now).transitions = omega (arith, c.transitions-t-end.ensures.is) in
    let is = (rw c.plan-plan.ensures.is at c.space_of-size.ensures.is) _ _ p lt in
    let told = rw c.plan-plan.ensures.is at c.every_binding_has_row.ensures in
    elim c.if-every_binding_has_row.branch [ then-every_binding_has_row w ↦ rw (w.numbers-is, w.starts-is, w.count-is, w.base-is) (number_follows _ _ _ c.loop-t.invariant (omega (arith, c.transitions-t-end.ensures.small)) p lt (sym told ∙ w.if-every_binding_has_row.true) is) | else-every_binding_has_row w ↦ rw (w.numbers-is, w.starts-is, w.count-is, w.base-is) (let held = rw w.transition.ensures at w.number_those-count.ensures.held in number_goes _ _ _ c.loop-t.invariant lt (omega (arith, c.transitions-t-end.ensures.small)) (sym told ∙ w.if-every_binding_has_row.false) is (rw (← is) at (rw w.transition.ensures at w.number_those-count.ensures.is)) (λ room. rw is (numbers_are _ _ (its_limits p) lt c.loop-t.invariant.rows (held (omega (arith, c.loop-t.auto.numbers))))) w.number_those-count.ensures.same) ]
