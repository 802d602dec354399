use native.Mathlib.Omega.{arith}
use Rattle.prepared.specs.internal.Drawn.{net_of}
use Rattle.row_numbers.proofs.Tabled.{entries_begin, entries_next}
use Rattle.row_numbers.proofs.walk.count_entries.Goals as goal

pub loop-t-init : goal.loop-t-init
loop-t-init c = (omega arith, entries_begin _ _)

pub loop-t-preserved : goal.loop-t-preserved
loop-t-preserved c =
    let is = (rw c.plan-plan.ensures.is at c.space_of.ensures.is) _ _ c.plan-plan.ensures.known (omega (arith, c.transitions-t-end.ensures.is)) in
    (omega (arith, c.entries_of-total.ensures.small, c.space_of.ensures.small), omega (arith, rw (c.plan-plan.ensures.is, is) at c.entries_of-total.ensures.is, entries_next (net_of c.args.drawing.now) c.args.drawing.now.plan c.loop-t.t))
