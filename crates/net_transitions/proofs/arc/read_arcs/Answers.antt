use Rattle.std.proofs.Common.{arith}
use Rattle.std.proofs.lemmas.Result.{err_from_is_err_and}
use Rattle.net_parts.proofs.Placing.{length_places}
use Rattle.net_transitions.proofs.Arcing.{arcing_begins, arcing_goes, arcing_ends, arcing_stops}
use Rattle.net_transitions.proofs.arc.read_arcs.Goals as goal

pub loop-arc-init : goal.loop-arc-init
loop-arc-init c = arcing_begins _ _ _ (omega arith) (rw length_places c.clear_row.ensures.zeros) (rw length_places c.clear_row.ensures.kept)

pub returns-in_err-arc-clause-is : goal.returns-in_err-arc-clause-is
returns-in_err-arc-clause-is c =
    let p = err_from_is_err_and c.from_residual.result c.from_residual.ensures.1 in
    rw (p.1, p.2) (arcing_stops c.loop-arc.invariant c.in_err-arc.ensures.is c.in_err-arc.ensures.room)

pub loop-arc-preserved : goal.loop-arc-preserved
loop-arc-preserved c = arcing_goes c.loop-arc.invariant (rw length_places c.args.ground.now.few_places) (rw c.in-Some.is at c.in_ok-arc.ensures.is) (rw c.in-Some.is at c.in_ok-arc.ensures.room)

pub returns-clause-is : goal.returns-clause-is
returns-clause-is c = arcing_ends c.loop-arc.invariant (rw c.in_default.is at c.in_ok-arc.ensures.is)
