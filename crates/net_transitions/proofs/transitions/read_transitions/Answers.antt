use Rattle.std.proofs.lemmas.Result.{err_from_is_err_and}
use Rattle.net_parts.proofs.Placing.{length_places}
use Rattle.net_transitions.proofs.Passing.{passing_goes, passing_ends, passing_stops}
use Rattle.net_transitions.proofs.transitions.read_transitions.Goals as goal

pub returns-in_err-t : goal.returns-in_err-t
returns-in_err-t c =
    let p = err_from_is_err_and c.from_residual.result c.from_residual.ensures.1 in
    rw (p.1, p.2) (passing_stops c.loop-t.invariant c.transition_at.new.arcs c.transition_at.ensures.kept c.in_err-t.ensures.is c.in_err-t.ensures.room)

pub loop-t-preserved : goal.loop-t-preserved
loop-t-preserved c =
    passing_goes c.loop-t.invariant c.transition_at.new.arcs c.transition_at.ensures.kept (rw length_places c.requires.kinds_len_bound)
    (rw c.in-Some.is at c.in_ok-t.ensures.is) (rw c.in-Some.is at c.in_ok-t.ensures.room) (rw c.in-Some.is at c.in_ok-t.ensures.few)

pub returns : goal.returns
returns c = passing_ends c.loop-t.invariant c.transition_at.new.arcs c.transition_at.ensures.kept (rw length_places c.requires.kinds_len_bound) (rw c.in_default.is at c.in_ok-t.ensures.is)
