use Rattle.std.proofs.Common.{◌+◌, ◌*◌, get_or, arith}
use Rattle.std.proofs.lemmas.Result.{err_from_is_err_and}
use Rattle.net_transitions.proofs.Transitioning.{stops_at_end, reads_whole, guard_inside}
use Rattle.net_transitions.proofs.transition.transition_in.Goals as goal

pub returns-in_err-space-clause-is : goal.returns-in_err-space-clause-is
returns-in_err-space-clause-is c =
    λ ts f.
    let p = err_from_is_err_and c.from_residual-in_err-space.result c.from_residual-in_err-space.ensures.1 in
    rw (p.1, p.2) (stops_at_end c.args.ground.now.scope c.args.ground.now.kinds.now c.args.next _ c.read_guard_if.ensures c.in_ok-guard.was (λ i. get_or c.read_arcs.new.arcs (c.args.before.count * 96 + i) 0) c.args.at c.in_ok-read.ensures.is c.args.before.space _ c.close_at.ensures.is ts f c.in_err-space.was)

pub returns-clause-is : goal.returns-clause-is
returns-clause-is c =
    λ ts f.
    rw c.guard_place.ensures (reads_whole c.args.ground.now.scope c.args.ground.now.kinds.now c.args.next _ c.read_guard_if.ensures c.in_ok-guard.was (λ i. get_or c.read_arcs.new.arcs (c.args.before.count * 96 + i) 0) c.args.at c.in_ok-read.ensures.is c.args.before.space _ c.close_at.ensures.is ts f c.in_ok-space.was)

pub returns-clause-room : goal.returns-clause-room
returns-clause-room c =
    let w = guard_inside c.args.ground.now.scope c.args.ground.now.kinds.now c.args.next _ c.read_guard_if.ensures c.in_ok-guard.was c.requires.next_in_bounds in
    let z = c.in_ok-read.ensures.room in
    (c.in_ok-space.ensures.room, omega (arith, w.0, z.0, c.requires.at_lt_next), z.1 w.1)
