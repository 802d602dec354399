use Rattle.std.proofs.Common.{◌+◌, get_or, refl, arith}
use Rattle.std.proofs.lemmas.Result.{err_from_is_err_and}
use Rattle.net_transitions.proofs.Arcing.{arcs_below, arcs_above, step_operand, step_cut, step_no_place, step_again, step_fault, step_read, step_within}
use Rattle.net_transitions.proofs.arc.arc_at.Goals as goal
use Rattle.net_transitions.proofs.arc.arc_at.Goals.{then-b-lt22-via-then-b-lt22, then-b-lt22-via-else-b-lt22+then-b-gt24}

pub returns-then-b-lt22-clause-is : goal.returns-then-b-lt22-clause-is
returns-then-b-lt22-clause-is c =
    λ arcs h.
    elim c.then-b-lt22.branch [ then-b-lt22-via-then-b-lt22 w ↦ arcs_below _ _ _ _ (omega (arith, c.element-b.ensures)) | then-b-lt22-via-else-b-lt22+then-b-gt24 w ↦ arcs_above _ _ _ _ (omega (arith, c.element-b.ensures)) ]

pub returns-then-file-next-clause-is : goal.returns-then-file-next-clause-is
returns-then-file-next-clause-is c =
    λ arcs h. rw c.refused.ensures (record { number = 2; is = step_cut c.args.ground.now.scope c.args.ground.now.kinds.now (λ i. get_or c.args.arcs.now (c.args.from + i) 0) c.args.at (omega (arith, c.element-b.ensures)) (omega (arith, c.element-b.ensures)) c.after-next.ensures (omega arith) arcs; reason = refl })

pub bounds-file-at : goal.bounds-file-at
bounds-file-at c = let q = step_operand c.args.ground.now.scope c.args.ground.now.kinds.now (λ i. get_or c.args.arcs.now (c.args.from + i) 0) c.args.at (omega (arith, c.element-b.ensures)) (omega (arith, c.element-b.ensures)) c.after-next.ensures (omega arith) in omega arith

pub returns-then-ground-p-clause-is : goal.returns-then-ground-p-clause-is
returns-then-ground-p-clause-is c =
    λ arcs h. rw c.refused-then-ground-p.ensures (record { number = 5; is = step_no_place c.args.ground.now.scope c.args.ground.now.kinds.now (λ i. get_or c.args.arcs.now (c.args.from + i) 0) c.args.at (omega (arith, c.element-b.ensures)) (omega (arith, c.element-b.ensures)) c.after-next.ensures (omega arith) (omega arith) arcs; reason = refl })

pub returns-then-arcs-from-gt0-clause-is : goal.returns-then-arcs-from-gt0-clause-is
returns-then-arcs-from-gt0-clause-is c =
    λ arcs h.
    rw c.refused-then-arcs-from-gt0.ensures (record {
      number = 9;
      is = step_again c.args.ground.now.scope c.args.ground.now.kinds.now (λ i. get_or c.args.arcs.now (c.args.from + i) 0) c.args.at (omega (arith, c.element-b.ensures)) (omega (arith, c.element-b.ensures)) c.after-next.ensures (omega arith) (omega arith) (rw c.element-b.ensures at c.if-arcs-from-gt0.true) arcs h;
      reason = refl;
    })

pub returns-in_err-e-clause-is : goal.returns-in_err-e-clause-is
returns-in_err-e-clause-is c =
    λ arcs h.
    let p = err_from_is_err_and c.from_residual.result c.from_residual.ensures.1 in
    rw (p.1, p.2) (step_fault c.args.ground.now.scope c.args.ground.now.kinds.now (λ i. get_or c.args.arcs.now (c.args.from + i) 0) c.args.at (omega (arith, c.element-b.ensures)) (omega (arith, c.element-b.ensures)) c.after-next.ensures (omega arith) (omega arith) (rw c.element-b.ensures at c.if-arcs-from-gt0.false) _ _ c.read_expression.ensures.is c.in_err-e.was arcs h)

pub returns-clause-is : goal.returns-clause-is
returns-clause-is c = λ arcs h. rw c.element-b.ensures (step_read c.args.ground.now.scope c.args.ground.now.kinds.now (λ i. get_or c.args.arcs.now (c.args.from + i) 0) c.args.at (omega (arith, c.element-b.ensures)) (omega (arith, c.element-b.ensures)) c.after-next.ensures (omega arith) (omega arith) (rw c.element-b.ensures at c.if-arcs-from-gt0.false) _ _ c.read_expression.ensures.is c.in_ok-e.was arcs h)

pub returns-clause-room : goal.returns-clause-room
returns-clause-room c = let w = step_within c.args.ground.now.scope c.args.ground.now.kinds.now (λ i. get_or c.args.arcs.now (c.args.from + i) 0) c.args.at (omega (arith, c.element-b.ensures)) (omega (arith, c.element-b.ensures)) c.after-next.ensures (omega arith) (omega arith) (rw c.element-b.ensures at c.if-arcs-from-gt0.false) _ _ c.read_expression.ensures.is c.in_ok-e.was in (omega (arith, c.element-b.ensures), w.0, w.1)
