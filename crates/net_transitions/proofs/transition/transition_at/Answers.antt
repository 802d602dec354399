use Rattle.std.proofs.Common.{◌<◌, length, refl, sym, ◌∙◌, arith}
use Rattle.std.proofs.lemmas.Result.{err_from_is_err_and}
use Rattle.net_transitions.specs.internal.TransitionTables.{over}
use Rattle.net_parts.proofs.Totals.{stands_in}
use Rattle.net_transitions.proofs.Transitioning.{transitions_other, transitions_full, transitions_go, after_transition}
use Rattle.net_transitions.proofs.transition.transition_at.Goals as goal

pub returns-then-element-ne20-clause-is : goal.returns-then-element-ne20-clause-is
returns-then-element-ne20-clause-is c = λ ts e f. transitions_other _ _ ts _ (λ z. c.if-element-ne20.true (c.element.ensures ∙ z))

pub returns-then-before-ge32-clause-is : goal.returns-then-before-ge32-clause-is
returns-then-before-ge32-clause-is c =
    λ ts e f.
    let b = sym c.element.ensures ∙ c.if-element-ne20.false in
    let h = stands_in c.args.ground.now.scope.file.now c.args.at (omega (arith, b)) in
    rw c.refused.ensures (record { number = 4; is = transitions_full _ _ ts _ b (omega arith) (omega arith); reason = refl })

pub transition_in-requires-clause-at_lt_next : goal.transition_in-requires-clause-at_lt_next
transition_in-requires-clause-at_lt_next c = let q = after_transition c.args.ground.now.scope.file.now c.args.at c.after-next.ensures (sym c.element.ensures ∙ c.if-element-ne20.false) in omega arith

pub transition_in-requires-clause-next_in_bounds : goal.transition_in-requires-clause-next_in_bounds
transition_in-requires-clause-next_in_bounds c =
    let b = sym c.element.ensures ∙ c.if-element-ne20.false in
    let h = stands_in c.args.ground.now.scope.file.now c.args.at (omega (arith, b)) in
    let q = after_transition c.args.ground.now.scope.file.now c.args.at c.after-next.ensures b in
    omega arith

pub returns-in_err-t-clause-is : goal.returns-in_err-t-clause-is
returns-in_err-t-clause-is c =
    λ ts e f.
    let p = err_from_is_err_and c.from_residual.result c.from_residual.ensures.1 in
    let b = sym c.element.ensures ∙ c.if-element-ne20.false in
    let h = stands_in c.args.ground.now.scope.file.now c.args.at (omega (arith, b)) in
    let few : length ts < 32 = omega arith in
    rw (p.1, p.2, transitions_go c.args.ground.now.scope.file.now (over c.args.ground.now.scope c.args.ground.now.kinds.now) ts c.args.at b (omega arith) (after_transition c.args.ground.now.scope.file.now c.args.at c.after-next.ensures b) few) (c.in_err-t.ensures.is ts f)

pub returns-clause-is : goal.returns-clause-is
returns-clause-is c =
    λ ts e f.
    let b = sym c.element.ensures ∙ c.if-element-ne20.false in
    let h = stands_in c.args.ground.now.scope.file.now c.args.at (omega (arith, b)) in
    let few : length ts < 32 = omega arith in
    rw (transitions_go c.args.ground.now.scope.file.now (over c.args.ground.now.scope c.args.ground.now.kinds.now) ts c.args.at b (omega arith) (after_transition c.args.ground.now.scope.file.now c.args.at c.after-next.ensures b) few) (c.in_ok-t.ensures.is ts f)
