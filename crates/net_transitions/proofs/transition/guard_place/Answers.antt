use Rattle.std.proofs.Common.{◌∙◌, ap, sym, Some, arith}
use borrow.Author.Tests.{eq-eqb}
use Rattle.net_parts.proofs.Totals.{stands_in}
use Rattle.net_transitions.proofs.Transitioning.{after_mark}
use Rattle.net_transitions.proofs.transition.guard_place.Goals as goal

pub overflow_cast-result : goal.overflow_cast-result
overflow_cast-result c =
    let e = sym c.element.ensures ∙ c.if-element-eq21.true in
    let h = stands_in c.args.ground.now.scope.file.now c.args.at (omega (arith, e)) in
    let q = after_mark c.args.ground.now.scope.file.now c.args.at c.after.ensures e in
    omega arith

pub returns-then-element-eq21 : goal.returns-then-element-eq21
returns-then-element-eq21 c =
    let e = sym c.element.ensures ∙ c.if-element-eq21.true in rw (eq-eqb _ _ e) (ap (λ k. Some k) (after_mark c.args.ground.now.scope.file.now c.args.at c.after.ensures e))
