use Rattle.std.proofs.Common.{rules, ◌-◌, sym, ◌∙◌}
use borrow.Author.Tests.{eqb-true, eqb-false}
use Rattle.firing.specs.internal.Steps.{added}
use Rattle.firing.proofs.Rule.{fires, rests}
use Rattle.firing.proofs.Told.{fired_told}
use Rattle.firing.proofs.move_row.Goals as goal

pub returns-then-eq : goal.returns-then-eq
returns-then-eq c caps hinders small proper e =
    rw (c.change-then-eq.ensures added (λ x y r f. search rules), c.change.ensures ◌-◌ (λ x y r f. search rules))
    (fires _ _ proper (λ p. search rules) caps small e (eqb-true _ 0 (sym (fired_told _) ∙ sym c.eq.ensures ∙ c.if-eq.true)))

pub returns-else-eq : goal.returns-else-eq
returns-else-eq c caps hinders small proper e = rests caps _ _ e (eqb-false _ 0 (sym (fired_told _) ∙ sym c.eq.ensures ∙ c.if-eq.false))
