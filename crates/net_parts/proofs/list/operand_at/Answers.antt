use native.Mathlib.Omega.{arith}
use mathlib.Core.Path.{sym, ◌∙◌}
use mathlib.Core.Logic.{⊎_elim}
use Rattle.net_parts.proofs.Listing.{list_other, list_cut, list_low, list_high, list_full, list_goes}
use Rattle.net_parts.proofs.list.operand_at.Goals as goal

pub returns-then-element-command-clause-is : goal.returns-then-element-command-clause-is
returns-then-element-command-clause-is c = λ l e. list_other _ _ _ _ _ l _ (λ f. c.if-element-command.true (c.element.ensures ∙ f))

pub returns-then-file-at-clause-is : goal.returns-then-file-at-clause-is
returns-then-file-at-clause-is c = λ l e. rw c.refused.ensures (list_cut _ _ _ _ _ l _ (sym c.element.ensures ∙ c.if-element-command.false) (omega arith))

pub returns-then-not-contains-clause-is : goal.returns-then-not-contains-clause-is
returns-then-not-contains-clause-is c = λ l e. rw c.refused-then-not-contains.ensures (⊎_elim
    (λ low. list_low _ _ _ _ _ l _ (sym c.element.ensures ∙ c.if-element-command.false) (omega arith) (grind (arith, low)))
    (λ high. list_high _ _ _ _ _ l _ (sym c.element.ensures ∙ c.if-element-command.false) (omega arith) (grind (arith, high)))
    (rw c.if-not-contains.true at c.contains.ensures.cases))

pub returns-then-limit-count-clause-is : goal.returns-then-limit-count-clause-is
returns-then-limit-count-clause-is c = λ l e. let t = rw c.if-not-contains.false at c.contains.ensures.cases in rw c.refused-then-limit-count.ensures
    (list_full _ _ _ _ _ l _ (sym c.element.ensures ∙ c.if-element-command.false) (omega arith) (grind (arith, t)) (grind (arith, t)) (omega arith))

pub returns-clause-is : goal.returns-clause-is
returns-clause-is c = λ l e. let t = rw c.if-not-contains.false at c.contains.ensures.cases in
    list_goes _ _ _ _ _ l _ (sym c.element.ensures ∙ c.if-element-command.false) (omega arith) (grind (arith, t)) (grind (arith, t)) (omega arith)
