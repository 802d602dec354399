use Rattle.evaluation.proofs.Values.{variable_valued, constant_valued, successor_valued, predecessor_else, colour_past, colour_shut}
use borrow.Author.Rules.{rules}
use Rattle.evaluation.proofs.evaluate.Bound.+colour_at.Goals as goal

pub returns-then-file-at-clause-is : goal.returns-then-file-at-clause-is
returns-then-file-at-clause-is t c = λ places. colour_past _ _ _ _ _ _ (search rules)

pub returns-then-b-eq48-clause-is : goal.returns-then-b-eq48-clause-is
returns-then-b-eq48-clause-is t c = λ places. rw (c.element.ensures, c.set_in.ensures, c.element-v.ensures) (variable_valued _ _ _ _ _ c.if-b-eq48.true)

pub returns-then-b-eq49-clause-is : goal.returns-then-b-eq49-clause-is
returns-then-b-eq49-clause-is t c = λ places. rw (c.element-then-b-eq49.ensures, c.element-then-b-eq49-2.ensures) (constant_valued _ _ _ _ _ c.if-b-eq49.true)

pub returns-then-left-lt1-clause-is : goal.returns-then-left-lt1-clause-is
returns-then-left-lt1-clause-is t c = λ places. colour_shut _ _ _ _ _ _ (search rules) c.if-b-eq48.false c.if-b-eq49.false

pub returns-then-b-eq50-clause-is : goal.returns-then-b-eq50-clause-is
returns-then-b-eq50-clause-is t c = λ places. rw (c.after_in.ensures.is, c.size_in-size.ensures) (successor_valued _ _ _ _ _ (search rules) _ (c.colour_at-k.ensures.is places) c.if-b-eq50.true)

pub returns-else-b-eq50-clause-is : goal.returns-else-b-eq50-clause-is
returns-else-b-eq50-clause-is t c = λ places. rw (c.before_in.ensures.is, c.size_in-size.ensures) (predecessor_else _ _ _ _ _ (search rules) _ (c.colour_at-k.ensures.is places) c.if-b-eq48.false c.if-b-eq49.false c.if-b-eq50.false)
