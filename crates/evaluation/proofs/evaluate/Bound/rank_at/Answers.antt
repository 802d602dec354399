use Rattle.evaluation.proofs.Weights.{one_ranks, two_ranks}
use Rattle.evaluation.proofs.evaluate.Bound.rank_at.Goals as goal

pub returns-then-paired : goal.returns-then-paired
returns-then-paired c = λ places first second count at. rw (c.if-paired.true, c.size_in-size.ensures) (two_ranks _ _ _ _ _ _ (c.colour_at-a.ensures.is places) first second count at _ (c.colour_at-b.ensures.is places))

pub returns : goal.returns
returns c = λ places first second count at. rw c.if-paired.false (one_ranks _ _ _ _ _ _ (c.colour_at-a.ensures.is places) first second count at)
