use Rattle.std.proofs.Common.{arith, refl}
use Rattle.sums.proofs.Listing.{amount_listed}
use Rattle.sums.proofs.bound_arc.BoundArc.list_count.Goals as goal

pub returns-then-k-self-clause-is : goal.returns-then-k-self-clause-is
returns-then-k-self-clause-is c = λ known first second.
    amount_listed _ _ _ _ _ _ _ _ _ _ _ (omega (arith, c.word_at-weight.ensures)) (λ lt. rw c.word_at-weight.ensures.0 at c.store-many.ensures.is)
    (λ le. absurd (omega (arith, le, c.if-k-self.true))) (c.rank_at-k.ensures known first second _ _) c.requires

pub returns-else-k-self-clause-is : goal.returns-else-k-self-clause-is
returns-else-k-self-clause-is c = λ known first second.
    amount_listed _ _ _ _ _ _ _ _ _ _ _ (omega (arith, c.word_at-weight.ensures)) (λ lt. absurd (omega (arith, lt, c.if-k-self.false))) (λ le. (refl, refl))
    (c.rank_at-k.ensures known first second _ _) c.requires
