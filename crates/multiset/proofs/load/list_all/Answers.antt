use native.Mathlib.Omega.{arith}
use mathlib.Core.Path.{sym, ◌∙◌}
use Rattle.sums.proofs.Summing.{sum_listed}
use Rattle.multiset.proofs.load.list_all.Goals as goal

pub returns-then-sum-lt1-clause-is : goal.returns-then-sum-lt1-clause-is
returns-then-sum-lt1-clause-is c = λ known first second.
    sum_listed _ _ _ _ _ _ _ _ _ _ _ (c.sum_terms-sum.ensures.is known first second) (sym c.byte_at.ensures.0 ∙ c.if-byte_at-eq66.true) (omega arith)
