use Rattle.sums.proofs.Summing.{sum-joins}
use Rattle.sums.proofs.bound_arc.BoundArc.+sum_runs.Goals as goal

pub returns-clause-is : goal.returns-clause-is
returns-clause-is t c = λ known first second. sum-joins _ _ _ _ _ _ _ _ _ _ _ _ (c.sum_runs-a.ensures.is known first second) _ _ _ _ (c.sum_runs-b.ensures.is known first second) _ _ c.merge.ensures.is
