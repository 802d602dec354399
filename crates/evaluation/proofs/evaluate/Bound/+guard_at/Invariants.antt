use Rattle.evaluation.proofs.evaluate.Bound.+guard_at.Given as goal

abbrev pub decreases-guard_at : goal.decreases-guard_at
decreases-guard_at l = l.left
