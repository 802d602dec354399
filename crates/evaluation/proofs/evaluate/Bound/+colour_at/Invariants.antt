use Rattle.evaluation.proofs.evaluate.Bound.+colour_at.Given as goal

abbrev pub decreases-colour_at : goal.decreases-colour_at
decreases-colour_at l = l.left
