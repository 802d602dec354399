use Rattle.sums.proofs.bound_arc.BoundArc.+sum_runs.Given as goal

abbrev pub decreases-sum_runs : goal.decreases-sum_runs
decreases-sum_runs l = l.level
