use Rattle.std.proofs.Common.{◌+◌}
use Rattle.sums.proofs.bound_arc.BoundArc.+list.Given as goal

abbrev pub decreases-list_joined : goal.decreases-list_joined
decreases-list_joined l = l.left + l.left + 2

abbrev pub decreases-list_terms : goal.decreases-list_terms
decreases-list_terms l = l.left + l.left + 1

abbrev pub decreases-list_times : goal.decreases-list_times
decreases-list_times l = l.left + l.left + 2
