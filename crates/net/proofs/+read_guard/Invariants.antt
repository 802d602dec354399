use Rattle.net.proofs.+read_guard.Given as goal

abbrev pub decreases-read_guard : goal.decreases-read_guard
decreases-read_guard l = l.left
