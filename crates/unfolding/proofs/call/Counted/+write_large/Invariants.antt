use Rattle.reading.proofs.Once.{once}
use Rattle.unfolding.proofs.call.Counted.+write_large.Given as goal

abbrev pub decreases-write_large : goal.decreases-write_large
decreases-write_large g l = once l.again
