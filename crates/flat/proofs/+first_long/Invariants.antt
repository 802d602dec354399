use Rattle.reading.proofs.Once.{once}
use Rattle.flat.proofs.+first_long.Given as goal

abbrev pub decreases-first_long : goal.decreases-first_long
decreases-first_long l = once l.again
