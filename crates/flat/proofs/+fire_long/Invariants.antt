use Rattle.reading.proofs.Once.{once}
use Rattle.flat.proofs.+fire_long.Given as goal

abbrev pub decreases-fire_long : goal.decreases-fire_long
decreases-fire_long l = once l.again
