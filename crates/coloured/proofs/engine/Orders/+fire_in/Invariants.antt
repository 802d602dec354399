use Rattle.reading.proofs.Once.{once}
use Rattle.coloured.proofs.engine.Orders.+fire_in.Given as goal

abbrev pub decreases-fire_in : goal.decreases-fire_in
decreases-fire_in g l = once l.again
