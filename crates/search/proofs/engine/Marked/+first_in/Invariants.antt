use Rattle.reading.proofs.Once.{once}
use Rattle.search.proofs.engine.Marked.+first_in.Given as goal

abbrev pub decreases-first_in : goal.decreases-first_in
decreases-first_in g l = once l.again
