use Rattle.reading.proofs.Once.{once}
use Rattle.multiset.proofs.load.+load_listed.Given as goal

abbrev pub decreases-load_listed : goal.decreases-load_listed
decreases-load_listed l = once l.again
