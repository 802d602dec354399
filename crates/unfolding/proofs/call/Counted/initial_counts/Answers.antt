use Rattle.unfolding.proofs.Unfolds.{front_counts}
use Rattle.unfolding.proofs.call.Counted.initial_counts.Goals as goal

pub returns-clause-is : goal.returns-clause-is
returns-clause-is g c = front_counts c.args.self.now.counts c.args.self.now.long c.flat_places.ensures.is c.flat_places.ensures.small
