use mathlib.Core.Path.{ap, ◌∙◌}
use Rattle.reading.specs.Basics.{[]}
use Rattle.reading.specs.Reading.{whole}
use Rattle.net_parts.proofs.Listing.{sets_listed}
use Rattle.net_parts.proofs.list.read_sets.Goals as goal

pub returns-clause-is : goal.returns-clause-is
returns-clause-is c = (rw c.told-sizes at c.read_list.ensures.is) ∙ ap (λ part. whole c.args.file.now part [] c.args.start) (sets_listed c.args.file.now)
