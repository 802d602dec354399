use mathlib.Core.Path.{ap, ◌∙◌}
use Rattle.reading.specs.Basics.{[]}
use Rattle.reading.specs.Reading.{whole}
use Rattle.net_parts.proofs.Listing.{variables_listed}
use Rattle.net_parts.proofs.list.read_variables.Goals as goal

pub returns-clause-is : goal.returns-clause-is
returns-clause-is c = (rw c.told-vars at c.read_list.ensures.is) ∙ ap (λ part. whole c.args.file.now part [] c.args.start) (variables_listed c.args.file.now c.args.sets.now)
