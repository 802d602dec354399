use Rattle.flat_file.proofs.Arcs.{arc_none, arc_cut}
use Rattle.flat_file.proofs.reader.short_at.Goals as goal

pub returns-in-Some-clause-is : goal.returns-in-Some-clause-is
returns-in-Some-clause-is c = λ count before. rw c.refused.ensures (arc_cut _ _ _ _ _ c.in-Some.ensures.1 c.requires)

pub returns-in-None-clause-is : goal.returns-in-None-clause-is
returns-in-None-clause-is c = λ count before. arc_none _ _ _ _ c.in-None.ensures
