use Rattle.flat_file.specs.Flat.{place_part}
use Rattle.flat_file.proofs.Files.{step_goes}
use Rattle.flat_file.proofs.reader.place_at.Goals as goal

pub returns-clause-is : goal.returns-clause-is
unfolding place_part
returns-clause-is c initial e = rw e (step_goes _ _ _ 3 _ _ _ c.command_at.ensures.is)
