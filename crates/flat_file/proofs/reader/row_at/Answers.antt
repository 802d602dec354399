use Rattle.flat_file.specs.Flat.{row_part}
use Rattle.flat_file.proofs.Files.{step_goes}
use Rattle.flat_file.proofs.reader.row_at.Goals as goal

pub returns-clause-is : goal.returns-clause-is
unfolding row_part
returns-clause-is c places before e = rw e (step_goes _ _ _ 1 _ _ _ c.command_at.ensures.is)
