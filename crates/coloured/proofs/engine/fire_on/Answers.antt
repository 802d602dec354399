use Rattle.rows.proofs.Fires.{roomy}
use Rattle.coloured.proofs.engine.fire_on.Goals as goal

pub invariant_of-fire_in-2-clause-roomy : goal.invariant_of-fire_in-2-clause-roomy
invariant_of-fire_in-2-clause-roomy c = roomy c.file.ensures.known
