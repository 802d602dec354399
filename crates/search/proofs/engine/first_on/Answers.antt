use Rattle.rows.proofs.Fires.{roomy}
use Rattle.search.proofs.engine.first_on.Goals as goal

pub invariant_of-first_in-2-clause-roomy : goal.invariant_of-first_in-2-clause-roomy
invariant_of-first_in-2-clause-roomy c = roomy c.file.ensures.known
