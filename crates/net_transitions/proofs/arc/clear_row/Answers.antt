use Rattle.std.proofs.Common.{arith}
use Rattle.net_transitions.proofs.Arcing.{cleared_begins, cleared_goes}
use Rattle.net_transitions.proofs.arc.clear_row.Goals as goal

pub loop-p-init : goal.loop-p-init
loop-p-init c = (omega arith, cleared_begins _ _ (omega arith))

pub loop-p-preserved : goal.loop-p-preserved
loop-p-preserved c = (omega arith, cleared_goes c.loop-p.invariant.1 (omega arith))

pub returns-clause-zeros : goal.returns-clause-zeros
returns-clause-zeros c = λ k p hk hp. c.loop-p.invariant.1.zeros k p hk (omega (arith, c.loop-p.invariant.0))

pub returns-clause-kept : goal.returns-clause-kept
returns-clause-kept c = λ i other. c.loop-p.invariant.1.kept i (λ k p hk hp. other k p hk (omega (arith, c.loop-p.invariant.0)))
