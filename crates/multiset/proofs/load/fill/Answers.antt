use native.Mathlib.Omega.{arith}
use Rattle.multiset.proofs.Loads.{fill_none, filling_goes, filling_ends}
use Rattle.multiset.proofs.load.fill.Goals as goal
use Rattle.multiset.proofs.load.fill.Goals.{then-weight-lt1-via-then-weight-lt1, then-weight-lt1-via-else-weight-lt1+then-room-many}

pub returns-then-weight-lt1-clause-is : goal.returns-then-weight-lt1-clause-is
returns-then-weight-lt1-clause-is c = λ fits. elim c.then-weight-lt1.branch [
  | then-weight-lt1-via-then-weight-lt1 w ↦ fill_none _ _ _ _ (omega arith)
  | then-weight-lt1-via-else-weight-lt1+then-room-many w ↦ absurd (omega arith)
]

pub loop-i-preserved : goal.loop-i-preserved
loop-i-preserved c = filling_goes _ _ _ _ _ _ c.loop-i.invariant c.loop-i-test.true (λ h. omega arith) (omega arith)

pub returns-clause-is : goal.returns-clause-is
returns-clause-is c = λ fits. filling_ends _ _ _ _ _ _ c.loop-i.invariant (omega arith)
