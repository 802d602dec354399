use native.Mathlib.Omega.{arith}
use Rattle.rows.proofs.Slotting.{all_enough}
use Rattle.rows.proofs.slots.most_slots.Goals as goal

pub returns-clause-is : goal.returns-clause-is
returns-clause-is c = all_enough _ (λ u h. c.loop-t.invariant.1 u (omega arith))
