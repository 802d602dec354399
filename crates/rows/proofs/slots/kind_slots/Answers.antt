use native.Mathlib.Omega.{arith}
use Rattle.rows.proofs.Slotting.{slots_go, slots_end}
use Rattle.rows.proofs.slots.kind_slots.Goals as goal

pub loop-entry-preserved : goal.loop-entry-preserved
loop-entry-preserved c = slots_go c.loop-entry.invariant c.in-Some.ensures.steps (rw (← c.file-file.ensures.is) c.slots_for-total.ensures.is) (omega arith) (omega arith)

pub returns-clause-is : goal.returns-clause-is
returns-clause-is c = slots_end c.loop-entry.invariant c.in-None.ensures.steps
