use Rattle.firing.specs.internal.Kinds.{kind_number}
use Rattle.rows.proofs.Drawn.{Upto}
use Rattle.rows.proofs.Slotting.{SlotsUpto}
use Rattle.rows.proofs.slots.kind_slots.Given as goal

abbrev pub invariant-loop-entry : goal.invariant-loop-entry
invariant-loop-entry l = Upto l.transition (kind_number l.fn.kind) l.entry-iterator (SlotsUpto l.transition (kind_number l.fn.kind) l.total)
