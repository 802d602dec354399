use Prim.Native.Nat.{◌≤◌}
use Rattle.prepared.specs.internal.Drawn.{net_of}
use Rattle.rows.proofs.Slotting.{Enough}
use Rattle.rows.proofs.slots.most_slots.Given as goal

abbrev pub invariant-loop-t : goal.invariant-loop-t
invariant-loop-t l = (l.most ≤ 786432) × Enough (net_of l.drawing) l.most l.t
