use Rattle.std.proofs.Common.{length}
use Rattle.prepared.specs.internal.TransitionVariables.{slot_of}
use Rattle.prepared.proofs.Listing.{Slotting}
use Rattle.prepared.proofs.own.list_slots.Given as goal

abbrev pub invariant-loop-v : goal.invariant-loop-v
invariant-loop-v l = Slotting l.uses (slot_of l.sizes l.vars) l.base (length l.vars) l.initial.own l.own l.k l.v
