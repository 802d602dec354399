use Prim.Native.Nat.{◌≤◌}
use lib.ListN.{length}
use Rattle.firing.specs.internal.Kinds.{kind_number}
use Rattle.rows.proofs.Drawn.{Upto, PlacesLoaded}
use Rattle.rows.proofs.effect.load_kind.Given as goal

abbrev pub invariant-loop-entry : goal.invariant-loop-entry
invariant-loop-entry l = record {
  upto : Upto l.fn.transition (kind_number l.fn.kind) l.entry-iterator (PlacesLoaded l.fn.transition (kind_number l.fn.kind) l.bound.env.now l.initial.room l.room l.end);
  within : l.end ≤ length l.initial.room;
}
