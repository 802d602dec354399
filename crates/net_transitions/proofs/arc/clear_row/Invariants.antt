use Prim.Native.Nat.{◌≤◌}
use Rattle.net_transitions.proofs.Arcing.{Cleared}
use Rattle.net_transitions.proofs.arc.clear_row.Given as goal

abbrev pub invariant-loop-p : goal.invariant-loop-p
invariant-loop-p l = (l.p ≤ l.places) × Cleared l.fn.arcs l.arcs l.from l.p
