use mathlib.Core.Path.{◌≡◌}
use Prim.Native.Nat.{◌≤◌}
use lib.ListN.{length}
use Rattle.prepared.proofs.Packing.{RowPacking}
use Rattle.prepared.proofs.pack.pack_row.Given as goal

abbrev pub invariant-loop-p : goal.invariant-loop-p
invariant-loop-p l = (length l.arcs ≡ length l.initial.arcs) × (l.p ≤ l.places) × RowPacking (λ q. q) l.initial.arcs l.base l.arcs l.end l.p
