use Prim.Native.Nat.{◌≤◌, ◌*◌}
use lib.ListN.{length}
use Rattle.prepared.specs.internal.Drawn.{net_of}
use Rattle.row_bytes.specs.internal.RowBytes.{transition_bytes}
use Rattle.row_bytes.proofs.Bounded.{Bounding}
use Rattle.row_bytes.proofs.marked.Marked.bound_all.Given as goal

abbrev pub invariant-loop-t : goal.invariant-loop-t
invariant-loop-t g l = (l.total ≤ 2100000000000 * l.t) × Bounding (transition_bytes (net_of l.drawing)) (length (net_of l.drawing).transitions) l.total l.t
