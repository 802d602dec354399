use mathlib.Core.Path.{◌≡◌}
use Prim.Native.Nat.{◌≤◌, ◌*◌}
use Rattle.prepared.specs.internal.Drawn.{net_of}
use Rattle.row_numbers.specs.internal.Walked.{entries}
use Rattle.row_numbers.proofs.walk.count_entries.Given as goal

abbrev pub invariant-loop-t : goal.invariant-loop-t
invariant-loop-t l = (l.total ≤ l.t * 4228250625) × (l.total ≡ entries (net_of l.drawing) l.drawing.plan l.t)
