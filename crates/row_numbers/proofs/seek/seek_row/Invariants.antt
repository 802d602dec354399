use mathlib.Core.Path.{◌≡◌}
use Prim.Native.Nat.{◌+◌}
use Rattle.prepared.specs.internal.Drawn.{net_of}
use Rattle.bindings.specs.internal.Numbers.{before}
use Rattle.row_numbers.specs.internal.Walked.{passed}
use Rattle.row_numbers.proofs.seek.seek_row.Given as goal

abbrev pub invariant-loop-t : goal.invariant-loop-t
invariant-loop-t l = l.row ≡ l.left + passed (net_of l.drawing) (before (net_of l.drawing) l.t)
