use mathlib.Core.Path.{◌≡◌}
use Prim.Native.Nat.{◌≤◌, ◌*◌}
use lib.ListN.{length}
use Rattle.prepared.specs.internal.Drawn.{net_of}
use Rattle.row_bytes.specs.internal.RowBytes.{transition_bytes}
use Rattle.row_bytes.proofs.RowBytes.{Measuring}
use Rattle.row_bytes.proofs.marked.Marked.measure_all.Given as goal

abbrev pub invariant-loop-those : goal.invariant-loop-those
invariant-loop-those g l = record {
  same : l.those-iterator.net.drawing.now ≡ l.self.drawing.now;
  low : l.total ≤ 4026597376 * l.those-iterator.t;
  measured : Measuring (transition_bytes (net_of l.self.drawing.now)) (length (net_of l.self.drawing.now).transitions) 0 l.total l.those-iterator.t;
}
