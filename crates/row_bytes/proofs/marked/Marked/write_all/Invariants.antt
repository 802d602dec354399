use mathlib.Core.Path.{◌≡◌}
use lib.ListN.{length}
use Prim.Native.Nat.{◌-◌}
use Rattle.reading.specs.Basics.{numbers_from, below}
use Rattle.prepared.specs.internal.Drawn.{net_of}
use Rattle.row_bytes.specs.internal.RowBytes.{transition_bytes}
use Rattle.flat_file.proofs.Appending.{Going}
use Rattle.row_bytes.proofs.RowBytes.{Measuring}
use Rattle.row_bytes.proofs.marked.Marked.write_all.Given as goal

abbrev pub invariant-loop-those : goal.invariant-loop-those
invariant-loop-those g l = record {
  same : l.those-iterator.net.drawing.now ≡ l.self.drawing.now;
  measured : Measuring (transition_bytes (net_of l.self.drawing.now)) (length (net_of l.self.drawing.now).transitions) l.at l.next l.those-iterator.t;
  going : Going (transition_bytes (net_of l.self.drawing.now)) (below (length (net_of l.self.drawing.now).transitions)) (numbers_from l.those-iterator.t (length (net_of l.self.drawing.now).transitions - l.those-iterator.t)) l.initial.out l.out l.at l.next;
}
