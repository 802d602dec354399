use Prim.Native.Nat.{◌≤◌, ◌<◌, ◌-◌}
use Rattle.reading.specs.Basics.{numbers_from, below}
use Rattle.bindings.specs.internal.Bindings.{BindsIts}
use Rattle.row_bytes.specs.internal.RowBytes.{bytes_at}
use Rattle.flat_file.proofs.Appending.{Going}
use Rattle.row_bytes.proofs.RowBytes.{Measuring}
use Rattle.row_bytes.proofs.stretch.Stretch.write_bindings.Given as goal

abbrev pub invariant-loop-i : goal.invariant-loop-i
invariant-loop-i g l = record {
  inside : l.i ≤ l.many;
  binds : l.i < l.many → BindsIts l.self.transition l.i l.env;
  measured : Measuring (bytes_at l.self.transition) l.many l.at l.next l.i;
  going : Going (bytes_at l.self.transition) (below l.many) (numbers_from l.i (l.many - l.i)) l.initial.out l.out l.at l.next;
}

abbrev pub decreases-loop-i : goal.decreases-loop-i
decreases-loop-i g l = l.many - l.i
