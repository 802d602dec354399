use Prim.Native.Nat.{◌≤◌, ◌<◌, ◌*◌}
use Rattle.bindings.specs.internal.Bindings.{BindsIts}
use Rattle.row_bytes.specs.internal.RowBytes.{bytes_at}
use Rattle.row_bytes.proofs.RowBytes.{Measuring}
use Rattle.row_bytes.proofs.stretch.Stretch.measure_bindings.Given as goal

abbrev pub invariant-loop-i : goal.invariant-loop-i
invariant-loop-i g l = record {
  low : l.total ≤ 61441 * l.i;
  binds : l.i < l.self.many → BindsIts l.self.transition l.i l.env;
  measured : Measuring (bytes_at l.self.transition) l.self.many 0 l.total l.i;
}
