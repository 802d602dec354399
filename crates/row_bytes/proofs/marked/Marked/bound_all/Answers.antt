use native.Mathlib.Omega.{arith}
use Prim.Native.Nat.{◌+◌, ◌*◌}
use Rattle.prepared.specs.internal.Drawn.{net_of}
use Rattle.row_bytes.specs.internal.RowBytes.{transition_bytes}
use Rattle.row_bytes.proofs.Bounded.{product-most, rows_few, transition_most, bound_goes, bound_ends}
use Rattle.row_bytes.proofs.marked.Marked.bound_all.Goals as goal

pub overflow_mul-total-in-loop-t : goal.overflow_mul-total-in-loop-t
overflow_mul-total-in-loop-t g c = omega (arith, product-most _ (1 + 5 * c.most_row-most.result) (rows_few c.transitions-t-end.ensures.known c.requires {t = c.loop-t.t} (omega arith)) (omega arith))

pub overflow_add-total-in-loop-t : goal.overflow_add-total-in-loop-t
overflow_add-total-in-loop-t g c = omega (arith, c.loop-t.invariant.0, product-most _ (1 + 5 * c.most_row-most.result) (rows_few c.transitions-t-end.ensures.known c.requires {t = c.loop-t.t} (omega arith)) (omega arith))

pub loop-t-preserved : goal.loop-t-preserved
loop-t-preserved g c = (
  omega (arith, c.loop-t.invariant.0, product-most _ (1 + 5 * c.most_row-most.result) (rows_few c.transitions-t-end.ensures.known c.requires {t = c.loop-t.t} (omega arith)) (omega arith)),
  bound_goes (transition_bytes (net_of c.args.self.now.drawing.now)) _ c.loop-t.invariant.1 (omega arith) (transition_most c.transitions-t-end.ensures.known c.requires {t = c.loop-t.t} (omega arith) (rw c.transition.ensures at c.most_row-most.ensures.is)),
)

pub returns-clause-is : goal.returns-clause-is
returns-clause-is g c = bound_ends (transition_bytes (net_of c.args.self.now.drawing.now)) _ c.loop-t.invariant.1 (omega arith)
