use native.Mathlib.Omega.{arith}
use mathlib.Core.Path.{sym, ap}
use lib.ListN.{length}
use Rattle.row_bytes.proofs.RowBytes.{gives_length, gives_nothing, bound_here}
use Rattle.row_bytes.proofs.stretch.Stretch.measure_one.Goals as goal

pub returns-then-has_row-clause-is : goal.returns-then-has_row-clause-is
returns-then-has_row-clause-is g c = sym (gives_length c.args.self.now.known.limits (bound_here c.args.self.now.known c.requires.inside (rw (c.plan-plan.ensures.is, c.number-t.ensures.is) at c.has_row.ensures) c.requires.binds c.if-has_row.true) c.args.arcs.now c.load_row-ends.new.arcs c.load_row-ends.ensures.is (omega arith) c.load_row-ends.ensures.within)

pub returns-clause-is : goal.returns-clause-is
returns-clause-is g c = sym (ap length (gives_nothing c.args.self.now.known c.requires.inside (rw (c.plan-plan.ensures.is, c.number-t.ensures.is) at c.has_row.ensures) c.if-has_row.false))
