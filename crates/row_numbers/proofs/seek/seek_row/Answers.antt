use native.Mathlib.Omega.{arith}
use Prim.Native.Nat.{◌<◌}
use Rattle.reading.specs.Basics.{length}
use Rattle.prepared.specs.internal.Drawn.{net_of}
use Rattle.row_numbers.proofs.Walking.{passed_none}
use Rattle.row_numbers.proofs.Seeking.{the_index, the_rows, seek_found, seek_next, seek_ends}
use Rattle.row_numbers.proofs.seek.seek_row.Goals as goal

pub loop-t-init : goal.loop-t-init
loop-t-init c = omega (arith, passed_none (net_of c.args.drawing.now))

pub returns-in-Ok-clause-told : goal.returns-in-Ok-clause-told
returns-in-Ok-clause-told c =
    let lt : c.loop-t.t < length (net_of c.args.drawing.now).transitions = omega (arith, c.transitions-t-end.ensures.is) in
    let (inside, takes, e) = rw c.transition.ensures at (the_index c.transition.result c.loop-t.left c.in-Ok.is c.seek_in.ensures) in
    (omega arith, seek_found _ c.args.row c.loop-t.invariant lt inside takes e)

pub loop-t-preserved : goal.loop-t-preserved
loop-t-preserved c = let (le, e) = rw c.transition.ensures at (the_rows c.transition.result c.loop-t.left c.in-Err.is c.seek_in.ensures) in seek_next _ c.args.row c.loop-t.invariant (omega (arith, c.transitions-t-end.ensures.is)) le e

pub returns-clause-told : goal.returns-clause-told
returns-clause-told c = seek_ends _ c.args.row c.loop-t.t c.loop-t.left c.loop-t.invariant (omega (arith, c.transitions-t-end.ensures.is))
