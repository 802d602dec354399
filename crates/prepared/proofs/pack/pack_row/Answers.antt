use native.Mathlib.Omega.{arith}
use mathlib.Core.Path.{refl}
use Rattle.prepared.proofs.Packing.{row_begins, row_room, row_fits, row_goes, row_keeps, row_ends, closed-with, closed_full}
use Rattle.prepared.proofs.pack.pack_row.Goals as goal

pub loop-p-init : goal.loop-p-init
loop-p-init c = (refl, omega arith, row_begins)

pub pack_place-end-requires : goal.pack_place-end-requires
pack_place-end-requires c = (row_fits c.loop-p.invariant.2 c.requires.2 c.loop-p-test.true, omega (arith, c.requires.0, c.loop-p-test.true), let room = row_room c.loop-p.invariant.2 (omega (arith, c.requires.0, c.loop-p-test.true)) (omega (arith, c.requires.1, c.told-arcs, c.loop-p.invariant.0)) in omega (arith, room, c.told-arcs, c.loop-p.invariant.0))

pub loop-p-preserved : goal.loop-p-preserved
loop-p-preserved c = (omega (arith, c.pack_place-end.array_long, c.told-arcs), omega (arith, c.loop-p-test.true), row_goes c.loop-p.invariant.2 refl c.pack_place-end.ensures.is)

pub returns-then-end-base-clause-front : goal.returns-then-end-base-clause-front
returns-then-end-base-clause-front c = row_keeps c.loop-p.invariant.2 (closed-with c.args.base c.loop-p.end c.loop-p.arcs c.if-end-base.true (omega (arith, c.requires.1, c.told-arcs, c.loop-p.invariant.0))) (omega (arith, c.requires.1, c.told-arcs))

pub returns-then-end-base-clause-is : goal.returns-then-end-base-clause-is
returns-then-end-base-clause-is c = row_ends c.loop-p.invariant.2 (closed-with c.args.base c.loop-p.end c.loop-p.arcs c.if-end-base.true (omega (arith, c.requires.1, c.told-arcs, c.loop-p.invariant.0))) (omega (arith, c.loop-p.invariant.1, c.loop-p-test.false)) (omega (arith, c.requires.1, c.told-arcs))

pub returns-else-end-base-clause-front : goal.returns-else-end-base-clause-front
returns-else-end-base-clause-front c = row_keeps c.loop-p.invariant.2 (closed_full c.args.base c.loop-p.end c.loop-p.arcs c.if-end-base.false) (omega (arith, c.requires.1, c.told-arcs))

pub returns-else-end-base-clause-is : goal.returns-else-end-base-clause-is
returns-else-end-base-clause-is c = row_ends c.loop-p.invariant.2 (closed_full c.args.base c.loop-p.end c.loop-p.arcs c.if-end-base.false) (omega (arith, c.loop-p.invariant.1, c.loop-p-test.false)) (omega (arith, c.requires.1, c.told-arcs))
