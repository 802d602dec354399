use native.Mathlib.Omega.{arith}
use Rattle.prepared.proofs.Packing.{pack_fits, pack_goes, pack_ends}
use Rattle.prepared.proofs.pack.pack_arcs.Goals as goal

pub pack_row-requires : goal.pack_row-requires
pack_row-requires c = (c.requires.0, omega (arith, c.requires.1, c.loop-row-test.true), pack_fits c.loop-row.invariant (omega (arith, c.loop-row-test.true)) c.requires.2)

pub loop-row-preserved : goal.loop-row-preserved
loop-row-preserved c = pack_goes c.loop-row.invariant c.pack_row.ensures.front c.pack_row.ensures.is c.pack_row.ensures.back

pub returns : goal.returns
returns c = pack_ends c.loop-row.invariant (omega (arith, c.loop-row-test.false))
