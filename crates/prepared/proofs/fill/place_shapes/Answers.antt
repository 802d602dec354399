use Rattle.std.proofs.Common.{arith}
use Rattle.prepared.specs.internal.Packed.{shape_in}
use Rattle.plan.proofs.Sections.{placing_ends, placed_same}
use Rattle.prepared.proofs.Filling.{values_many, shaping_goes}
use Rattle.prepared.proofs.fill.place_shapes.Goals as goal

pub loop-p-preserved : goal.loop-p-preserved
loop-p-preserved c = shaping_goes _ _ _ c.loop-p.invariant (omega arith) c.requires (omega (arith, c.told-plan)) c.shape_of.ensures.is

pub returns : goal.returns
returns c = placed_same (placing_ends c.loop-p.invariant (omega (arith, values_many (shape_in c.args.tables.now.kinds c.args.tables.now.starts) c.args.places)))
