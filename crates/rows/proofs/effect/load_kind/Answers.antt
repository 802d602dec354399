use native.Mathlib.Omega.{arith}
use Rattle.reading.specs.Basics.{flat_map}
use Rattle.runs.proofs.Laying.{laid_none, length-behind}
use Rattle.rows.proofs.Drawn.{upto_begins, kind_goes, kind_ends}
use Rattle.rows.proofs.effect.load_kind.Goals as goal

pub loop-entry-init : goal.loop-entry-init
unfolding flat_map
loop-entry-init c = record { upto = upto_begins c.into_iter-entry-iterator.ensures.into_iter_gives c.entries_of-entry-items.ensures (λ x. laid_none c.args.room.now); within = omega arith }

pub loop-entry-preserved : goal.loop-entry-preserved
loop-entry-preserved c = record {
  upto = kind_goes c.args.bound.now.env.now c.loop-entry.invariant.upto c.in-Some.ensures.steps (rw (← c.requires.0, ← c.requires.1) c.load_arc-end.ensures.is) (omega (arith, c.loop-entry.invariant.within, c.loop-entry.auto.room));
  within = omega (arith, c.load_arc-end.ensures.within, length-behind c.loop-entry.end c.loop-entry.room, c.loop-entry.invariant.within, c.loop-entry.auto.room);
}

pub returns-clause-is : goal.returns-clause-is
returns-clause-is c = kind_ends c.args.bound.now.env.now c.loop-entry.invariant.upto c.in-None.ensures.steps
