use native.Mathlib.Omega.{arith}
use Rattle.reading.specs.Basics.{flat_map}
use Rattle.rows.proofs.Drawn.{upto_begins}
use Rattle.row_lengths.proofs.MostRows.{most_goes, most_ends}
use Rattle.row_lengths.proofs.most.most_kind.Goals as goal

pub loop-entry-init : goal.loop-entry-init
unfolding flat_map
loop-entry-init c = upto_begins c.into_iter-entry-iterator.ensures.into_iter_gives c.entries_of-entry-items.ensures (omega arith, λ value fits. omega arith)

pub loop-entry-preserved : goal.loop-entry-preserved
loop-entry-preserved c = most_goes c.loop-entry.invariant c.in-Some.ensures.steps (rw (← c.bound-bound.ensures.is.0, ← c.bound-bound.ensures.is.1) c.most_arcs-total.ensures.is) c.most_arcs-total.ensures.small

pub returns-clause-is : goal.returns-clause-is
returns-clause-is c = most_ends c.loop-entry.invariant c.in-None.ensures.steps
