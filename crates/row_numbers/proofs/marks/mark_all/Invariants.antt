use Rattle.prepared.specs.internal.Drawn.{net_of}
use Rattle.row_numbers.proofs.Marking.{Reached}
use Rattle.row_numbers.proofs.marks.mark_all.Given as goal

abbrev pub invariant-loop-t : goal.invariant-loop-t
invariant-loop-t l = Reached (net_of l.drawing) l.drawing.plan l.initial.marks l.marks l.counts l.t l.base
