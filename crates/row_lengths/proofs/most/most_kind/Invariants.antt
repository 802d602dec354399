use Rattle.firing.specs.internal.Kinds.{kind_number}
use Rattle.rows.proofs.Drawn.{Upto}
use Rattle.row_lengths.proofs.MostRows.{ArcsUpto}
use Rattle.row_lengths.proofs.most.most_kind.Given as goal

abbrev pub invariant-loop-entry : goal.invariant-loop-entry
invariant-loop-entry l = Upto l.fn.transition (kind_number l.fn.kind) l.entry-iterator (ArcsUpto l.fn.transition (kind_number l.fn.kind) l.total)
