use Rattle.prepared.proofs.Packing.{Packing}
use Rattle.prepared.proofs.pack.pack_arcs.Given as goal

abbrev pub invariant-loop-row : goal.invariant-loop-row
invariant-loop-row l = Packing (λ p. p) l.initial.arcs l.places l.arcs l.row
