use Rattle.std.proofs.Common.{◌≡◌}
use Rattle.reading.specs.Basics.{map, below}
use Rattle.plan.proofs.Sections.{Placing}
use Rattle.prepared.specs.internal.Packed.{shape_in}
use Rattle.prepared.proofs.fill.place_shapes.Given as goal

abbrev pub invariant-loop-p : goal.invariant-loop-p
invariant-loop-p l = Placing (λ x y. y ≡ x) 56 (map (shape_in l.tables.kinds l.tables.starts) (below l.places)) l.initial.plan l.plan l.p
