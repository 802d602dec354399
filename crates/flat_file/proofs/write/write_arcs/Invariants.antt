use Rattle.reading.specs.Basics.{flat_map, take}
use Rattle.flat_file.specs.Flat.{arc_bytes}
use Rattle.flat_file.specs.internal.Output.{Appended}
use Rattle.flat_file.proofs.write.write_arcs.Given as goal

abbrev pub invariant-loop-a : goal.invariant-loop-a
invariant-loop-a l = Appended l.fn.out l.out l.at l.next (flat_map (arc_bytes l.byte) (take l.a-index l.arcs))
