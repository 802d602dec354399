use Rattle.reading.specs.Basics.{flat_map, take}
use Rattle.flat_file.specs.internal.Output.{Appended}
use Rattle.flat_file.proofs.Written.{place_bytes}
use Rattle.flat_file.proofs.write.write_places.Given as goal

abbrev pub invariant-loop-count : goal.invariant-loop-count
invariant-loop-count l = Appended l.fn.out l.out l.at l.next (flat_map place_bytes (take l.count-index l.counts))
