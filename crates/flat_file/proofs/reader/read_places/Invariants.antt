use Prim.Native.Nat.{◌-◌}
use lib.ListN.{length}
use Rattle.flat_file.proofs.Files.{PlacesSoFar}
use Rattle.flat_file.proofs.reader.read_places.Given as goal

abbrev pub invariant-loop-next : goal.invariant-loop-next
invariant-loop-next l = PlacesSoFar l.file l.start l.count l.at

abbrev pub decreases-loop-next : goal.decreases-loop-next
decreases-loop-next l = length l.file - l.at
