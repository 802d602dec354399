use Prim.Native.Nat.{◌-◌}
use lib.ListN.{length}
use Rattle.firing.specs.Arcs.{Row}
use Rattle.flat_file.proofs.Arcs.{ArcsRead}
use Rattle.flat_file.proofs.reader.pass_arcs.Given as goal

abbrev pub invariant-loop-read : goal.invariant-loop-read
invariant-loop-read l = (r : Row) × ArcsRead l.file l.count l.at r l.least l.next

abbrev pub decreases-loop-read : goal.decreases-loop-read
decreases-loop-read l = length l.file - l.next
