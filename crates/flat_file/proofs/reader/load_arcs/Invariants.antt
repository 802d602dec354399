use Prim.Native.Nat.{◌-◌}
use lib.ListN.{length}
use Rattle.flat_file.proofs.Arcs.{Loaded}
use Rattle.flat_file.proofs.reader.load_arcs.Given as goal

abbrev pub invariant-loop-kind : goal.invariant-loop-kind
invariant-loop-kind l = Loaded l.file l.at (length l.initial.arcs) l.arcs l.ends l.next

abbrev pub decreases-loop-kind : goal.decreases-loop-kind
decreases-loop-kind l = length l.file - l.next
